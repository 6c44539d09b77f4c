-- A CHUNK TAKEN from a list leaves a state that shows the model with it taken, and its payload emptied. Assumes nothing.
use mathlib.Core.Path.{◌≡◌, refl, sym, ap, ◌∙◌, subst}
use mathlib.Core.Bool.{Bool, true, false}
use mathlib.Core.List.{List, ◌∷◌, ◌++◌}
use Prim.Native.Nat.{ℕ, ◌+◌, ◌-◌, ◌/◌, ◌%◌, ◌≤◌, ◌<◌}
use native.Mathlib.Omega.{arith}
use native.Mathlib.Nat.{zero-add}
use lib.Dec.{ltb}
use lib.ListN.{length, get_or}
use lib.Seq.{get_or-append_seam}
use Rattle.words.specs.Choice.{pick}
use Rattle.rules.specs.Rules.Ops.{Ops}
use Rattle.rules.specs.Rules.Steps.{portion, length_at, take_chunk, emptied}
use Rattle.rules.proofs.Tiling.Bytes.{take_step, take_words}
use Rattle.rules.proofs.Steps.Store.{LinkStore, Edition}
use Rattle.rules.specs.Rules.Chunks.{Chunk, free, busy, total, taken}
use Rattle.rules.proofs.Tiling.Chunks.{total_append, taken_calm}
use Rattle.rules.proofs.Steps.Part.{legal_front, legal_back}
use Rattle.rules.proofs.Steps.Calls.{total_8}
use Rattle.rules.specs.Machine.Orders.{taken_orders}
use Rattle.rules.proofs.Steps.Take.{take_refines}
use Rattle.rules.specs.Rules.Place.{len_at, used_at}
use Rattle.rules.proofs.Tiling.Place.{len_at_lem, index_at_lem}
use Rattle.words.specs.Sizes.{class_of}
use Rattle.words.proofs.Laws.Sizes.{class_below}
use Rattle.rules.proofs.Tiling.Named.{size_at, byte_at}
use Rattle.rules.specs.Rules.Calls.{Figures, byte_of}
use Rattle.rules.specs.Rules.Calls.{counted}
use Rattle.rules.specs.Sound.Model.{Model}
use Rattle.rules.specs.Machine.Machine.{took_m}
use Rattle.rules.specs.Sound.Sound.{Under, CacheRight, Shows}
use Rattle.rules.proofs.Tiling.LiveSums.{held_same, live_and_held}
use Rattle.rules.proofs.Tiling.Facts.{taken_used, taken_there, taken_sums, under_more, under_taken}
use Rattle.rules.proofs.Demands.Numbers.{sum_under, portion_8, portion_le, portion_least}
use Rattle.rules.proofs.Demands.Shown.{model, shown, whole_rest, L, whole, in_use_held, emptied_shows}

-- the flag after a handout from a list: on, or as it was
flag_at : (t : Bool) (n : ℕ) → n ≤ 1 → pick t 1 n ≤ 1
flag_at true n h = omega arith
flag_at false n h = h

module _ {S : Type 0} {op : Ops S Figures} {most places : ℕ} (E : Edition op most places) where
  abbrev Sh : S → Model → Type 0
  Sh = Shows op most places

  -- TAKEN from a list
  pub took : (s : S) (pre : List Chunk) (n : ℕ) (post : List Chunk) (O : ℕ → List ℕ) (f : Figures) (x z : ℕ) → 16 ≤ z → z % 8 ≡ 0 → x ≡ (0 + total pre) / 4 + 6
      → Sh s (model (pre ++ free n ∷ post) O f)
      → Sh (op.set_rest (take_chunk op s (x - 6) (length_at op s x) z)
      (counted (op.rest s) (portion (length_at op s x) z) (byte_of x + portion (length_at op s x) z)))
      (took_m (model (pre ++ free n ∷ post) O f) x (len_at (pre ++ free n ∷ post) (byte_of x)) z)
  unfolding took_m
  took s pre n post O f x z z16 z8 e h =
      let w = whole E s (model (pre ++ free n ∷ post) O f) h in
      let a = h.accepted in
      let L = E.store (op.count s) a in
      let lp = legal_front pre (free n ∷ post) h.legal in
      let ln = legal_back pre (free n ∷ post) h.legal in
      let t8 = total_8 pre lp in
      let b : byte_of x ≡ 0 + total pre = byte_at pre x lp e in
      let y : length_at op s x ≡ n = size_at L class_of class_below s O pre n post x e w in
      let i = index_at_lem pre (free n) post (0 + total pre) lp (omega arith) in
      let j = len_at_lem pre (free n) post (0 + total pre) lp (omega arith) in
      let p8 = portion_8 n z ln.1 z8 in
      let ple = portion_le n z in
      let g : Figures = counted f (portion n z) (0 + total pre + portion n z) in
      let fl = h.fills in
      let ta = total_append pre (free n ∷ post) in
      let su = taken_sums pre n post z in
      let cu = h.right.committed in
      let iu = in_use_held E s (model (pre ++ free n ∷ post) O f) h in
      let un : Under g.high 0 (taken (pre ++ free n ∷ post) (length pre) z) =
      under_taken g.high 0 pre n post z (under_more f.high g.high 0 (pre ++ free n ∷ post) (omega arith) h.right.ends) (omega arith) in
      let top = sum_under g.high (taken (pre ++ free n ∷ post) (length pre) z) un in
      let c : CacheRight places f.cached (taken (pre ++ free n ∷ post) (length pre) z) = record {
        used = λ k q. let u = h.cache.used k q in
            (u.0, subst (λ (v : ℕ). 0 < v) (sym (taken_used pre n post z (byte_of k) h.legal z16 (let v = u.1 in omega arith))) u.1);
        once = h.cache.once;
        room = h.cache.room;
      } in
      let hs = held_same f.cached (taken (pre ++ free n ∷ post) (length pre) z) (pre ++ free n ∷ post)
      (λ k q. taken_used pre n post z (byte_of k) h.legal z16 (let v = (h.cache.used k q).1 in omega arith)) in
      let wt = take_refines L class_of class_below s O pre n post z z16 z8 h.calm w in
      let lh = live_and_held f.cached (taken (pre ++ free n ∷ post) (length pre) z) wt.legal c.once c.used in
      rw (take_words op s (x - 6) (length_at op s x) z (omega arith), y, b, i, j, h.figs)
      (shown E (op.count s) a (op.set_rest (take_step op class_of s (0 + total pre) n z) g)
      (model (taken (pre ++ free n ∷ post) (length pre) z) (taken_orders class_of O (0 + total pre) n z) g)
      (whole_rest E L (take_step op class_of s (0 + total pre) n z) g (taken_orders class_of O (0 + total pre) n z)
      (taken (pre ++ free n ∷ post) (length pre) z) wt)
      (taken_calm (pre ++ free n ∷ post) (length pre) z h.calm (free_seam pre n post))
      (L.rest-set_rest (take_step op class_of s (0 + total pre) n z) g (E.fit (op.count s) a g h.cache.room (λ k q. (h.cache.used k q).0)))
      h.words c
      (let hp = h.right.peak in let hh = h.right.high in let hb = h.right.heap in let h8 = h.right.eights in
      record {
        in_use = omega arith;
        committed = omega arith;
        peak = omega arith;
        high = omega arith;
        heap = omega arith;
        eights = omega arith;
        ends = un;
        flag = flag_at (ltb f.high (0 + total pre + portion n z)) f.flag h.right.flag;
      }))
    where
      free_seam : (pre : List Chunk) (n : ℕ) (post : List Chunk) → (get_or (pre ++ free n ∷ post) (length pre) (busy 0)).used ≡ false
      free_seam pre n post = ap (λ (c : Chunk). c.used) (get_or-append_seam pre (free n) post (busy 0))

  -- the chunk taken is a used one, and its payload is emptied
  pub took_used : (s : S) (pre : List Chunk) (n : ℕ) (post : List Chunk) (O : ℕ → List ℕ) (f : Figures) (x z : ℕ) → x ≡ (0 + total pre) / 4 + 6
      → Sh s (model (pre ++ free n ∷ post) O f)
      → used_at (took_m (model (pre ++ free n ∷ post) O f) x (len_at (pre ++ free n ∷ post) (byte_of x)) z).cs (byte_of x) ≡ portion (length_at op s x) z
  unfolding took_m
  took_used s pre n post O f x z e h =
      let w = whole E s (model (pre ++ free n ∷ post) O f) h in
      let lp = legal_front pre (free n ∷ post) h.legal in
      let b : byte_of x ≡ total pre = byte_at pre x lp e ∙ zero-add (total pre) in
      rw (size_at L' class_of class_below s O pre n post x e w, b, index_at_lem pre (free n) post (total pre) lp refl) (taken_there pre n post z lp)
    where
      L' : LinkStore op
      L' = L E s (model (pre ++ free n ∷ post) O f) h

  pub took_emptied : (s : S) (pre : List Chunk) (n : ℕ) (post : List Chunk) (O : ℕ → List ℕ) (f : Figures) (x z : ℕ) → 16 ≤ z → z % 8 ≡ 0
      → x ≡ (0 + total pre) / 4 + 6 → Sh s (model (pre ++ free n ∷ post) O f)
      → Sh (emptied op (op.set_rest (take_chunk op s (x - 6) (length_at op s x) z)
      (counted (op.rest s) (portion (length_at op s x) z) (byte_of x + portion (length_at op s x) z)))
      (x - 6) (portion (length_at op s x) z))
      (took_m (model (pre ++ free n ∷ post) O f) x (len_at (pre ++ free n ∷ post) (byte_of x)) z)
  took_emptied s pre n post O f x z z16 z8 e h =
      let n16 : 16 ≤ n = (legal_back pre (free n ∷ post) h.legal).0 in
      let m : Model = model (pre ++ free n ∷ post) O f in
      let y : length_at op s x ≡ n = size_at (L E s m h) class_of class_below s O pre n post x e (whole E s m h) in
      emptied_shows E _ _ (took s pre n post O f x z z16 z8 e h) x (portion (length_at op s x) z) (omega arith) (took_used s pre n post O f x z e h)
      (portion_least 1 (length_at op s x) z (omega arith) (omega arith))
