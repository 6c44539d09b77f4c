-- A WALK BY THE HEADERS meets every live payload. Assumes nothing.
use mathlib.Core.Path.{◌≡◌, refl, sym, ap, ◌∙◌, subst}
use mathlib.Core.Bool.{Bool, true, false}
use mathlib.Core.List.{List, [], ◌∷◌, ◌++◌, append_assoc}
use Prim.Native.Nat.{ℕ, ◌+◌, ◌-◌, ◌*◌, ◌/◌, ◌%◌, ◌≤◌, ◌<◌}
use native.Mathlib.Omega.{arith}
use lib.Dec.{eqb}
use borrow.Author.Tests.{le-leb}
use Rattle.words.specs.Choice.{pick, bit}
use Rattle.words.proofs.Laws.Choice.{bit_small}
use Rattle.words.specs.Links.{narrow, wide}
use Rattle.rules.specs.Rules.Ops.{Ops}
use Rattle.rules.specs.Rules.State.{ops}
use Rattle.rules.specs.Rules.Chunks.{Chunk, busy, total, Legal}
use Rattle.rules.proofs.Tiling.Chunks.{total_append}
use Rattle.rules.specs.Sound.Tags.{Tags}
use Rattle.rules.proofs.Tiling.Tags.{last_used, tags_back}
use Rattle.rules.specs.Rules.Place.{used_at}
use Rattle.rules.proofs.Tiling.Place.{used_at_lem, used_skip, header_len, header_used}
use Rattle.rules.proofs.Steps.Part.{legal_front, legal_back}
use Rattle.rules.proofs.Steps.Store.{Edition}
use Rattle.rules.specs.Rules.Calls.{Figures, name_of, listed}
use Rattle.rules.specs.Sound.Model.{Model}
use Rattle.rules.specs.Machine.Machine.{live_m}
use Rattle.rules.specs.Sound.Sound.{Shows}
use Rattle.rules.specs.Sound.Test.{soundᵇ}
use Rattle.rules.specs.Demands.Lives.{live_at}
use Rattle.rules.specs.Demands.Edges.{length_seen, live_seen, Edge, Edges}
use Rattle.rules.proofs.Demands.Follow.{live_is}
use Rattle.rules.proofs.Tiling.Facts.{inside, here}
use Rattle.rules.proofs.Demands.Lives.{live_shown, live_unused}
use Rattle.rules.proofs.Demands.Proved.{narrow_edition, wide_edition}

-- live at a payload, by the layout and the cache
live_by : (m : Model) (e : ℕ) → live_m m (e + 4) ≡ pick (listed (name_of e) m.figs.cached) 0 (used_at m.cs e)
unfolding live_m
live_by m e =
    let b : e + 4 - 4 ≡ e = omega arith in
    rw (le-leb 4 (e + 4) (omega arith), b) refl

module _ {S : Type 0} {op : Ops S Figures} {most places : ℕ} (E : Edition op most places) where
  -- the chunk at an edge
  module _ (s : S) (m : Model) (h : Shows op most places s m) (pre : List Chunk) (c : Chunk) (post : List Chunk) (is : m.cs ≡ pre ++ c ∷ post) where
    lg : Legal (pre ++ c ∷ post)
    lg = subst Legal is h.legal

    lc : (16 ≤ c.len) × (c.len % 8 ≡ 0) × Legal post
    lc = legal_back pre (c ∷ post) lg

    header : op.word s (total pre / 4) ≡ c.len + 2 * bit c.used + bit (last_used true pre)
    header =
        let t = tags_back (op.word s) 0 true pre (c ∷ post) (subst (λ cs. Tags (op.word s) 0 true cs) is h.tags) in
        ap (λ (x : ℕ). op.word s (x / 4)) (let q : total pre ≡ 0 + total pre = omega arith in q) ∙ t.0

    long : length_seen op most places s (total pre) ≡ c.len
    long = header_len (op.word s (total pre / 4)) c.len (bit c.used) (bit (last_used true pre)) lc.1 (bit_small c.used)
        (bit_small (last_used true pre)) header

    used_here : used_at m.cs (total pre) ≡ pick c.used c.len 0
    used_here =
        ap (λ cs. used_at cs (total pre)) is ∙ used_skip pre (c ∷ post) (total pre) (legal_front pre (c ∷ post) lg) (omega arith)
        ∙ ap (used_at (c ∷ post)) (let q : total pre - total pre ≡ 0 = omega arith in q) ∙ here c post

    live_here : live_at op most places s (total pre + 4) ≡ live_seen op most places s (total pre)
    live_here =
        let u = header_used (op.word s (total pre / 4)) c.len (bit c.used) (bit (last_used true pre)) lc.1 (bit_small c.used)
        (bit_small (last_used true pre)) header in
        live_shown E s m h (total pre + 4) ∙ live_by m (total pre) ∙ rw (used_here, long, u, h.figs)
        (go c.used (listed (name_of (total pre)) m.figs.cached))
      where
        go : (u v : Bool) → pick v 0 (pick u c.len 0) ≡ pick (eqb (bit u) 0) 0 (pick v 0 c.len)
        go true true = refl
        go true false = refl
        go false true = refl
        go false false = refl

    live_inside : (b : ℕ) → total pre < b → b < total pre + c.len → live_at op most places s (b + 4) ≡ 0
    live_inside b lo hi =
        let q : b + 4 - 4 ≡ b = omega arith in
        live_shown E s m h (b + 4) ∙ live_unused m (b + 4) (ap (used_at m.cs) q ∙ ap (λ cs. used_at cs b) is
        ∙ used_skip pre (c ∷ post) b (legal_front pre (c ∷ post) lg) (omega arith) ∙ inside c post (b - total pre) (omega arith) (omega arith))

    on : Edge op most places s (total pre + c.len)
    on = record {
      shows = m;
      abs = h;
      pre = pre ++ c ∷ [];
      post = post;
      is = is ∙ sym (append_assoc pre (c ∷ []) post);
      byte = let a = total_append pre (c ∷ []) in omega arith;
    }

    ends : total pre + c.len ≤ 4 * (op.count s - 1)
    ends = let a = total_append pre (c ∷ post) in let f : total (pre ++ c ∷ post) ≡ 4 * (op.count s - 1) = sym (ap total is) ∙ h.fills in omega arith

  -- before the guard there is one
  split_edge : (s : S) (e : ℕ) (g : Edge op most places s e) → e < 4 * (op.count s - 1) → (P : ℕ → Type 0)
      → ((c : Chunk) (post : List Chunk) → g.shows.cs ≡ g.pre ++ c ∷ post → P (total g.pre)) → P e
  split_edge s e g lt P f = subst P (sym g.byte) (go g.post g.is)
    where
      go : (post : List Chunk) → g.shows.cs ≡ g.pre ++ post → P (total g.pre)
      go [] is = absurd (let a = total_append g.pre [] in let t : total (g.pre ++ []) ≡ 4 * (op.count s - 1) = sym (ap total is) ∙ g.abs.fills in
          let b = g.byte in omega arith)
      go (c ∷ post) is = f c post is

  -- with a length in it: at the guard it is 0
  at_guard : (s : S) (g : Edge op most places s (4 * (op.count s - 1))) → length_seen op most places s (4 * (op.count s - 1)) ≡ 0
  at_guard s g = go g.post g.is
    where
      go : (post : List Chunk) → g.shows.cs ≡ g.pre ++ post → length_seen op most places s (4 * (op.count s - 1)) ≡ 0
      go [] is =
          let t = tags_back (op.word s) 0 true g.pre [] (subst (λ cs. Tags (op.word s) 0 true cs) is g.abs.tags) in
          let q : 4 * (op.count s - 1) ≡ 0 + total g.pre = (let b = g.byte in omega arith) in
          let w : op.word s (4 * (op.count s - 1) / 4) ≡ 2 + bit (last_used true g.pre) = ap (λ (x : ℕ). op.word s (x / 4)) q ∙ t in
          header_len (op.word s (4 * (op.count s - 1) / 4)) 0 1 (bit (last_used true g.pre)) refl (omega arith) (bit_small (last_used true g.pre))
          (omega arith)
      go (c ∷ post) is = absurd (let l = (lc s g.shows g.abs g.pre c post is).0 in let e = ends s g.shows g.abs g.pre c post is in
          let b = g.byte in omega arith)

  -- the laws, together
  pub edges : Edges op most places
  edges = record {
    first = λ s k. record { shows = k.0; abs = k.1; pre = []; post = k.0.cs; is = refl; byte = refl };
    live = λ s e g lt. split_edge s e g lt (λ x. live_at op most places s (x + 4) ≡ live_seen op most places s x)
        (λ c post is. live_here s g.shows g.abs g.pre c post is);
    between = λ s e b g lo hi. betweens s e b g lo hi g.post g.is;
    next = λ s e g lt. split_edge s e g lt (λ x. (16 ≤ length_seen op most places s x) × (length_seen op most places s x % 8 ≡ 0)
        × (x + length_seen op most places s x ≤ 4 * (op.count s - 1)) × Edge op most places s (x + length_seen op most places s x))
        (λ c post is. let l = long s g.shows g.abs g.pre c post is in let k = lc s g.shows g.abs g.pre c post is in let k0 = k.0 in
        let k2 = ends s g.shows g.abs g.pre c post is in (
          omega arith,
          ap (λ (x : ℕ). x % 8) l ∙ k.1,
          omega arith,
          subst (λ (x : ℕ). Edge op most places s (total g.pre + x)) (sym l) (on s g.shows g.abs g.pre c post is),
        ));
    all = λ s p k a. place s p k.0 k.1 a;
  }
    where
      betweens : (s : S) (e b : ℕ) (g : Edge op most places s e) → e < b → b < e + length_seen op most places s e → (post : List Chunk)
          → g.shows.cs ≡ g.pre ++ post
          → live_at op most places s (b + 4) ≡ 0
      betweens s e b g lo hi [] is =
          let a = total_append g.pre [] in
          let t : total (g.pre ++ []) ≡ 4 * (op.count s - 1) = sym (ap total is) ∙ g.abs.fills in
          let y = g.byte in
          let q : e ≡ 4 * (op.count s - 1) = omega arith in
          let z = at_guard s (subst (λ (x : ℕ). Edge op most places s x) q g) in
          let w : length_seen op most places s e ≡ 0 = ap (length_seen op most places s) q ∙ z in
          absurd (omega arith)
      betweens s e b g lo hi (c ∷ post) is =
          let y = g.byte in
          let l : length_seen op most places s e ≡ c.len = ap (length_seen op most places s) y ∙ long s g.shows g.abs g.pre c post is in
          live_inside s g.shows g.abs g.pre c post is b (omega arith) (omega arith)

      place : (s : S) (p : ℕ) (m : Model) (h : Shows op most places s m) → 0 < live_at op most places s p → Edge op most places s (p - 4)
      place s p m h a =
          let e = live_shown E s m h p in
          let w = live_is E s m h p (λ z. (let y = a in omega arith)) in
          let u = used_at_lem m.cs (p - 4) (let y = w.1 in omega arith) in
          record { shows = m; abs = h; pre = u.pre; post = busy (used_at m.cs (p - 4)) ∷ u.post; is = u.is; byte = u.byte }

-- BOTH WIDTHS
pub narrow_edges : (places : ℕ) → Edges (ops {R = Figures} narrow) 65529 places
narrow_edges places = edges (narrow_edition places)

-- with wide links
pub wide_edges : (places : ℕ) → Edges (ops {R = Figures} wide) 4194303 places
wide_edges places = edges (wide_edition places)
