-- Laws of the searches along the links (specs/Found.antt, and find_walk and search_all of the rules), in the form that the code's tests have.
--     walk_end, walk_lost, walk_fits, walk_on    one turn of a walk, by where it stands; walk_start, how it begins
--     compared_in, walk_bound                    no walk has compared more than the limit
--     fit_out, fit_lost, fit_found, fit_none     one list of a search, by what the code says of it; told_err, of an error
use Rattle.std.proofs.Common.{◌≡◌, ℕ, zero, suc, ◌+◌, ◌-◌, ◌<◌, ◌≤◌, Bool, true, false, eqb, leb, List, Option, Some, None, Result, Ok, Err, sym, refl, add-one, arith, le-leb, not}
use borrow.Author.Tests.{lt-leb}
use Rattle.std.proofs.lemmas.Bool.{not-true, not-false}
use Rattle.std.specs.Option.{is_some}
use Rattle.std.specs.Result.{IsErr}
use Rattle.words.specs.Choice.{pick}
use Rattle.words.specs.declared.names.Link.{Link}
use Rattle.words.specs.Links.{narrow, next, node_link}
use Rattle.words.specs.Tags.{at, length_of}
use Rattle.rules.specs.Rules.Search.{nowhere, lost, find_walk, or_else, search_all}
use Rattle.rules.specs.Rules.Search as rule
use Rattle.steps.specs.Found.{told_at, told, walk_in}
use Rattle.steps.specs.declared.search.Found.{Found}
use Rattle.steps.specs.declared.search.Lost.{Lost}

-- the rest of a walk along list k, at the node x, after c were compared
unfoldable pub walk_from : List ℕ → List ℕ → ℕ → ℕ → ℕ → ℕ → ℕ → rule.Found
walk_from nexts ws z limit k x c =
    find_walk (λ y. node_link narrow next nexts ws y) (λ y. length_of (at ws (y - 6))) z k (limit - c) x c

-- one turn, by the fuel that is left
module _ (nx size : ℕ → ℕ) (z k : ℕ) where
  turn_end : (f x c : ℕ) → eqb x k ≡ true → find_walk nx size z k f x c ≡ nowhere c
  unfolding find_walk
  turn_end zero x c e = rw e
  turn_end (suc f) x c e = rw e

  turn_lost : (f x c : ℕ) → eqb x k ≡ false → f ≤ 0 → find_walk nx size z k f x c ≡ lost
  unfolding find_walk
  turn_lost zero x c h p = rw h
  turn_lost (suc f) x c h p = absurd (omega arith)

  turn_fits : (f x c n : ℕ) → n ≡ size x → eqb x k ≡ false → 0 < f → z ≤ n → find_walk nx size z k f x c ≡ rule.at x (c + 1)
  unfolding find_walk
  turn_fits zero x c n e h p q = absurd (omega arith)
  turn_fits (suc f) x c n e h p q = rw (add-one c, h, ← e, le-leb z n q)

  turn_on : (f g x y c n : ℕ) → n ≡ size x → y ≡ nx x → eqb x k ≡ false → g + 1 ≡ f → n < z
      → find_walk nx size z k f x c ≡ find_walk nx size z k g y (c + 1)
  unfolding find_walk
  turn_on zero g x y c n e d h p q = absurd (omega arith)
  turn_on (suc f) g x y c n e d h p q =
      let o : g ≡ f = omega arith in
      rw (add-one c, h, ← e, lt-leb z n q, o, d)

-- how many were compared; 0 of a search that is lost
abbrev pub compared : rule.Found → ℕ
compared (rule.at x d) = d
compared (nowhere d) = d
compared lost = 0

compared_pick : (t : Bool) (a b : rule.Found) (m : ℕ) → compared a ≤ m → compared b ≤ m → compared (pick t a b) ≤ m
compared_pick true a b m p q = p
compared_pick false a b m p q = q

-- a walk compares at most as many as its fuel
compared_walk : (nx size : ℕ → ℕ) (z k f x c m : ℕ) → c + f ≤ m → compared (find_walk nx size z k f x c) ≤ m
unfolding find_walk
compared_walk nx size z k zero x c m h = compared_pick (eqb x k) _ _ m (omega arith) (omega arith)
compared_walk nx size z k (suc f) x c m h =
    compared_pick (eqb x k) _ _ m (omega arith)
    (compared_pick (leb z (size x)) _ _ m (omega arith) (compared_walk nx size z k f (nx x) (suc c) m (omega arith)))

-- A WALK ALONG LIST k for z bytes, of the code's own form
module _ (nexts ws : List ℕ) (z limit k : ℕ) where
  -- it starts at the sentinel's next
  pub walk_start : (x c : ℕ) → x ≡ node_link narrow next nexts ws k → walk_in nexts ws z limit k c ≡ walk_from nexts ws z limit k x c
  unfolding walk_in walk_from
  walk_start x c e = rw e

  -- at the sentinel it ends
  pub walk_end : (x c : ℕ) → not (eqb x k) ≡ false → walk_from nexts ws z limit k x c ≡ nowhere c
  unfolding walk_from
  walk_end x c e = turn_end _ _ z k (limit - c) x c (not-false _ e)

  -- elsewhere, after as many as a heap lists, it is lost
  pub walk_lost : (x c : ℕ) → not (eqb x k) ≡ true → limit ≤ c → walk_from nexts ws z limit k x c ≡ lost
  unfolding walk_from
  walk_lost x c h p = turn_lost _ _ z k (limit - c) x c (not-true _ h) (omega arith)

  -- a chunk that is long enough is found
  pub walk_fits : (x c i n : ℕ) → i ≡ x - 6 → n ≡ length_of (at ws i) → not (eqb x k) ≡ true → c < limit → z ≤ n
      → walk_from nexts ws z limit k x c ≡ rule.at x (c + 1)
  unfolding walk_from
  walk_fits x c i n ei en h p q = turn_fits _ _ z k (limit - c) x c n (rw ei at en) (not-true _ h) (omega arith) q

  -- past one that is not the walk goes on
  pub walk_on : (x y c i n : ℕ) → i ≡ x - 6 → n ≡ length_of (at ws i) → y ≡ node_link narrow next nexts ws x
      → not (eqb x k) ≡ true → c < limit → n < z → walk_from nexts ws z limit k x c ≡ walk_from nexts ws z limit k y (c + 1)
  unfolding walk_from
  walk_on x y c i n ei en ey h p q =
      turn_on _ _ z k (limit - c) (limit - (c + 1)) x y c n (rw ei at en) ey (not-true _ h) (omega arith) q

  -- no walk compares more than the limit
  pub compared_in : (c : ℕ) → c ≤ limit → compared (walk_in nexts ws z limit k c) ≤ limit
  unfolding walk_in
  compared_in c p = compared_walk _ _ z k (limit - c) (node_link narrow next nexts ws k) c limit (omega arith)

  pub walk_bound : (c : ℕ) (o : Option Link) (d : ℕ) → c ≤ limit → told_at o d ≡ walk_in nexts ws z limit k c → d ≤ limit
  walk_bound c (Some l) d p e = rw (sym e) at (compared_in c p)
  walk_bound c None d p e = rw (sym e) at (compared_in c p)

-- A SEARCH OF LISTS, f the walk along one
module _ (f : ℕ → ℕ → rule.Found) where
  pub fit_out : (n k c : ℕ) → n ≤ 0 → search_all f n k c ≡ nowhere c
  unfolding search_all
  fit_out zero k c p = refl
  fit_out (suc n) k c p = absurd (omega arith)

  fit_hit : (n k c x d : ℕ) → 0 < n → f k c ≡ rule.at x d → search_all f n k c ≡ rule.at x d
  unfolding search_all
  fit_hit zero k c x d p e = absurd (omega arith)
  fit_hit (suc n) k c x d p e = rw e

  pub fit_lost : (n k c : ℕ) → 0 < n → f k c ≡ lost → search_all f n k c ≡ lost
  unfolding search_all
  fit_lost zero k c p e = absurd (omega arith)
  fit_lost (suc n) k c p e = rw e

  fit_miss : (n m k c d : ℕ) → m + 1 ≡ n → f k c ≡ nowhere d → search_all f n k c ≡ search_all f m (k + 1) d
  unfolding search_all
  fit_miss zero m k c d p e = absurd (omega arith)
  fit_miss (suc n) m k c d p e =
      let o : m ≡ n = omega arith in
      rw (add-one k, e, o)

  -- the same, of what the code says of that list
  pub fit_found : (n k c : ℕ) (o : Option Link) (d : ℕ) → 0 < n → is_some o ≡ true → f k c ≡ told_at o d → search_all f n k c ≡ told_at o d
  fit_found n k c (Some l) d p t e = fit_hit n k c l.0 d p e
  fit_found n k c None d p t e = absurd (cc)

  pub fit_none : (n m k c : ℕ) (o : Option Link) (d : ℕ) → m + 1 ≡ n → is_some o ≡ false → f k c ≡ told_at o d
      → search_all f n k c ≡ search_all f m (k + 1) d
  fit_none n m k c (Some l) d p t e = absurd (cc)
  fit_none n m k c None d p t e = fit_miss n m k c d p e

-- an error says that the lists do not end
pub told_err : (r : Result Found Lost) → IsErr r → told r ≡ lost
told_err (Ok f) h = absurd (cc)
told_err (Err e) h = refl
