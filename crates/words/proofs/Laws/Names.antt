-- Laws of `specs/Names.antt`: said of any kind of name, and so of links, byte offsets and payload offsets alike. Assumes nothing.
--     lose_nothing     a held name leads back to its word
--     names_apart      two words with one name are the same word
--     held_apart       the same of held names
--     name_again       a header's name is the name of the word that it leads to
--     held_is          a name below the limit is held as it is; link_held, offset_held and payload_held are its instances
use Rattle.std.proofs.Common.{◌≡◌, ℕ, ◌+◌, ◌*◌, ◌^◌, ◌<◌, sym, ap, ◌∙◌, mod-eq_of_lt, arith}
use Rattle.words.specs.Names.{Naming, links, offsets, payloads, held_name}

module _ (N : Naming) where
  -- a name below the limit is held as it is
  pub held_is : (w : ℕ) → N.name w < N.limit → held_name N w ≡ N.name w
  held_is w h = mod-eq_of_lt h

  -- the word that a held name leads to is the word that was named
  pub lose_nothing : (w : ℕ) → N.name w < N.limit → N.word (held_name N w) ≡ w
  lose_nothing w h = ap N.word (held_is w h) ∙ N.back w

  -- two words with the same name are the same word
  pub names_apart : (v w : ℕ) → N.name v ≡ N.name w → v ≡ w
  names_apart v w e = sym (N.back v) ∙ ap N.word e ∙ N.back w

  -- two words whose held names agree are the same word
  pub held_apart : (v w : ℕ) → N.name v < N.limit → N.name w < N.limit → held_name N v ≡ held_name N w → v ≡ w
  held_apart v w h k e = names_apart v w (sym (held_is v h) ∙ e ∙ held_is w k)

  -- a header's name is the name of the word that it leads to
  pub name_again : (n w : ℕ) → n ≡ N.name w → N.name (N.word n) ≡ n
  name_again n w e = ap (λ x. N.name (N.word x)) e ∙ ap N.name (N.back w) ∙ sym e

-- a link of a header below word 65,530 is held as it is
pub link_held : (w : ℕ) → w < 65530 → held_name links w ≡ w + 6
link_held w h = held_is links w (omega arith)

-- and so a header's byte offset in the first four gigabytes
pub offset_held : (w : ℕ) → w < 2 ^ 30 → held_name offsets w ≡ 4 * w
offset_held w h = held_is offsets w (omega arith)

-- and its payload's
pub payload_held : (w : ℕ) → w + 1 < 2 ^ 30 → held_name payloads w ≡ 4 * w + 4
payload_held w h = held_is payloads w (omega arith)
