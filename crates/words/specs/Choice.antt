-- A CHOICE BY A TEST, and a test as a number: the two words that every rule is written with.
use Rattle.std.specs.Prelude.{ℕ, Bool, true, false}

-- a where the test holds, else b
abbrev pub pick {ℓ} : {A : Type ℓ} → Bool → A → A → A
pick true a b = a
pick false a b = b

-- 1 where the test holds, else 0
abbrev pub bit : Bool → ℕ
bit true = 1
bit false = 0
