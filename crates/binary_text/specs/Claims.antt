-- What a reader makes of the digits (proved in proofs/BinaryText).
use Rattle.std.specs.Prelude.{true, List, [], ◌∷◌, ◌≡◌, ℕ, ◌+◌, ◌*◌, eqb}
use Rattle.values.specs.declared.Value.{Value}
use Rattle.values.specs.Values.{pick, fits}
use Rattle.writing.specs.Ascii.{byte}
use Rattle.binary_text.specs.BinaryText.{bits_of}

-- ---- ReadsBack: the value that is read from the digits is the one that was written

-- The number that has 1 where a digit is d, and 0 elsewhere, behind a number that was read already.
unfoldable pub read_for : ℕ → ℕ → List ℕ → ℕ
read_for d a [] = a
read_for d a (b ∷ bs) = read_for d (a * 2 + pick (eqb b d) 1 0) bs

unfoldable pub value_in : List ℕ → Value
value_in t = record { number = read_for (byte "1") 0 t; unknown = read_for (byte "x") 0 t }

abbrev pub ReadsBack : Type 0
ReadsBack = (w : ℕ) (a : Value) → fits w a ≡ true → value_in (bits_of w a) ≡ a
