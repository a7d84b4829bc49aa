-- A value bit by bit in text: a digit for each bit, most significant first, `x` where its mark stands.
use Rattle.std.specs.Prelude.{Bool, List, [], ◌∷◌, ◌++◌, ℕ, zero, suc, ◌/◌, ◌%◌, eqb}
use Rattle.values.specs.declared.Value.{Value}
use Rattle.values.specs.Values.{pick, all_unknown}
use Rattle.values.specs.Planes.{number_of, marks_of}
use Rattle.writing.specs.Ascii.{byte}
use Rattle.writing.specs.Numbers.{digit}

-- ---- bits: the lowest w bits of a number with marks

-- The lowest of them.
unfoldable pub bit : ℕ → ℕ → ℕ
bit n u = pick (eqb (u % 2) 0) (digit (n % 2)) (byte "x")

unfoldable pub bits : ℕ → ℕ → ℕ → List ℕ
bits zero n u = []
bits (suc w) n u = bits w (n / 2) (u / 2) ++ (bit n u ∷ [])

unfoldable pub bits_of : ℕ → Value → List ℕ
bits_of w a = bits w (number_of a) (marks_of a)

-- ---- is_known: no bit is unknown; is_x: all bits of the width are

unfoldable pub is_known : Value → Bool
is_known a = eqb (marks_of a) 0

unfoldable pub is_x : ℕ → Value → Bool
is_x w a = eqb (marks_of a) (marks_of (all_unknown w))
