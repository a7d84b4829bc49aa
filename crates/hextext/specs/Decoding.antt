-- The bytes of a hex text, and where each of them stands in it.
use Rattle.std.specs.Prelude.{Bool, true, false, List, [], ◌∷◌, ◌++◌, ℕ, ◌+◌, ◌*◌, ◌%◌, set, ltb, leb, eqb}
use Rattle.values.specs.Values.{pick}
use Rattle.hextext.specs.declared.Scan.{Scan}
use Rattle.hextext.specs.declared.Decoded.{Decoded}
use Rattle.hextext.specs.declared.Place.{Place}
use Rattle.hextext.specs.Characters.{digit_of, is_digit}
use Rattle.hextext.specs.Scanning.{start, step, scan}

-- ---- the byte that a character makes whole: the second digit behind a first one

unfoldable pub completes : Scan → ℕ → Bool
completes s b = pick s.comment false (pick s.half (is_digit b) false)

unfoldable pub byte_of : Scan → ℕ → ℕ
byte_of s b = s.high % 16 * 16 + digit_of b % 16

unfoldable pub made : Scan → ℕ → List ℕ
made s b = pick (completes s b) (byte_of s b ∷ []) []

-- ---- full: decoding stops at an error, or with 8,193 bytes. A sheet of so many is refused with number 1 whatever follows.

unfoldable pub full : Scan → Bool
full s = pick (eqb s.error 0) (leb 8193 s.count) true

-- ---- bytes_of: the bytes of a text; bytes_from: those that are still to come

unfoldable pub bytes_from : Scan → List ℕ → List ℕ
bytes_from s [] = []
bytes_from s (b ∷ bs) = pick (full s) [] (made s b ++ bytes_from (step s b) bs)

unfoldable pub bytes_of : List ℕ → List ℕ
bytes_of text = bytes_from start text

-- The list in which a byte that is made is put in its place.
unfoldable pub stored : List ℕ → Scan → ℕ → List ℕ
stored l s b = pick (completes s b) (pick (ltb s.count 8193) (set l s.count (byte_of s b)) l) l

-- ---- decoded: how many, and the error with its line and column. A digit that still waits for its second at the end is an error.

unfoldable pub error_of : Scan → ℕ
error_of s = pick (eqb s.error 0) (pick s.half 2 0) s.error

unfoldable pub ending : Scan → Decoded
ending s =
    record {
      length = s.count;
      error = error_of s;
      line = s.line;
      column = s.column;
    }

unfoldable pub decoded : List ℕ → Decoded
decoded text = ending (scan full start text)

-- ---- spot_of: where the first digit of byte n stands; where there is none, the first error or the text's end

unfoldable pub found : ℕ → Scan → Bool
found n s = pick (eqb s.error 0) (pick s.half (eqb s.count n) false) true

unfoldable pub spotted : Scan → Place
spotted s = record { line = s.line; column = s.column }

unfoldable pub spot_of : List ℕ → ℕ → Place
spot_of text n = spotted (scan (found n) start text)
