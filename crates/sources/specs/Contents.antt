-- What the command makes of a text: the names of its variables, and its sheet as hexadecimal text.
use Rattle.std.specs.Prelude.{List, [], ◌∷◌, ◌++◌, ℕ, zero, suc, ◌+◌, ◌/◌, ◌%◌, ltb, leb, length, get_or, take, drop}
use Rattle.values.specs.Values.{pick, ◌is◌then◌else◌}
use Rattle.naming.specs.Naming.{renamed}

-- ---- names: each variable has the name that stands at a place of the text, so many bytes long

-- What is empty or doesn't lie in the text names nothing.
unfoldable pub named_one : List ℕ → ℕ → ℕ → ℕ → List ℕ → List ℕ
named_one text from n v names =
    n is 0 then names else pick (ltb (length text) (from + n)) names (renamed names v (take n (drop from text)))

-- So many variables from variable v on.
unfoldable pub named_from : List ℕ → List ℕ → List ℕ → ℕ → ℕ → List ℕ → List ℕ
named_from text places lengths zero v names = names
named_from text places lengths (suc k) v names =
    named_from text places lengths k (v + 1) (named_one text (get_or places v 0) (get_or lengths v 0) v names)

-- ---- a sheet as hexadecimal text: two digits for each byte, sixteen bytes in a line

-- 0 to 9 (48 up), a to f (97 up).
unfoldable pub digit_of : ℕ → ℕ
digit_of n = pick (ltb n 10) (48 + n) (87 + n)

unfoldable pub pair_of : ℕ → List ℕ
pair_of b = digit_of (b / 16) ∷ digit_of (b % 16) ∷ []

-- What stands behind the first i of n bytes: a line end (10) or a blank (32).
unfoldable pub behind : ℕ → ℕ → ℕ
behind i n = pick (leb n i) 10 (i % 16 is 0 then 10 else 32)

-- Of n bytes those from byte i on.
unfoldable pub hex_from : ℕ → ℕ → List ℕ → List ℕ
hex_from n i [] = []
hex_from n i (b ∷ bs) = pair_of b ++ (behind (i + 1) n ∷ hex_from n (i + 1) bs)
