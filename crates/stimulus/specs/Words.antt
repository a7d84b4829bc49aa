-- Runs of characters of a kind, and what ends a line.
use Rattle.std.specs.Prelude.{Bool, true, false, not, ◌||◌, List, [], ◌∷◌, ℕ, zero, suc, ◌+◌, length, get_or, drop, ltb, eqb}
use Rattle.values.specs.Values.{pick, ◌is◌then◌else◌}
use Rattle.hextext.specs.Characters.{◌below◌then◌else◌, is_blank}
use Rattle.stimulus.specs.declared.Class.{Class}
use Rattle.stimulus.specs.declared.Class.TheVariants.{Blank, Word, Name}

-- ---- in_class: blanks (space, tab, CR); all but blanks, commas (44) and `#` (35); letters, digits and `_`

unfoldable pub separates : ℕ → Bool
separates b = eqb b 44 || is_blank b

unfoldable pub is_named : ℕ → Bool
is_named b =
    b below 48 then false else
    b below 58 then true else
    b below 65 then false else
    b below 91 then true else
    b is 95 then true else
    b below 97 then false else
    ltb b 123

unfoldable pub in_class : Class → ℕ → Bool
in_class Blank b = is_blank b
in_class Word b = pick (eqb b 35) false (not (separates b))
in_class Name b = is_named b

-- ---- run_end: the end of the run of such characters that starts at a place

-- How many of them stand in front of a list.
unfoldable pub span : Class → List ℕ → ℕ
span c [] = zero
span c (b ∷ bs) = pick (in_class c b) (suc (span c bs)) zero

unfoldable pub run_end : Class → List ℕ → ℕ → ℕ
run_end c line at = at + span c (drop at line)

-- ---- ended: is there nothing more at a place but a comment, from `#` on?

unfoldable pub ended : List ℕ → ℕ → Bool
ended line p = pick (ltb p (length line)) (eqb (get_or line p 0) 35) true
