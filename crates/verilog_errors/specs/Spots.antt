-- Lines and columns of a text, and a line with a caret under a place. A line ends at a line feed (10).
use Rattle.std.specs.Prelude.{Bool, true, false, List, [], ◌∷◌, ◌++◌, map, ℕ, zero, suc, ◌-◌, ltb, length, take, drop}
use Rattle.values.specs.Values.{pick, ◌is◌then◌else◌}
use Rattle.writing.specs.Ascii.{ascii, byte}
use Rattle.stimulus.specs.Counting.{counted}
use Rattle.stimulus.specs.Waiting.{line_end}
use Rattle.verilog_errors.specs.declared.Spot.{Spot}

-- ---- spot_of: the line and the column of a place; past the text's end those of its end

abbrev pub spot_at : ℕ → ℕ → Spot
spot_at line column = record { line = line; column = column }

unfoldable pub stepped : Spot → ℕ → Spot
stepped s b = b is 10 then spot_at (counted s.line) 1 else spot_at s.line (counted s.column)

-- So many bytes further.
unfoldable pub spot_from : ℕ → List ℕ → Spot → Spot
spot_from zero bs s = s
spot_from (suc n) [] s = s
spot_from (suc n) (b ∷ bs) s = spot_from n bs (stepped s b)

unfoldable pub spot_of : List ℕ → ℕ → Spot
spot_of text place = spot_from place text (spot_at 1 1)

-- ---- line_words: the line of a place, and a caret under the place

-- At most n bytes of a text from a place on.
unfoldable pub part : List ℕ → ℕ → ℕ → List ℕ
part text from n = take n (drop from text)

-- A character that can be shown is 32 to 126.
unfoldable pub is_plain : ℕ → Bool
is_plain b = pick (ltb b 32) false (ltb b 127)

-- A character as it is shown, or what stands under it: a tab (9) under a tab, else a blank.
unfoldable pub sign_of : Bool → ℕ → ℕ
sign_of blank b = b is 9 then b else pick blank (byte " ") (pick (is_plain b) b (byte "?"))

-- How many bytes of its line stand before a place.
unfoldable pub before : List ℕ → ℕ → ℕ
before text place = (spot_of text place).column - 1

unfoldable pub line_words : List ℕ → ℕ → List ℕ
line_words text place =
    let start = place - before text place in
    (((ascii "    " ++ map (sign_of false) (part text start (line_end text place (length text) - start)))
    ++ ascii "\n    ") ++ map (sign_of true) (part text start (before text place))) ++ ascii "^\n"
