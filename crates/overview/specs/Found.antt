-- What is said of the place of a refusal.
use Rattle.std.specs.Prelude.{ℕ, ◌+◌, ◌/◌, ◌%◌, Bool, List, [], ◌∷◌, ◌++◌, length, get_or, ltb}
use Rattle.values.specs.Values.{pick, ◌is◌then◌else◌}
use Rattle.writing.specs.Ascii.{ascii, byte}
use Rattle.hextext.specs.Decoding.{spot_of}
use Rattle.overview.specs.Shown.{labelled}

-- ---- where it is: line and column of hexadecimal text, else the byte

unfoldable pub spot_words : List ℕ → ℕ → List ℕ
spot_words view place =
    labelled (ascii ":") (spot_of view place).line ++ labelled (ascii ":") (spot_of view place).column ++ ascii ": "

unfoldable pub place_words : List ℕ → Bool → ℕ → List ℕ
place_words view hex place = pick hex (spot_words view place) (labelled (ascii ": byte ") place ++ ascii ": ")

-- ---- what stands there

-- 0 to 9, A to F.
unfoldable pub digit_of : ℕ → ℕ
digit_of n = pick (ltb n 10) (byte "0" + n) (55 + n)

-- As 2Fh, and the line's end.
unfoldable pub hex_of : ℕ → List ℕ
hex_of b = digit_of (b / 16) ∷ digit_of (b % 16) ∷ ascii "h\n"

unfoldable pub byte_words : List ℕ → ℕ → List ℕ
byte_words s place =
    labelled (ascii "  found: byte ") place
    ++ pick (ltb place (length s)) (ascii " is " ++ hex_of (get_or s place 0)) (ascii " is past the end\n")

-- By the number of the refusal: 1 is of all bytes, 11 of a whole thread.
unfoldable pub found_words : List ℕ → ℕ → ℕ → List ℕ
found_words s number place =
    number is 1 then ascii "  found: over 8,192 bytes\n" else
    number is 11 then labelled (ascii "  found: a longer thread from byte ") place ++ ascii " on\n" else
    byte_words s place
