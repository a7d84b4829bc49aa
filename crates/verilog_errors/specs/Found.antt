-- What stands at a place of a text: a token, a byte that begins none, or the text's end.
use Rattle.std.specs.Prelude.{false, List, ◌++◌, map, ℕ, leb, length, get_or}
use Rattle.values.specs.Values.{pick, ◌is◌then◌else◌}
use Rattle.writing.specs.Ascii.{ascii}
use Rattle.writing.specs.Numbers.{decimal}
use Rattle.verilog_tokens.specs.Pieces.{piece_at}
use Rattle.verilog_errors.specs.Spots.{part, is_plain, sign_of}

-- How long the token at a place is; a byte that begins none is one long.
unfoldable pub size_at : List ℕ → ℕ → ℕ
size_at text place = (piece_at text place).size is 0 then 1 else (piece_at text place).size

unfoldable pub quoted : List ℕ → ℕ → List ℕ
quoted text place = (ascii "`" ++ map (sign_of false) (part text place (size_at text place))) ++ ascii "`"

unfoldable pub valued : ℕ → List ℕ
valued b = ascii "a byte of value " ++ decimal b

unfoldable pub found_words : List ℕ → ℕ → List ℕ
found_words text place =
    pick (leb (length text) place) (ascii "the end of the text")
    (pick (is_plain (get_or text place 0)) (quoted text place) (valued (get_or text place 0)))
