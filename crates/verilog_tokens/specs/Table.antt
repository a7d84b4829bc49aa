-- The table of a text's tokens: a kind and a number for each. A 0 stands behind the last kind and the last number.
use Rattle.std.specs.Prelude.{true, false, List, [], ◌∷◌, ◌++◌, map, ℕ, suc, ◌%◌, ltb}
use Rattle.values.specs.Values.{pick}
use Rattle.writing.specs.Ascii.{ascii}
use Rattle.naming.specs.Naming.{same_text}
use Rattle.verilog_tokens.specs.Tokens.{Token, terminal, name, number, known, unknown, broken, Name, tokens}

-- ---- terminals: the keywords and signs that stand in a production, numbered from 1

unfoldable pub terminals : List (List ℕ)
terminals =
    ascii "module" ∷ ascii "endmodule" ∷ ascii "input" ∷ ascii "reg" ∷ ascii "wire" ∷ ascii "assign" ∷ ascii "always" ∷
    ascii "begin" ∷ ascii "end" ∷ ascii "if" ∷ ascii "else" ∷ ascii "case" ∷ ascii "endcase" ∷ ascii "default" ∷ ascii "while" ∷
    ascii "forever" ∷ ascii "posedge" ∷ ascii "negedge" ∷ ascii "or" ∷ ascii "(" ∷ ascii ")" ∷ ascii "[" ∷ ascii "]" ∷ ascii ":" ∷
    ascii ";" ∷ ascii "," ∷ ascii "@" ∷ ascii "=" ∷ ascii "==" ∷ ascii "<=" ∷ ascii "<" ∷ ascii "?" ∷ ascii "~" ∷ ascii "!" ∷
    ascii "&" ∷ ascii "|" ∷ ascii "^" ∷ ascii "+" ∷ ascii "-" ∷ []

-- ---- kinds

-- A spelling's number in a list that is counted from n on; 70 for one outside it: a reserved word, `^~`.
unfoldable pub number_from : ℕ → List (List ℕ) → List ℕ → ℕ
number_from n [] s = 70
number_from n (w ∷ ws) s = pick (same_text w s) n (number_from (suc n) ws s)

-- 0 is the text's end.
unfoldable pub kind_of : Token → ℕ
kind_of (terminal s) = number_from 1 terminals s
kind_of (name n) = 64
kind_of (number true n) = 65
kind_of (number false n) = 66
kind_of (known v) = 67
kind_of unknown = 68
kind_of broken = 69

unfoldable pub kinds : List ℕ → List ℕ
kinds text = map kind_of (tokens text) ++ 0 ∷ []

-- ---- names

unfoldable pub name_in : Token → List Name
name_in (terminal s) = []
name_in (name n) = n ∷ []
name_in (number b n) = []
name_in (known v) = []
name_in unknown = []
name_in broken = []

unfoldable pub names_in : List Token → List Name
names_in [] = []
names_in (t ∷ ts) = name_in t ++ names_in ts

-- The place in a list of names of the first that is spelled so; the list's length where none is.
unfoldable pub place_of : List Name → List ℕ → ℕ
place_of [] s = 0
place_of (n ∷ ns) s = pick (same_text n.spelled s) 0 (suc (place_of ns s))

-- The number of the first name, counted among the names of these tokens, that is spelled so.
unfoldable pub id_of : List Token → List ℕ → ℕ
id_of ts s = place_of (names_in ts) s

-- ---- numbers

-- A width is asked up to 32 and written as 255 above: past 255 all numbers are alike.
unfoldable pub up_to255 : ℕ → ℕ
up_to255 n = pick (ltb n 255) n 255

-- Over a number for each spelling. A constant is cut to its width, which is at most 32.
unfoldable pub number_in : (List ℕ → ℕ) → Token → ℕ
number_in index (terminal s) = 0
number_in index (name n) = index n.spelled
number_in index (number b n) = up_to255 n
number_in index (known v) = v % 4294967296
number_in index unknown = 0
number_in index broken = 0

unfoldable pub numbers : List ℕ → List ℕ
numbers text = map (number_in (id_of (tokens text))) (tokens text) ++ 0 ∷ []
