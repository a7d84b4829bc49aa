-- The characters of a Verilog text (IEEE 1364-2005, clause 3 and A.8.7, A.9.2 to A.9.4), and runs of them. Characters are bytes.
use Rattle.std.specs.Prelude.{Bool, true, false, not, ◌&&◌, ◌||◌, List, [], ◌∷◌, ℕ, zero, suc, ◌+◌, ◌*◌, ltb, eqb, drop}
use Rattle.values.specs.Values.{pick, ◌is◌then◌else◌}
use Rattle.writing.specs.Ascii.{byte}
use Rattle.hextext.specs.Characters.{◌below◌then◌else◌, digit_of}
use Rattle.verilog_tokens.specs.declared.Class.{Class}
use Rattle.verilog_tokens.specs.declared.Class.TheVariants.{Space, Word, Comment, Decimal, Binary, Octal, Hexadecimal, Underscore}

-- ---- A.9.4: white_space ::= space | tab | newline; clause 3.2 adds the form feed (12). A newline is LF (10) or CR (13).

unfoldable pub is_newline : ℕ → Bool
is_newline b = eqb b 10 || eqb b 13

unfoldable pub is_space : ℕ → Bool
is_space b = eqb b 32 || eqb b 9 || eqb b 12 || is_newline b

-- ---- A.9.3: simple_identifier ::= [ a-zA-Z_ ] { [ a-zA-Z0-9_$ ] }

unfoldable pub is_letter : ℕ → Bool
is_letter b =
    b below 65 then false else
    b below 91 then true else
    b is 95 then true else
    b below 97 then false else
    ltb b 123

-- ---- A.8.7: the digits below a radix; x_digit ::= x | X; z_digit ::= z | Z | ?; `_` may stand behind the first digit

unfoldable pub is_below : ℕ → ℕ → Bool
is_below radix b = ltb (digit_of b) radix

unfoldable pub is_x : ℕ → Bool
is_x b = eqb b (byte "x") || eqb b (byte "X")

unfoldable pub is_z : ℕ → Bool
is_z b = eqb b (byte "z") || eqb b (byte "Z") || eqb b (byte "?")

unfoldable pub is_underscore : ℕ → Bool
is_underscore b = eqb b (byte "_")

unfoldable pub is_digit : ℕ → ℕ → Bool
is_digit radix b = is_below radix b || is_x b || is_z b || is_underscore b

-- ---- what a word goes on with, what a one-line comment holds (A.9.2: comment_text ::= { Any_ASCII_character })

unfoldable pub is_named : ℕ → Bool
is_named b = is_letter b || is_below 10 b || eqb b (byte "$")

unfoldable pub is_text : ℕ → Bool
is_text b = ltb b 128 && not (is_newline b)

-- ---- in_class

unfoldable pub in_class : Class → ℕ → Bool
in_class Space b = is_space b
in_class Word b = is_named b
in_class Comment b = is_text b
in_class Decimal b = is_underscore b || is_below 10 b
in_class Binary b = is_digit 2 b
in_class Octal b = is_digit 8 b
in_class Hexadecimal b = is_digit 16 b
in_class Underscore b = is_underscore b

-- ---- span: how many characters of a class stand in front of a list

unfoldable pub span : Class → List ℕ → ℕ
span c [] = zero
span c (b ∷ bs) = pick (in_class c b) (suc (span c bs)) zero

unfoldable pub run_end : Class → List ℕ → ℕ → ℕ
run_end c text at = at + span c (drop at text)

-- ---- every: are all characters of a list such?

unfoldable pub every : (ℕ → Bool) → List ℕ → Bool
every test [] = true
every test (b ∷ bs) = test b && every test bs

-- ---- numeral: the number that digits spell in a radix; underscores count for nothing

unfoldable pub with_digit : ℕ → ℕ → ℕ → ℕ
with_digit radix n b = pick (is_underscore b) n (n * radix + digit_of b)

unfoldable pub numeral_from : ℕ → ℕ → List ℕ → ℕ
numeral_from radix n [] = n
numeral_from radix n (b ∷ bs) = numeral_from radix (with_digit radix n b) bs

unfoldable pub numeral : ℕ → List ℕ → ℕ
numeral radix digits = numeral_from radix 0 digits
