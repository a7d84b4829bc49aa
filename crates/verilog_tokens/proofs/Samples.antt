-- Samples, computed: the tokens of short texts.
-- Assumes nothing.
use mathlib.Core.Path.{◌≡◌, refl}
use mathlib.Core.Bool.{true, false}
use mathlib.Core.List.{List, [], ◌∷◌}
use Prim.Native.Nat.{ℕ}
use Rattle.hextext.specs.Characters.{digit_of}
use Rattle.writing.specs.Ascii.{ascii}
use Rattle.naming.specs.Naming.{same_text}
use Rattle.verilog_tokens.specs.Characters.{is_newline, is_space, is_letter, is_below, is_x, is_z, is_underscore, is_digit, is_named, is_text}
use Rattle.verilog_tokens.specs.Characters.{in_class, span, every, with_digit, numeral_from, numeral}
use Rattle.verilog_tokens.specs.Words.{keywords, is_among, is_keyword, signs, opens_with, first_of}
use Rattle.verilog_tokens.specs.Tokens.{Token, terminal, name, number, known, unknown, broken, either, further, ended_by, line_comment}
use Rattle.verilog_tokens.specs.Tokens.{is_slash, closing, block_comment, comment, blank, onwards, gaps, gap, word_token, word}
use Rattle.verilog_tokens.specs.Tokens.{opens_zero, number_token, unsigned, base_of, radix_of, decimal_digits, digits_in, is_known}
use Rattle.verilog_tokens.specs.Tokens.{is_unknown, value_token, value_behind, value, based, sign_token, sign, opening, token_by, goes_on}
use Rattle.verilog_tokens.specs.Tokens.{and_then, from_token, from_gap, located, tokens}
use Rattle.verilog_tokens.specs.Table.{terminals, number_from, kind_of, kinds, name_in, names_in, place_of, id_of, up_to255, number_in}
use Rattle.verilog_tokens.specs.Table.{numbers}

abbrev pub at : ℕ → List ℕ → Token
at p w = name (record { place = p; spelled = w })

-- The tokens of a text, with every definition open.
unfoldable pub seen : List ℕ → List Token
unfolding tokens located from_gap from_token and_then goes_on token_by opening sign sign_token based value value_behind value_token is_unknown
    is_known digits_in decimal_digits radix_of base_of unsigned number_token opens_zero word word_token gap gaps onwards blank comment
    block_comment closing is_slash line_comment ended_by further either first_of opens_with signs is_keyword is_among keywords numeral
    numeral_from with_digit every span in_class is_named is_text is_digit is_underscore is_z is_x is_below is_letter is_space is_newline same_text
    ascii digit_of
seen text = tokens text

abbrev pub Sees : List ℕ → List Token → Type 0
Sees text ts = tokens text ≡ ts

-- A keyword, names, signs read longest first.
pub an-assignment : Sees (ascii "if(a)b<=c==d;")
    (terminal (ascii "if") ∷ terminal (ascii "(") ∷ at 3 (ascii "a") ∷ terminal (ascii ")") ∷ at 5 (ascii "b") ∷
    terminal (ascii "<=") ∷ at 8 (ascii "c") ∷ terminal (ascii "==") ∷ at 11 (ascii "d") ∷ terminal (ascii ";") ∷ [])
unfolding seen
an-assignment = refl

-- A name goes on with digits and `$`; `iff` is none of Annex B's words, `xnor` and `uwire` are. Comments part two tokens.
pub names-and-keywords : Sees (ascii "iff a$1/**/_ xnor//uwire")
    (at 0 (ascii "iff") ∷ at 4 (ascii "a$1") ∷ at 11 (ascii "_") ∷ terminal (ascii "xnor") ∷ [])
unfolding seen
names-and-keywords = refl

-- Sizes and values: white space may stand behind the base, a comment may not; `_` not first.
pub constants : Sees (ascii "8'hFf 1_6 'b 1_0 0'd07") (number true 8 ∷ known 255 ∷ number true 16 ∷ known 2 ∷ number false 0 ∷ known 7 ∷ [])
    × Sees (ascii "4'bx_X 4'dx_") (number true 4 ∷ unknown ∷ number true 4 ∷ unknown ∷ [])
    × Sees (ascii "8'h/**/ff") (number true 8 ∷ broken ∷ [])
    × Sees (ascii "8' hff") (number true 8 ∷ broken ∷ [])
    × Sees (ascii "8'sd1") (number true 8 ∷ broken ∷ [])
    × Sees (ascii "1'b_0") (number true 1 ∷ broken ∷ [])
unfolding seen
constants = (refl, refl, refl, refl, refl, refl)

-- "known or all x": no x at all, or nothing but x; ? is a digit of b, o and h, and not of d; one x for d.
pub mixed-digits : Sees (ascii "8'bx1") (number true 8 ∷ broken ∷ [])
    × Sees (ascii "8'hz") (number true 8 ∷ broken ∷ [])
    × Sees (ascii "1'b1?a") (number true 1 ∷ broken ∷ [])
    × Sees (ascii "1'd1?a") (number true 1 ∷ known 1 ∷ terminal (ascii "?") ∷ at 5 (ascii "a") ∷ [])
    × Sees (ascii "8'dxx") (number true 8 ∷ unknown ∷ at 4 (ascii "x") ∷ [])
unfolding seen
mixed-digits = (refl, refl, refl, refl, refl)

-- A block comment ends at the first */ behind its /*; one that never ends, or has a byte that isn't ASCII, is none.
pub comments : Sees (ascii "/*/a*/b") (at 6 (ascii "b") ∷ [])
    × Sees (ascii "/*a/b*/c") (at 7 (ascii "c") ∷ [])
    × Sees (ascii "a/*/") (at 0 (ascii "a") ∷ broken ∷ [])
    × Sees (0x2F ∷ 0x2F ∷ 0xC2 ∷ 0xB5 ∷ []) (broken ∷ [])
    × Sees (0x2F ∷ 0x2F ∷ 0x0D ∷ 0x61 ∷ []) (at 3 (ascii "a") ∷ [])
    × Sees [] []
unfolding seen
comments = (refl, refl, refl, refl, refl, refl)

-- `^~` is one sign; what begins no token ends the list.
pub signs-longest-first : Sees (ascii "a^~b") (at 0 (ascii "a") ∷ terminal (ascii "^~") ∷ at 3 (ascii "b") ∷ [])
    × Sees (ascii "a^ ~b") (at 0 (ascii "a") ∷ terminal (ascii "^") ∷ terminal (ascii "~") ∷ at 4 (ascii "b") ∷ [])
    × Sees (ascii "a#b") (at 0 (ascii "a") ∷ broken ∷ [])
    × Sees (ascii "a/b") (at 0 (ascii "a") ∷ broken ∷ [])
    × Sees (0x0B ∷ 0x61 ∷ []) (broken ∷ [])
unfolding seen
signs-longest-first = (refl, refl, refl, refl, refl)

-- The table: kinds by the terminals' numbers, 64 and up for what has a number; the second `b` has the first one's number.
pub a-table :
    (kinds (ascii "if(b)a<=b;") ≡ 10 ∷ 20 ∷ 64 ∷ 21 ∷ 64 ∷ 30 ∷ 64 ∷ 25 ∷ 0 ∷ [])
    × (numbers (ascii "if(b)a<=b;") ≡ 0 ∷ 0 ∷ 0 ∷ 0 ∷ 1 ∷ 0 ∷ 0 ∷ 0 ∷ 0 ∷ [])
    × (kinds (ascii "xor 07'h1_00000002 300'dx-^~.") ≡ 70 ∷ 66 ∷ 67 ∷ 65 ∷ 68 ∷ 39 ∷ 70 ∷ 69 ∷ 0 ∷ [])
    × (numbers (ascii "xor 07'h1_00000002 300'dx-^~.") ≡ 0 ∷ 7 ∷ 2 ∷ 255 ∷ 0 ∷ 0 ∷ 0 ∷ 0 ∷ 0 ∷ [])
unfolding seen terminals number_from kind_of kinds name_in names_in place_of id_of up_to255 number_in numbers
a-table = (refl, refl, refl, refl)
