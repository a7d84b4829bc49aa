-- The tokens of a Verilog text (IEEE 1364-2005, clause 3): read from left to right, each as long as can be.
use Rattle.std.specs.Prelude.{Bool, true, false, not, ◌&&◌, List, [], ◌∷◌, map, ℕ, zero, suc, ◌+◌, length, take, drop, ltb, eqb}
use Rattle.values.specs.Values.{pick, ◌is◌then◌else◌}
use Rattle.writing.specs.Ascii.{byte}
use Rattle.verilog_tokens.specs.declared.Class.TheVariants.{Space, Word, Comment, Decimal, Binary, Octal, Hexadecimal, Underscore}
use Rattle.verilog_tokens.specs.Characters.{is_newline, is_letter, is_below, is_x, is_underscore, span, every, numeral}
use Rattle.verilog_tokens.specs.Words.{is_keyword, signs, first_of}

-- ---- tokens

-- A name where it stands: its first byte's place in the text, and how it is spelled.
pub record Name : Type 0 where
  pub place : ℕ
  pub spelled : List ℕ

pub data Token : Type 0 where
  -- a keyword or a sign
  terminal : List ℕ → Token
  -- simple_identifier
  name : Name → Token
  -- unsigned_number: is its first digit another than 0 (non_zero_unsigned_number)? Its value
  number : Bool → ℕ → Token
  -- a base and its value: all digits are numbers, or all are x
  known : ℕ → Token
  unknown : Token
  -- what stands in no production: a value with z or with x beside a number, a character that begins no token
  broken : Token

-- A token in front of a list, and its length.
pub record Lexeme : Type 0 where
  pub token : Token
  pub size : ℕ

abbrev pub lexeme : Token → ℕ → Lexeme
lexeme t n = record { token = t; size = n }

-- ---- gaps: { white_space | comment }. Lengths of what stands in front of a list; 0 where it doesn't stand there.

-- The first of two lengths that isn't 0.
unfoldable pub either : ℕ → ℕ → ℕ
either zero n = n
either (suc m) n = suc m

-- So many more, where there is something.
unfoldable pub further : ℕ → ℕ → ℕ
further k zero = zero
further k (suc n) = k + suc n

-- A.9.2: one_line_comment ::= // comment_text newline. The text's end ends it too. This is what follows `//`.
unfoldable pub ended_by : List ℕ → ℕ → ℕ
ended_by [] n = n
ended_by (b ∷ s) n = pick (is_newline b) n 0

unfoldable pub line_comment : List ℕ → ℕ
line_comment s = ended_by (drop (span Comment s) s) (2 + span Comment s)

-- A.9.2: block_comment ::= /* comment_text */. It ends at the first */ behind its /*. This is what follows `/*`.
unfoldable pub is_slash : List ℕ → Bool
is_slash [] = false
is_slash (b ∷ s) = eqb b (byte "/")

unfoldable pub closing : List ℕ → ℕ
closing [] = 0
closing (b ∷ s) = pick (eqb b (byte "*") && is_slash s) 2 (pick (ltb b 128) (further 1 (closing s)) 0)

unfoldable pub block_comment : List ℕ → ℕ
block_comment s = further 2 (closing s)

unfoldable pub comment : List ℕ → ℕ
comment [] = 0
comment (a ∷ []) = 0
comment (a ∷ b ∷ s) =
    pick (eqb a (byte "/"))
    (b is byte "/" then line_comment s else b is byte "*" then block_comment s else 0)
    0

unfoldable pub blank : List ℕ → ℕ
blank s = either (span Space s) (comment s)

-- One after the other.
unfoldable pub onwards : (List ℕ → ℕ) → ℕ → List ℕ → ℕ
onwards rest zero s = 0
onwards rest (suc n) s = suc n + rest (drop (suc n) s)

unfoldable pub gaps : ℕ → List ℕ → ℕ
gaps zero s = 0
gaps (suc f) s = onwards (gaps f) (blank s) s

unfoldable pub gap : List ℕ → ℕ
gap s = gaps (length s) s

-- ---- words: simple_identifier ::= [ a-zA-Z_ ] { [ a-zA-Z0-9_$ ] }, or a keyword

unfoldable pub word_token : ℕ → List ℕ → Token
word_token p w = pick (is_keyword w) (terminal w) (name (record { place = p; spelled = w }))

unfoldable pub word : ℕ → List ℕ → Lexeme
word p s = lexeme (word_token p (take (span Word s) s)) (span Word s)

-- ---- numbers: unsigned_number ::= decimal_digit { _ | decimal_digit }

unfoldable pub opens_zero : List ℕ → Bool
opens_zero [] = false
opens_zero (b ∷ s) = eqb b (byte "0")

unfoldable pub number_token : List ℕ → Token
number_token digits = number (not (opens_zero digits)) (numeral 10 digits)

unfoldable pub unsigned : List ℕ → Lexeme
unsigned s = lexeme (number_token (take (span Decimal s) s)) (span Decimal s)

-- ---- values: a base, white space, digits. This is what follows the '.

pub data Radix : Type 0 where
  binary octal decimal hexadecimal : Radix

-- A.8.7: decimal_base ::= 'd | 'D and so on; the bases with s are outside. Else no base.
pub data Base : Type 0 where
  base : Radix → Base
  none : Base

unfoldable pub base_of : ℕ → Base
base_of b =
    b is byte "b" then base binary else
    b is byte "B" then base binary else
    b is byte "o" then base octal else
    b is byte "O" then base octal else
    b is byte "d" then base decimal else
    b is byte "D" then base decimal else
    b is byte "h" then base hexadecimal else
    b is byte "H" then base hexadecimal else
    none

unfoldable pub radix_of : Radix → ℕ
radix_of binary = 2
radix_of octal = 8
radix_of decimal = 10
radix_of hexadecimal = 16

-- decimal_number has also decimal_base x_digit { _ }: one x, and nothing but underscores behind.
unfoldable pub decimal_digits : List ℕ → ℕ
decimal_digits [] = 0
decimal_digits (b ∷ s) = pick (is_x b) (1 + span Underscore s) (span Decimal (b ∷ s))

unfoldable pub digits_in : Radix → List ℕ → ℕ
digits_in binary s = span Binary s
digits_in octal s = span Octal s
digits_in decimal s = decimal_digits s
digits_in hexadecimal s = span Hexadecimal s

-- "sized constants known or all x", by the digits as written; the first is no underscore.
unfoldable pub is_known : ℕ → ℕ → Bool
is_known radix b = pick (is_underscore b) true (is_below radix b)

unfoldable pub is_unknown : ℕ → Bool
is_unknown b = pick (is_underscore b) true (is_x b)

unfoldable pub value_token : ℕ → List ℕ → Token
value_token radix [] = broken
value_token radix (b ∷ s) =
    pick (is_underscore b) broken
    (pick (every (is_known radix) (b ∷ s)) (known (numeral radix (b ∷ s)))
    (pick (every is_unknown (b ∷ s)) unknown broken))

-- The digits stand behind so much white space.
unfoldable pub value_behind : Radix → ℕ → List ℕ → Lexeme
value_behind r n s = lexeme (value_token (radix_of r) (take (digits_in r s) s)) (2 + n + digits_in r s)

unfoldable pub value : Base → List ℕ → Lexeme
value none s = lexeme broken 1
value (base r) s = value_behind r (span Space s) (drop (span Space s) s)

unfoldable pub based : List ℕ → Lexeme
based [] = lexeme broken 1
based (b ∷ s) = value (base_of b) s

-- ---- signs

unfoldable pub sign_token : List ℕ → Token
sign_token [] = broken
sign_token (b ∷ s) = terminal (b ∷ s)

unfoldable pub sign : List ℕ → Lexeme
sign s = lexeme (sign_token (first_of signs s)) (length (first_of signs s))

-- ---- the token in front of a list that stands at place p in the text

pub data Opening : Type 0 where
  opens_word opens_number opens_value opens_sign : Opening

unfoldable pub opening : ℕ → Opening
opening b =
    pick (is_letter b) opens_word
    (pick (is_below 10 b) opens_number
    (b is byte "'" then opens_value else opens_sign))

unfoldable pub token_by : Opening → ℕ → ℕ → List ℕ → Lexeme
token_by opens_word p b s = word p (b ∷ s)
token_by opens_number p b s = unsigned (b ∷ s)
token_by opens_value p b s = based s
token_by opens_sign p b s = sign (b ∷ s)

-- ---- the tokens of a text, with their places; the first broken one is the last

pub record Located : Type 0 where
  pub token : Token
  pub place : ℕ

unfoldable pub goes_on : Token → Bool
goes_on (terminal s) = true
goes_on (name n) = true
goes_on (number b n) = true
goes_on (known n) = true
goes_on unknown = true
goes_on broken = false

unfoldable pub and_then : Bool → (ℕ → List ℕ → List Located) → ℕ → List ℕ → List Located
and_then true rest p s = rest p s
and_then false rest p s = []

unfoldable pub from_token : (ℕ → List ℕ → List Located) → ℕ → List ℕ → List Located
from_token rest p [] = []
from_token rest p (b ∷ s) =
    let t = token_by (opening b) p b s in
    record { token = t.token; place = p } ∷
    and_then (goes_on t.token) rest (p + t.size) (drop t.size (b ∷ s))

unfoldable pub from_gap : ℕ → ℕ → List ℕ → List Located
from_gap zero p s = []
from_gap (suc f) p s = from_token (from_gap f) (p + gap s) (drop (gap s) s)

unfoldable pub located : List ℕ → List Located
located text = from_gap (suc (length text)) 0 text

unfoldable pub tokens : List ℕ → List Token
tokens text = map (λ (l : Located). l.token) (located text)

-- Where each token begins.
unfoldable pub places : List ℕ → List ℕ
places text = map (λ (l : Located). l.place) (located text)
