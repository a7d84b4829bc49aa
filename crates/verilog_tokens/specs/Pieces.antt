-- What the code says of the token at a place: its kind, its number and its length.
use Rattle.std.specs.Prelude.{List, [], ◌∷◌, ℕ, zero, suc, drop, Option, Some, None}
use Rattle.values.specs.Values.{◌is◌then◌else◌}
use Rattle.verilog_tokens.specs.declared.Piece.{Piece}
use Rattle.verilog_tokens.specs.declared.Class.TheVariants.{Binary, Octal, Hexadecimal}
use Rattle.verilog_tokens.specs.Characters.{span}
use Rattle.verilog_tokens.specs.Tokens.{Token, Lexeme, Base, base, none, radix_of, decimal_digits, opening, token_by}
use Rattle.verilog_tokens.specs.Table.{kind_of, number_in}

abbrev pub piece : ℕ → ℕ → ℕ → Piece
piece k n s = record { kind = k; number = n; size = s }

-- A name's number isn't known here: 0.
unfoldable pub unnamed : List ℕ → ℕ
unnamed s = 0

unfoldable pub piece_of : Token → ℕ → Piece
piece_of t n = piece (kind_of t) (number_in unnamed t) n

unfoldable pub piece_in : Lexeme → Piece
piece_in l = piece_of l.token l.size

-- Of the text from place p on; at its end there is no token.
unfoldable pub piece_from : ℕ → List ℕ → Piece
piece_from p [] = piece 0 0 0
piece_from p (b ∷ s) = piece_in (token_by (opening b) p b s)

unfoldable pub piece_at : List ℕ → ℕ → Piece
piece_at text p = piece_from p (drop p text)

-- A length that is none where it is 0.
abbrev pub some_length : ℕ → Option ℕ
some_length zero = None
some_length (suc n) = Some (suc n)

-- ---- a base by its radix, 0 for none; the digits of a radix

unfoldable pub radix_in : Base → ℕ
radix_in none = 0
radix_in (base r) = radix_of r

unfoldable pub digits_by : ℕ → List ℕ → ℕ
digits_by radix s =
    radix is 2 then span Binary s else
    radix is 8 then span Octal s else
    radix is 10 then decimal_digits s else
    span Hexadecimal s
