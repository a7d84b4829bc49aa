-- Words as numbers: decimal, hexadecimal behind `0x`, or `x`; and as binary digits, x among them, behind `b` or a width and `'b`.
use Rattle.std.specs.Prelude.{Bool, true, false, ◌&&◌, ◌||◌, List, [], ◌∷◌, ℕ, ◌+◌, ◌*◌, ◌%◌, length, get_or, ltb, eqb}
use Rattle.values.specs.Values.{pick}
use Rattle.hextext.specs.Characters.{digit_of}
use Rattle.stimulus.specs.declared.Number.{Number}
use Rattle.stimulus.specs.declared.Bits.{Bits}

-- ---- number_of: the number of a list of digits; one that is no digit makes it bad. Past 32 bits it grows no further.

abbrev pub number : Bool → ℕ → Number
number good n = record { good = good; n = n }

abbrev pub base : Bool → ℕ
base true = 16
base false = 10

unfoldable pub grown : Bool → Number → ℕ → Number
grown hex a b =
    pick (ltb (digit_of b) (base hex))
    (pick (ltb a.n 4294967296) (number a.good (a.n * base hex + digit_of b)) a)
    (number false 0)

unfoldable pub grown_by : Bool → Number → List ℕ → Number
grown_by hex a [] = a
grown_by hex a (b ∷ bs) = grown_by hex (grown hex a b) bs

unfoldable pub number_of : Bool → List ℕ → Number
number_of hex word = grown_by hex (number true 0) word

-- ---- is_x: `x` or `X`; is_hex: `0x` or `0X` and more

unfoldable pub is_letter_x : ℕ → Bool
is_letter_x b = eqb b 120 || eqb b 88

unfoldable pub is_x : List ℕ → Bool
is_x word = eqb (length word) 1 && is_letter_x (get_or word 0 0)

unfoldable pub is_hex : List ℕ → Bool
is_hex word = ltb 2 (length word) && eqb (get_or word 0 0) 48 && is_letter_x (get_or word 1 0)

-- ---- is_bits: `b` or `B` and more; is_sized: a width of one or two digits, `'b` or `'B` and more

unfoldable pub is_letter_b : ℕ → Bool
is_letter_b b = eqb b 98 || eqb b 66

unfoldable pub is_bits : List ℕ → Bool
is_bits word = ltb 1 (length word) && is_letter_b (get_or word 0 0)

-- The place of `'` (39) behind the width, or 0.
unfoldable pub quote_at : List ℕ → ℕ
quote_at word = pick (eqb (get_or word 1 0) 39) 1 (pick (eqb (get_or word 2 0) 39) 2 0)

unfoldable pub is_sized : List ℕ → Bool
is_sized word = ltb 0 (quote_at word) && ltb (quote_at word + 2) (length word) && is_letter_b (get_or word (quote_at word + 1) 0)

-- ---- bits_of: 32 bits, the digits the lowest of them; one that is none of 0, 1, x makes it bad. In front of them stand zeros, or x where
-- the first digit is x (IEEE 1364-2005, 3.5.1).

abbrev pub bits : Bool → ℕ → ℕ → Bits
bits good n marks = record { good = good; number = n; marks = marks }

-- 32 bits shifted left by one.
unfoldable pub doubled : ℕ → ℕ
doubled n = n % 2147483648 * 2

unfoldable pub spelt : Bits → ℕ → Bits
spelt a b =
    pick (eqb b 48) (bits a.good (doubled a.number) (doubled a.marks))
    (pick (eqb b 49) (bits a.good (doubled a.number + 1) (doubled a.marks))
    (pick (is_letter_x b) (bits a.good (doubled a.number) (doubled a.marks + 1))
    (bits false 0 0)))

unfoldable pub spelt_by : Bits → List ℕ → Bits
spelt_by a [] = a
spelt_by a (b ∷ bs) = spelt_by (spelt a b) bs

unfoldable pub ahead : ℕ → ℕ
ahead b = pick (is_letter_x b) 4294967295 0

unfoldable pub bits_of : List ℕ → Bits
bits_of word = spelt_by (bits true 0 (ahead (get_or word 0 0))) word
