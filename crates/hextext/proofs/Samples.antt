-- Samples, computed from the definitions. Assumes nothing.
use mathlib.Core.Path.{◌≡◌, refl}
use mathlib.Core.Bool.{true, false}
use mathlib.Core.List.{List, [], ◌∷◌}
use Prim.Native.Nat.{ℕ}
use Rattle.hextext.specs.declared.Decoded.{Decoded}
use Rattle.hextext.specs.Characters.{digit_of, is_digit, is_blank, is_gap, is_text}
use Rattle.hextext.specs.Scanning.{more, start, next_line, along, first, second, failed, step, scan}
use Rattle.hextext.specs.Decoding.{completes, byte_of, made, full, bytes_from, bytes_of, error_of, ending, decoded}
use Rattle.hextext.specs.Decoding.{found, spotted, spot_of}

abbrev answer : ℕ → ℕ → ℕ → ℕ → Decoded
answer length error line column = record { length = length; error = error; line = line; column = column }

-- `02 01 # c`, a line end, `0a`
abbrev small : List ℕ
small = 48 ∷ 50 ∷ 32 ∷ 48 ∷ 49 ∷ 32 ∷ 35 ∷ 32 ∷ 99 ∷ 10 ∷ 48 ∷ 97 ∷ []

pub sample-text : is_text small ≡ true
unfolding is_text is_digit digit_of
sample-text = refl

-- a blank line, then a comment
pub sample-comment : is_text (32 ∷ 10 ∷ 35 ∷ []) ≡ true
unfolding is_text is_digit digit_of is_gap is_blank
sample-comment = refl

-- the head of a sheet: 9 inputs, 10 registers, 32 wires, 1 thread
pub sample-sheet : is_text (9 ∷ 10 ∷ 32 ∷ 1 ∷ 48 ∷ []) ≡ false
unfolding is_text is_digit digit_of is_gap is_blank
sample-sheet = refl

pub sample-bytes : bytes_of small ≡ 2 ∷ 1 ∷ 10 ∷ []
unfolding bytes_of bytes_from made completes byte_of full start step next_line along first second failed more is_digit digit_of is_blank
sample-bytes = refl

pub sample-decoded : decoded small ≡ answer 3 0 2 3
unfolding decoded ending error_of scan full start step next_line along first second failed more is_digit digit_of is_blank
sample-decoded = refl

-- `0a`, a line end, `1 2`: the 1 stands alone
pub sample-single : decoded (48 ∷ 97 ∷ 10 ∷ 49 ∷ 32 ∷ 50 ∷ []) ≡ answer 1 2 2 1
unfolding decoded ending error_of scan full start step next_line along first second failed more is_digit digit_of is_blank
sample-single = refl

-- `0a0`: the text ends behind a first digit
pub sample-half : decoded (48 ∷ 97 ∷ 48 ∷ []) ≡ answer 1 2 1 3
unfolding decoded ending error_of scan full start step next_line along first second failed more is_digit digit_of is_blank
sample-half = refl

-- `0a g`
pub sample-wrong : decoded (48 ∷ 97 ∷ 32 ∷ 103 ∷ []) ≡ answer 1 1 1 4
unfolding decoded ending error_of scan full start step next_line along first second failed more is_digit digit_of is_blank
sample-wrong = refl

pub sample-spot : spot_of small 2 ≡ record { line = 2; column = 1 }
unfolding spot_of spotted found scan start step next_line along first second failed more is_digit digit_of is_blank
sample-spot = refl

pub sample-spot-end : spot_of small 3 ≡ record { line = 2; column = 3 }
unfolding spot_of spotted found scan start step next_line along first second failed more is_digit digit_of is_blank
sample-spot-end = refl
