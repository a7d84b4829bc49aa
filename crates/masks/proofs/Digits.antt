-- Laws of the binary digits of a number: what bit operations on numbers do to their digits.
-- Assumes nothing.
use mathlib.Core.Path.{◌≡◌, refl, sym, ap, ap₂, ◌∙◌}
use mathlib.Core.Bool.{Bool, true, false, not, ◌||◌}
use mathlib.Core.List.{List, [], ◌∷◌}
use Prim.Native.Nat.{ℕ, zero, suc, ◌+◌, ◌*◌, ◌/◌, ◌%◌, ◌^◌, ◌<◌}
use native.Mathlib.Nat.{zero-lt-suc, le_refl, pow-suc, mod-lt, div-one, div-lt_iff_lt-mul, div-add-mod'}
use native.Mathlib.Nat.{mul-div_cancel, mul-mod_left, le_of_suc-le-suc}
use native.Mathlib.Omega.{arith}
use borrow.Author.Tests.{eqb-true, eqb-false, eq-eqb, ne_eqb}
use lib.Arith.{digits_div, digits_mod, lt-one}
use lib.Bits.{bit_or, bit_xor, or_shr, or_mod, or_zero_r, xor_shr, xor_mod, xor_zero_r}
use lib.Count.{count_trailing_zeros, under}
use lib.Dec.{eqb}
use lib.ListN.{length, get_or, set, replicate}
use lib.Pow.{shr-shr}
use Rattle.masks.specs.Masks.{odd, digits, digit, mask, either, first, any_mark}

-- ---- odd, digit

pub digit-odd : (n : ℕ) → n % 2 ≡ digit (odd n)
unfolding odd
digit-odd n = by (eqb (n % 2) 1) refl
  where
    by : (t : Bool) → eqb (n % 2) 1 ≡ t → n % 2 ≡ digit t
    by true e = eqb-true (n % 2) 1 e
    by false e = let l = mod-lt n (zero-lt-suc 1) in omega (arith, eqb-false (n % 2) 1 e)

pub odd-digit : (n : ℕ) (b : Bool) → n % 2 ≡ digit b → odd n ≡ b
unfolding odd
odd-digit n true e = eq-eqb (n % 2) 1 e
odd-digit n false e = rw e

digit_lt : (b : Bool) → digit b < 2
digit_lt false = zero-lt-suc 1
digit_lt true = le_refl 2

-- ---- digits: by the lowest digit and the half

pub length_digits : (w n : ℕ) → length (digits w n) ≡ w
unfolding digits
length_digits zero n = refl
length_digits (suc w) n = ap suc (length_digits w (n / 2))

pub digits-cons :
    (w n h : ℕ) (b : Bool) → n % 2 ≡ digit b → n / 2 ≡ h → digits (suc w) n ≡ b ∷ digits w h
unfolding digits
digits-cons w n h b e f = ap₂ ◌∷◌ (odd-digit n b e) (ap (digits w) f)

half-half : (n k : ℕ) → n / 2 / 2 ^ k ≡ n / 2 ^ suc k
half-half n k = shr-shr n 1 k ∙ ap (λ (x : ℕ). n / 2 ^ x) (omega arith)

pub get_d-digits : (w n k : ℕ) → k < w → get_or (digits w n) k false ≡ odd (n / 2 ^ k)
unfolding digits
get_d-digits zero n k h = absurd (omega arith)
get_d-digits (suc w) n zero h = ap odd (sym (div-one n))
get_d-digits (suc w) n (suc k) h =
    get_d-digits w (n / 2) k (le_of_suc-le-suc h) ∙ ap odd (half-half n k)

pub digits-zero : (w : ℕ) → digits w 0 ≡ replicate w false
unfolding digits odd
digits-zero zero = refl
digits-zero (suc w) = ap (λ bs. false ∷ bs) (digits-zero w)

-- ---- mask: the number of the digits

mask-half : (b : Bool) (bs : List Bool) → mask (b ∷ bs) / 2 ≡ mask bs
mask-half b bs = digits_div (mask bs) (digit_lt b)

mask-odd : (b : Bool) (bs : List Bool) → mask (b ∷ bs) % 2 ≡ digit b
mask-odd b bs = digits_mod (mask bs) (digit_lt b)

pub digits-mask : (bs : List Bool) → digits (length bs) (mask bs) ≡ bs
unfolding digits
digits-mask [] = refl
digits-mask (b ∷ bs) =
    digits-cons (length bs) (mask (b ∷ bs)) (mask bs) b (mask-odd b bs) (mask-half b bs)
    ∙ ap (λ cs. b ∷ cs) (digits-mask bs)

half_lt : (w n : ℕ) → n < 2 ^ suc w → n / 2 < 2 ^ w
half_lt w n h = (div-lt_iff_lt-mul (zero-lt-suc 1)).1 (rw (pow-suc 2 w) at h)

pub mask-digits : (w n : ℕ) → n < 2 ^ w → mask (digits w n) ≡ n
unfolding digits
mask-digits zero n h = sym (lt-one h)
mask-digits (suc w) n h =
    rw (mask-digits w (n / 2) (half_lt w n h), ← digit-odd n) (div-add-mod' n 2)

-- ---- or: the marks of either

digit_or : (x y : Bool) → bit_or (digit x) (digit y) ≡ digit (x || y)
digit_or false false = refl
digit_or false true = refl
digit_or true false = refl
digit_or true true = refl

odd-or : (a b : ℕ) → bit_or a b % 2 ≡ digit (odd a || odd b)
odd-or a b = or_mod a b 1 ∙ ap₂ bit_or (digit-odd a) (digit-odd b) ∙ digit_or (odd a) (odd b)

pub digits-or : (w a b : ℕ) → digits w (bit_or a b) ≡ either (digits w a) (digits w b)
unfolding digits
digits-or zero a b = refl
digits-or (suc w) a b =
    digits-cons w (bit_or a b) (bit_or (a / 2) (b / 2)) (odd a || odd b) (odd-or a b) (or_shr a b 1)
    ∙ ap (λ bs. (odd a || odd b) ∷ bs) (digits-or w (a / 2) (b / 2))

-- ---- powers of two: one mark

pow-half : (k : ℕ) → 2 ^ suc k / 2 ≡ 2 ^ k
pow-half k = rw (pow-suc 2 k) (mul-div_cancel (2 ^ k) (zero-lt-suc 1))

pow_even : (k : ℕ) → 2 ^ suc k % 2 ≡ 0
pow_even k = rw (pow-suc 2 k) (mul-mod_left (2 ^ k) 2)

or-one : (b : Bool) → bit_or (digit b) 1 ≡ 1
or-one false = refl
or-one true = refl

pub digits-set : (w n k : ℕ) → digits w (bit_or n (2 ^ k)) ≡ set (digits w n) k true
unfolding digits
digits-set zero n k = refl
digits-set (suc w) n zero =
    digits-cons w (bit_or n 1) (n / 2) true
    (or_mod n 1 1 ∙ ap (λ (x : ℕ). bit_or x 1) (digit-odd n) ∙ or-one (odd n))
    (or_shr n 1 1 ∙ or_zero_r (n / 2))
digits-set (suc w) n (suc k) =
    let p = 2 ^ suc k in
    digits-cons w (bit_or n p) (bit_or (n / 2) (2 ^ k)) (odd n)
    (or_mod n p 1 ∙ ap (bit_or (n % 2)) (pow_even k) ∙ or_zero_r (n % 2) ∙ digit-odd n)
    (or_shr n p 1 ∙ ap (bit_or (n / 2)) (pow-half k))
    ∙ ap (λ bs. odd n ∷ bs) (digits-set w (n / 2) k)

abbrev pub cleared : ℕ → ℕ → ℕ
cleared n p = bit_xor (bit_or n p) p

cleared-mod : (n p : ℕ) → cleared n p % 2 ≡ cleared (n % 2) (p % 2)
cleared-mod n p = xor_mod (bit_or n p) p 1 ∙ ap (λ (x : ℕ). bit_xor x (p % 2)) (or_mod n p 1)

cleared-half : (n p : ℕ) → cleared n p / 2 ≡ cleared (n / 2) (p / 2)
cleared-half n p = xor_shr (bit_or n p) p 1 ∙ ap (λ (x : ℕ). bit_xor x (p / 2)) (or_shr n p 1)

cleared-zero : (n : ℕ) → cleared n 0 ≡ n
cleared-zero n = xor_zero_r (bit_or n 0) ∙ or_zero_r n

cleared-one : (b : Bool) → cleared (digit b) 1 ≡ 0
cleared-one false = refl
cleared-one true = refl

pub digits-clear : (w n k : ℕ) → digits w (cleared n (2 ^ k)) ≡ set (digits w n) k false
unfolding digits
digits-clear zero n k = refl
digits-clear (suc w) n zero =
    digits-cons w (cleared n 1) (n / 2) false
    (cleared-mod n 1 ∙ ap (λ (x : ℕ). cleared x 1) (digit-odd n) ∙ cleared-one (odd n))
    (cleared-half n 1 ∙ cleared-zero (n / 2))
digits-clear (suc w) n (suc k) =
    let p = 2 ^ suc k in
    digits-cons w (cleared n p) (cleared (n / 2) (2 ^ k)) (odd n)
    (cleared-mod n p ∙ ap (cleared (n % 2)) (pow_even k) ∙ cleared-zero (n % 2) ∙ digit-odd n)
    (cleared-half n p ∙ ap (cleared (n / 2)) (pow-half k))
    ∙ ap (λ bs. odd n ∷ bs) (digits-clear w (n / 2) k)

-- ---- the count of trailing zeros: the first mark

first_under : (b : Bool) (bs : List Bool) → under (digit b) (first bs) ≡ first (b ∷ bs)
first_under false bs = refl
first_under true bs = refl

pub first-digits : (w n : ℕ) → first (digits w n) ≡ count_trailing_zeros w n
unfolding count_trailing_zeros digits
first-digits zero n = refl
first-digits (suc w) n =
    sym (ap₂ under (digit-odd n) (sym (first-digits w (n / 2))) ∙ first_under (odd n) (digits w (n / 2)))

-- ---- zero: no mark

double-zero : (n : ℕ) → eqb (n * 2 + 0) 0 ≡ eqb n 0
double-zero n = by (eqb n 0) refl
  where
    by : (t : Bool) → eqb n 0 ≡ t → eqb (n * 2 + 0) 0 ≡ t
    by true e = eq-eqb (n * 2 + 0) 0 (omega (arith, eqb-true n 0 e))
    by false e = ne_eqb (n * 2 + 0) 0 (λ z. eqb-false n 0 e (omega arith))

pub any-mask : (bs : List Bool) → any_mark bs ≡ not (eqb (mask bs) 0)
any-mask [] = refl
any-mask (true ∷ bs) = rw (ne_eqb (mask bs * 2 + 1) 0 (λ z. omega arith))
any-mask (false ∷ bs) = any-mask bs ∙ ap not (sym (double-zero (mask bs)))
