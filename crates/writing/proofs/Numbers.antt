-- Laws of numbers in decimal: one digit more, how many digits, and which number they are.
use mathlib.Core.Path.{◌≡◌, refl, sym, ap, ◌∙◌}
use Prim.Native.Nat.{ℕ, zero, suc, ◌+◌, ◌-◌, ◌*◌, ◌/◌, ◌%◌, ◌^◌, ◌≤◌, ◌<◌}
use native.Mathlib.Omega.{arith}
use mathlib.Core.Bool.{Bool, true, false}
use mathlib.Core.List.{List, [], ◌∷◌, ◌++◌}
use lib.ListN.{length, length-append}
use lib.Dec.{ltb}
use borrow.Author.Tests.{lt-ltb, le-ltb, ltb-true, ltb-false}
use Rattle.writing.specs.Ascii.{byte}
use Rattle.writing.specs.Numbers.{digit, digits, decimal}

-- ---- digits

digits-less : (f n : ℕ) → n < 10 → digits (suc f) n ≡ digit n ∷ []
unfolding digits
digits-less f n h = simp (lt-ltb n 10 h)

digits_more : (f n : ℕ) → 10 ≤ n → digits (suc f) n ≡ digits f (n / 10) ++ (digit (n % 10) ∷ [])
unfolding digits
digits_more f n h = simp (le-ltb n 10 h)

-- A tenth of a number is below a tenth of its bound.
tenth : (k n : ℕ) → n < 10 ^ suc k → n / 10 < 10 ^ k
tenth k n h = omega arith

-- More digits than enough change nothing.
digits-enough : (f n : ℕ) → n < 10 ^ suc f → digits (suc (suc f)) n ≡ digits (suc f) n
digits-enough zero n h = digits-less 1 n h ∙ sym (digits-less 0 n h)
digits-enough (suc f) n h = by (ltb n 10) refl (digits-enough f (n / 10) (tenth (suc f) n h))
  where
    by : (x : Bool) → ltb n 10 ≡ x → digits (suc (suc f)) (n / 10) ≡ digits (suc f) (n / 10)
        → digits (suc (suc (suc f))) n ≡ digits (suc (suc f)) n
    by true q rest = let l = ltb-true n 10 q in digits-less _ n l ∙ sym (digits-less _ n l)
    by false q rest =
        let l = ltb-false n 10 q in
        digits_more _ n l ∙ ap (λ x. x ++ (digit (n % 10) ∷ [])) rest ∙ sym (digits_more _ n l)

-- ---- decimal

pub decimal-less : (n : ℕ) → n < 10 → decimal n ≡ digit n ∷ []
unfolding decimal
decimal-less n h = digits-less 19 n h

pub decimal-more : (n : ℕ) → 10 ≤ n → n < 2 ^ 64 → decimal n ≡ decimal (n / 10) ++ (digit (n % 10) ∷ [])
unfolding decimal
decimal-more n h l =
    digits_more 19 n h ∙ ap (λ x. x ++ (digit (n % 10) ∷ [])) (sym (digits-enough 18 (n / 10) (omega arith)))

-- ---- how many digits

length_digits : (f k n : ℕ) → n < 10 ^ suc k → length (digits f n) ≤ suc k
unfolding digits
length_digits zero k n h = omega arith
length_digits (suc f) zero n h = simp (lt-ltb n 10 h) (omega arith)
length_digits (suc f) (suc k) n h = by (ltb n 10) refl (length_digits f k (n / 10) (tenth (suc k) n h))
  where
    by : (x : Bool) → ltb n 10 ≡ x → length (digits f (n / 10)) ≤ suc k → length (digits (suc f) n) ≤ suc (suc k)
    by true q rest = rw (digits-less f n (ltb-true n 10 q)) (omega arith)
    by false q rest = rw (digits_more f n (ltb-false n 10 q), length-append) (omega arith)

-- A number below 10 to the k has at most k digits.
pub length-decimal : (k n : ℕ) → n < 10 ^ suc k → length (decimal n) ≤ suc k
unfolding decimal
length-decimal k n h = length_digits 20 k n h

digits-cut : (f n : ℕ) → length (digits f n) ≤ f
unfolding digits
digits-cut zero n = omega arith
digits-cut (suc f) n = by (ltb n 10) refl (digits-cut f (n / 10))
  where
    by : (x : Bool) → ltb n 10 ≡ x → length (digits f (n / 10)) ≤ f → length (digits (suc f) n) ≤ suc f
    by true q rest = rw (digits-less f n (ltb-true n 10 q)) (omega arith)
    by false q rest = rw (digits_more f n (ltb-false n 10 q), length-append) (omega arith)

-- Whatever the number, at most 20 digits.
pub decimal-twenty : (n : ℕ) → length (decimal n) ≤ 20
unfolding decimal
decimal-twenty n = digits-cut 20 n

-- ---- which number

-- The number whose digits are these, behind a number that was read already.
unfoldable pub number : ℕ → List ℕ → ℕ
number a [] = a
number a (d ∷ ds) = number (a * 10 + (d - byte "0")) ds

number_append : (a : ℕ) (ds es : List ℕ) → number a (ds ++ es) ≡ number (number a ds) es
unfolding number
number_append a [] es = refl
number_append a (d ∷ ds) es = number_append (a * 10 + (d - byte "0")) ds es

number_digits : (f n : ℕ) → n < 10 ^ suc f → number 0 (digits (suc f) n) ≡ n
unfolding number
number_digits zero n h = rw (digits-less 0 n h) (omega arith)
number_digits (suc f) n h = by (ltb n 10) refl (number_digits f (n / 10) (tenth (suc f) n h))
  where
    by : (x : Bool) → ltb n 10 ≡ x → number 0 (digits (suc f) (n / 10)) ≡ n / 10
        → number 0 (digits (suc (suc f)) n) ≡ n
    by true q rest = rw (digits-less _ n (ltb-true n 10 q)) (omega arith)
    by false q rest = rw (digits_more _ n (ltb-false n 10 q), number_append, rest) (omega arith)

-- Every number of 64 bits reads back.
pub number-decimal : (n : ℕ) → n < 2 ^ 64 → number 0 (decimal n) ≡ n
unfolding decimal
number-decimal n h = number_digits 19 n (omega arith)
