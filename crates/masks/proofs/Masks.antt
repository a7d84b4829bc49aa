-- Laws of sets of marks: the digits of a number, the marks of two lists, the first mark.
-- Assumes nothing.
use mathlib.Core.Path.{◌≡◌, refl, sym, ap, ◌∙◌, subst}
use mathlib.Core.Bool.{Bool, true, false, not, ◌||◌, or-false, or-true, false≢true, true≢false}
use mathlib.Core.List.{List, [], ◌∷◌}
use Prim.Native.Nat.{ℕ, zero, suc, ◌*◌, ◌/◌, ◌%◌, ◌^◌, ◌≤◌, ◌<◌, suc-le-suc}
use native.Mathlib.Nat.{zero-lt-suc, le_of_suc-le-suc, not-suc-le-zero, one-mul}
use native.Mathlib.Omega.{arith}
use lib.Bits.{bit_or}
use lib.Count.{count_trailing_zeros}
use lib.Dec.{eqb, lit<}
use lib.ListN.{length, get_or, set, replicate, get_or-eq_default}
use lib.Pow.{shl_exact}
use lib.Seq.{ext_get_or, set_out}
use Rattle.masks.specs.Masks.{odd, bits, digits, mask, either, first, any_mark}
use Rattle.masks.proofs.Digits.{length_digits, get_d-digits, digits-zero, digits-mask}
use Rattle.masks.proofs.Digits.{mask-digits, digits-or, digits-set, digits-clear, cleared}
use Rattle.masks.proofs.Digits.{first-digits, any-mask}

-- 1 shifted left by k, in 32 binary digits
pub shifted : (k : ℕ) → k < 32 → 1 * 2 ^ k % 2 ^ 32 ≡ 2 ^ k
shifted k h = shl_exact 1 k 32 (lit< tt) (omega arith) ∙ one-mul (2 ^ k)

-- ---- bits

pub length-bits : (n : ℕ) → length (bits n) ≡ 32
unfolding bits
length-bits n = length_digits 32 n

pub get_d_bits : (n k : ℕ) → k < 32 → get_or (bits n) k false ≡ odd (n / 2 ^ k)
unfolding bits
get_d_bits n k h = get_d-digits 32 n k h

pub get_d-bits-past : (n k : ℕ) → 32 ≤ k → get_or (bits n) k false ≡ false
get_d-bits-past n k h = get_or-eq_default (bits n) false (rw (length-bits n) h)

pub set-bits-past : (n k : ℕ) (b : Bool) → 32 ≤ k → set (bits n) k b ≡ bits n
set-bits-past n k b h = set_out (bits n) k b (rw (length-bits n) h)

pub bits-zero : bits 0 ≡ replicate 32 false
unfolding bits
bits-zero = digits-zero 32

pub bits-mask : (bs : List Bool) → length bs ≡ 32 → bits (mask bs) ≡ bs
unfolding bits
bits-mask bs e = subst (λ (w : ℕ). digits w (mask bs) ≡ bs) e (digits-mask bs)

pub mask-bits : (n : ℕ) → n < 2 ^ 32 → mask (bits n) ≡ n
unfolding bits
mask-bits n h = mask-digits 32 n h

pub bits-or : (a b : ℕ) → bits (bit_or a b) ≡ either (bits a) (bits b)
unfolding bits
bits-or a b = digits-or 32 a b

pub bits-set : (n k : ℕ) → bits (bit_or n (2 ^ k)) ≡ set (bits n) k true
unfolding bits
bits-set n k = digits-set 32 n k

pub bits-clear : (n k : ℕ) → bits (cleared n (2 ^ k)) ≡ set (bits n) k false
unfolding bits
bits-clear n k = digits-clear 32 n k

pub first-bits : (n : ℕ) → first (bits n) ≡ count_trailing_zeros 32 n
unfolding bits
first-bits n = first-digits 32 n

pub any-bits : (n : ℕ) → n < 2 ^ 32 → any_mark (bits n) ≡ not (eqb n 0)
any-bits n h = any-mask (bits n) ∙ ap (λ (x : ℕ). not (eqb x 0)) (mask-bits n h)

-- ---- either

pub length-either :
    (xs ys : List Bool) → length xs ≡ length ys → length (either xs ys) ≡ length xs
length-either [] ys e = sym e
length-either (x ∷ xs) [] e = refl
length-either (x ∷ xs) (y ∷ ys) e = ap suc (length-either xs ys (cc))

pub get_d-either :
    (xs ys : List Bool) (k : ℕ) →
    get_or (either xs ys) k false ≡ (get_or xs k false || get_or ys k false)
get_d-either [] ys k = refl
get_d-either (x ∷ xs) [] k = sym (or-false (get_or (x ∷ xs) k false))
get_d-either (x ∷ xs) (y ∷ ys) zero = refl
get_d-either (x ∷ xs) (y ∷ ys) (suc k) = get_d-either xs ys k

-- ---- any_mark, first

pub any_none : (bs : List Bool) → any_mark bs ≡ false → (k : ℕ) → get_or bs k false ≡ false
any_none [] h k = refl
any_none (true ∷ bs) h k = absurd (true≢false h)
any_none (false ∷ bs) h zero = refl
any_none (false ∷ bs) h (suc k) = any_none bs h k

pub any_some : (bs : List Bool) → any_mark bs ≡ true → get_or bs (first bs) false ≡ true
any_some [] h = h
any_some (true ∷ bs) h = refl
any_some (false ∷ bs) h = any_some bs h

pub first-lt : (bs : List Bool) → any_mark bs ≡ true → first bs < length bs
first-lt [] h = absurd (false≢true h)
first-lt (true ∷ bs) h = zero-lt-suc (length bs)
first-lt (false ∷ bs) h = suc-le-suc (first-lt bs h)

pub first-lowest : (bs : List Bool) (k : ℕ) → k < first bs → get_or bs k false ≡ false
first-lowest [] k h = refl
first-lowest (true ∷ bs) k h = absurd (not-suc-le-zero h)
first-lowest (false ∷ bs) zero h = refl
first-lowest (false ∷ bs) (suc k) h = first-lowest bs k (le_of_suc-le-suc h)

pub first-none : (bs : List Bool) → any_mark bs ≡ false → first bs ≡ length bs
first-none [] h = refl
first-none (true ∷ bs) h = absurd (true≢false h)
first-none (false ∷ bs) h = ap suc (first-none bs h)

pub any_of : (bs : List Bool) (k : ℕ) → get_or bs k false ≡ true → any_mark bs ≡ true
any_of [] k h = h
any_of (true ∷ bs) k h = refl
any_of (false ∷ bs) zero h = absurd (false≢true h)
any_of (false ∷ bs) (suc k) h = any_of bs k h

pub any-either : (xs ys : List Bool) → any_mark (either xs ys) ≡ (any_mark xs || any_mark ys)
any-either [] ys = refl
any-either (x ∷ xs) [] = sym (or-false (any_mark (x ∷ xs)))
any-either (true ∷ xs) (y ∷ ys) = refl
any-either (false ∷ xs) (true ∷ ys) = sym (or-true (any_mark xs))
any-either (false ∷ xs) (false ∷ ys) = any-either xs ys

-- ---- sets and lists of marks are equal by their marks

pub bits-same : (a b : ℕ) → a < 2 ^ 32 → b < 2 ^ 32 → bits a ≡ bits b → a ≡ b
bits-same a b h k e = sym (mask-bits a h) ∙ ap mask e ∙ mask-bits b k

pub flags-same :
    (xs ys : List Bool) → length xs ≡ length ys →
    ((k : ℕ) → get_or xs k false ≡ get_or ys k false) → xs ≡ ys
flags-same xs ys e h = ext_get_or false xs ys e (λ k l. h k)
