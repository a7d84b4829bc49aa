-- Laws of the digits: by row, that there is one for each bit, and that they read back. Assumes nothing.
use mathlib.Core.Path.{◌≡◌, refl, sym, ap, ◌∙◌}
use mathlib.Core.Logic.{◌≢◌}
use mathlib.Core.List.{List, [], ◌∷◌, ◌++◌}
use Prim.Native.Nat.{ℕ, zero, suc, ◌+◌, ◌-◌, ◌*◌, ◌/◌, ◌%◌, ◌^◌, ◌<◌, min}
use native.Mathlib.Nat.{pow-suc, mod-lt, zero-lt-suc}
use native.Mathlib.Omega.{arith}
use borrow.Author.Tests.{eq-eqb, ne_eqb}
use lib.Bits.{bit_and, and_step}
use lib.Dec.{eqb}
use lib.ListN.{length, length-append, replicate}
use lib.Pow.{pow_pos}
use Rattle.values.specs.declared.Value.{Value}
use Rattle.values.specs.Values.{pick}
use Rattle.values.specs.Planes.{number_of, marks_of}
use Rattle.values.proofs.Values.{fits-is}
use Rattle.values.proofs.Bits.{Digit, d0, d1, digit as digit2}
use Rattle.writing.specs.Ascii.{byte}
use Rattle.writing.specs.Numbers.{digit}
use Rattle.binary_text.specs.BinaryText.{bit, bits, bits_of}
use Rattle.binary_text.specs.Claims.{read_for, value_in, ReadsBack}

-- ---- bit, bits, by row

module _ (n u : ℕ) where
  pub bit-known : u % 2 ≡ 0 → bit n u ≡ digit (n % 2)
  unfolding bit
  bit-known e = rw (eq-eqb (u % 2) 0 e)

  pub bit-unknown : u % 2 ≢ 0 → bit n u ≡ byte "x"
  unfolding bit
  bit-unknown e = rw (ne_eqb (u % 2) 0 e)

module _ (w n u : ℕ) where
  pub bits_none : w ≡ 0 → bits w n u ≡ []
  unfolding bits
  bits_none e = rw e refl

  pub bits-more : w ≢ 0 → bits w n u ≡ bits (w - 1) (n / 2) (u / 2) ++ (bit n u ∷ [])
  unfolding bits
  bits-more h = by w refl
    where
      by : (j : ℕ) → w ≡ j → bits j n u ≡ bits (j - 1) (n / 2) (u / 2) ++ (bit n u ∷ [])
      by zero e = absurd (h e)
      by (suc j) e = let z : suc j - 1 ≡ j = omega arith in rw z refl

-- ---- one digit a bit

pub length-bits : (w n u : ℕ) → length (bits w n u) ≡ w
unfolding bits
length-bits zero n u = refl
length-bits (suc w) n u =
    length-append (bits w (n / 2) (u / 2)) (bit n u ∷ []) ∙ rw (length-bits w (n / 2) (u / 2)) (omega arith)

pub length-bits-of : (w : ℕ) (a : Value) → length (bits_of w a) ≡ w
unfolding bits_of
length-bits-of w a = length-bits w _ _

-- ---- reading back

read-append : (d a : ℕ) (bs cs : List ℕ) → read_for d a (bs ++ cs) ≡ read_for d (read_for d a bs) cs
unfolding read_for
read-append d a [] cs = refl
read-append d a (b ∷ bs) cs = read-append d (a * 2 + pick (eqb b d) 1 0) bs cs

-- The digits but the last, and the last.
read-last : (d w n u : ℕ) → read_for d 0 (bits (suc w) n u) ≡ read_for d 0 (bits w (n / 2) (u / 2)) * 2 + pick (eqb (bit n u) d) 1 0
unfolding read_for bits
read-last d w n u = read-append d 0 (bits w (n / 2) (u / 2)) (bit n u ∷ [])

low : (n : ℕ) → Digit (n % 2)
low n = digit2 (n % 2) (mod-lt n (zero-lt-suc 1))

mark-back : {p q : ℕ} → Digit p → Digit q → pick (eqb (pick (eqb q 0) (digit p) (byte "x")) (byte "x")) 1 0 ≡ q
mark-back d0 d0 = refl
mark-back d0 d1 = refl
mark-back d1 d0 = refl
mark-back d1 d1 = refl

one-back : {p q : ℕ} → Digit p → Digit q → min p q ≡ 0 → pick (eqb (pick (eqb q 0) (digit p) (byte "x")) (byte "1")) 1 0 ≡ p
one-back d0 d0 h = refl
one-back d0 d1 h = refl
one-back d1 d0 h = refl
one-back d1 d1 h = absurd (omega (arith, h))

marks-back : (w n u : ℕ) → u < 2 ^ w → read_for (byte "x") 0 (bits w n u) ≡ u
unfolding read_for bits bit
marks-back zero n u h = omega (arith, h)
marks-back (suc w) n u h =
    let rest = marks-back w (n / 2) (u / 2) (omega (arith, h, pow-suc 2 w)) in
    let last : pick (eqb (bit n u) (byte "x")) 1 0 ≡ u % 2 = mark-back (low n) (low u) in
    read-last (byte "x") w n u ∙ omega (arith, rest, last)

number-back : (w n u : ℕ) → n < 2 ^ w → bit_and n u ≡ 0 → read_for (byte "1") 0 (bits w n u) ≡ n
unfolding read_for bits bit
number-back zero n u h e = omega (arith, h)
number-back (suc w) n u h e =
    let step = and_step n u in
    let rest = number-back w (n / 2) (u / 2) (omega (arith, h, pow-suc 2 w)) (omega (arith, e, step)) in
    let last : pick (eqb (bit n u) (byte "1")) 1 0 ≡ n % 2 = one-back (low n) (low u) (omega (arith, e, step)) in
    read-last (byte "1") w n u ∙ omega (arith, rest, last)

pub reads-back : ReadsBack
unfolding value_in bits_of number_of marks_of
reads-back w a f =
    let fit = fits-is {w = w} {a = a} f in
    let n = number-back w a.number a.unknown fit.number fit.apart in
    let u = marks-back w a.number a.unknown fit.unknown in
    λ i. record { number = n i; unknown = u i }

-- ---- x in all bits

pub replicate-last : (w b : ℕ) → replicate w b ++ (b ∷ []) ≡ replicate (suc w) b
replicate-last zero b = refl
replicate-last (suc w) b = ap (λ l. b ∷ l) (replicate-last w b)

pub bits-x : (w n : ℕ) → bits w n (2 ^ w - 1) ≡ replicate w (byte "x")
unfolding bits
bits-x zero n = refl
bits-x (suc w) n =
    let half : (2 ^ suc w - 1) / 2 ≡ 2 ^ w - 1 = omega (arith, pow-suc 2 w, pow_pos w) in
    let odd : (2 ^ suc w - 1) % 2 ≡ 1 = omega (arith, pow-suc 2 w, pow_pos w) in
    let last = bit-unknown n (2 ^ suc w - 1) (λ e. omega (arith, e, odd)) in
    rw (half, last, bits-x w (n / 2)) (replicate-last w (byte "x"))

pub bits-zero : (w : ℕ) → bits w 0 0 ≡ replicate w (byte "0")
unfolding bits bit
bits-zero zero = refl
bits-zero (suc w) = ap (λ l. l ++ (byte "0" ∷ [])) (bits-zero w) ∙ replicate-last w (byte "0")
