-- Numbers in decimal: their characters are digits, and as a numeral they give the number back. Assumes nothing.
use mathlib.Core.Path.{◌≡◌, refl, sym, ap, ◌∙◌}
use mathlib.Core.Bool.{Bool, true, false, not, ◌&&◌, false≢true}
use mathlib.Core.List.{List, [], ◌∷◌, ◌++◌}
use Prim.Native.Nat.{ℕ, zero, suc, ◌+◌, ◌-◌, ◌*◌, ◌/◌, ◌%◌, ◌^◌, ◌≤◌, ◌<◌}
use native.Mathlib.Omega.{arith}
use borrow.Author.Tests.{lt-ltb, ltb-true, ltb-false, eqb-true, eqb-false, eq-eqb, ne_eqb}
use lib.Dec.{ltb, eqb}
use lib.ListN.{length, length-append}
use Rattle.values.specs.Values.{pick}
use Rattle.hextext.specs.Characters.{digit_of}
use Rattle.hextext.proofs.Steps.{digit-decimal}
use Rattle.writing.specs.Numbers.{digit, digits, decimal}
use Rattle.writing.proofs.Numbers as Written
use Rattle.verilog_tokens.specs.declared.Class.{Class}
use Rattle.verilog_tokens.specs.declared.Class.TheVariants.{Word, Decimal}
use Rattle.verilog_tokens.specs.Characters.{is_newline, is_space, is_letter, is_below, is_x, is_underscore, is_named, in_class, span, every, with_digit, numeral_from, numeral}
use Rattle.verilog_tokens.specs.Tokens.{number, known, is_known, opens_zero, number_token, value_token}

-- ---- digits

pub record Digit (d : ℕ) : Type 0 where
  pub low : 48 ≤ d
  pub high : d < 58

unfoldable pub Digits : List ℕ → Type 0
Digits [] = Unit {0}
Digits (d ∷ ds) = Digit d × Digits ds

digits_append : (s t : List ℕ) → Digits s → Digits t → Digits (s ++ t)
unfolding Digits
digits_append [] t h g = g
digits_append (d ∷ s) t h g = (h.0, digits_append s t h.1 g)

digit-is : (n : ℕ) → n < 10 → Digit (digit n)
digit-is n h = record { low = omega arith; high = omega arith }

pub are-digits : (f n : ℕ) → Digits (digits f n)
unfolding Digits digits
are-digits zero n = Prim.tt
are-digits (suc f) n = by (ltb n 10) refl (are-digits f (n / 10))
  where
    by : (x : Bool) → ltb n 10 ≡ x → Digits (digits f (n / 10))
        → Digits (pick x (digit n ∷ []) (digits f (n / 10) ++ (digit (n % 10) ∷ [])))
    by true q h = (digit-is n (ltb-true n 10 q), Prim.tt)
    by false q h = digits_append (digits f (n / 10)) (digit (n % 10) ∷ []) h (digit-is (n % 10) (omega arith), Prim.tt)

pub decimal-digits : (n : ℕ) → Digits (decimal n)
unfolding decimal
decimal-digits n = are-digits 20 n

digits-some : (f n : ℕ) → 1 ≤ length (digits (suc f) n)
unfolding digits
digits-some f n = by (ltb n 10)
  where
    by : (x : Bool) → 1 ≤ length (pick x (digit n ∷ []) (digits f (n / 10) ++ (digit (n % 10) ∷ [])))
    by true = omega arith
    by false = omega (arith, length-append (digits f (n / 10)) (digit (n % 10) ∷ []))

pub decimal-some : (n : ℕ) → 1 ≤ length (decimal n)
unfolding decimal
decimal-some n = digits-some 19 n

-- ---- a digit as a character

module _ (d : ℕ) (h : Digit d) where
  not_is : (n : ℕ) → n < 48 → eqb d n ≡ false
  not_is n l = let low = h.low in ne_eqb d n (omega arith)

  not-above : (n : ℕ) → 57 < n → eqb d n ≡ false
  not-above n l = let high = h.high in ne_eqb d n (omega arith)

  pub digit_value : digit_of d ≡ d - 48
  digit_value = sym (digit-decimal d h.low h.high)

  pub digit-below : is_below 10 d ≡ true
  unfolding is_below
  digit-below = let low = h.low in let high = h.high in rw digit_value (lt-ltb (d - 48) 10 (omega arith))

  pub digit-no-letter : is_letter d ≡ false
  unfolding is_letter
  digit-no-letter = let high = h.high in rw (lt-ltb d 65 (omega arith))

  pub digit-no-space : is_space d ≡ false
  unfolding is_space is_newline
  digit-no-space =
      rw (not_is 32 (omega arith), not_is 9 (omega arith), not_is 12 (omega arith), not_is 10 (omega arith), not_is 13 (omega arith))

  pub digit-no-slash : eqb d 47 ≡ false
  digit-no-slash = not_is 47 (omega arith)

  pub digit-no-x : is_x d ≡ false
  unfolding is_x
  digit-no-x = rw (not-above 120 (omega arith), not-above 88 (omega arith))

  pub digit-no-underscore : is_underscore d ≡ false
  unfolding is_underscore
  digit-no-underscore = not-above 95 (omega arith)

  pub digit-decimal-class : in_class Decimal d ≡ true
  unfolding in_class
  digit-decimal-class = rw (digit-no-underscore, digit-below)

  pub digit-word-class : in_class Word d ≡ true
  unfolding in_class is_named
  digit-word-class = rw (digit-no-letter, digit-below)

  pub digit-known : is_known 10 d ≡ true
  unfolding is_known
  digit-known = rw (digit-no-underscore, digit-below)

-- ---- runs

pub span_run : (c : Class) (v s : List ℕ) → every (in_class c) v ≡ true → span c s ≡ 0 → span c (v ++ s) ≡ length v
unfolding span every
span_run c [] s e h = h
span_run c (b ∷ v) s e h = by (in_class c b) refl e (span_run c v s)
  where
    by : (t : Bool) → in_class c b ≡ t → (t && every (in_class c) v) ≡ true
        → (every (in_class c) v ≡ true → span c s ≡ 0 → span c (v ++ s) ≡ length v)
        → pick (in_class c b) (suc (span c (v ++ s))) zero ≡ suc (length v)
    by true q e g = rw q (ap suc (g e h))
    by false q e g = absurd (false≢true e)

pub every-digit : (P : ℕ → Bool) → ((d : ℕ) → Digit d → P d ≡ true) → (ds : List ℕ) → Digits ds → every P ds ≡ true
unfolding every Digits
every-digit P f [] h = refl
every-digit P f (d ∷ ds) h = rw (f d h.0, every-digit P f ds h.1)

-- ---- the number that they are

pub numeral-number : (ds : List ℕ) (n : ℕ) → Digits ds → numeral_from 10 n ds ≡ Written.number n ds
unfolding numeral_from with_digit Written.number Digits
numeral-number [] n h = refl
numeral-number (d ∷ ds) n h =
    rw (digit-no-underscore d h.0, digit_value d h.0) (numeral-number ds (n * 10 + (d - 48)) h.1)

pub numeral-decimal : (n : ℕ) → n < 2 ^ 64 → numeral 10 (decimal n) ≡ n
unfolding numeral
numeral-decimal n h = numeral-number (decimal n) 0 (decimal-digits n) ∙ Written.number-decimal n h

-- A number other than 0 doesn't begin with 0.
opens-append : (s t : List ℕ) → 1 ≤ length s → opens_zero (s ++ t) ≡ opens_zero s
unfolding opens_zero
opens-append [] t h = absurd (omega arith)
opens-append (d ∷ s) t h = refl

opens-less : (n : ℕ) → opens_zero (digit n ∷ []) ≡ eqb n 0
unfolding opens_zero
opens-less n = by (eqb n 0) refl
  where
    by : (x : Bool) → eqb n 0 ≡ x → eqb (digit n) 48 ≡ x
    by true q = eq-eqb (digit n) 48 (let z = eqb-true n 0 q in omega arith)
    by false q = ne_eqb (digit n) 48 (λ e. eqb-false n 0 q (omega arith))

opens-digits : (f n : ℕ) → n < 10 ^ suc f → opens_zero (digits (suc f) n) ≡ eqb n 0
unfolding digits
opens-digits zero n h = rw (lt-ltb n 10 (omega arith)) (opens-less n)
opens-digits (suc f) n h = by (ltb n 10) refl (opens-digits f (n / 10) (omega arith))
  where
    by : (x : Bool) → ltb n 10 ≡ x → opens_zero (digits (suc f) (n / 10)) ≡ eqb (n / 10) 0
        → opens_zero (pick x (digit n ∷ []) (digits (suc f) (n / 10) ++ (digit (n % 10) ∷ []))) ≡ eqb n 0
    by true q g = opens-less n
    by false q g =
        let l = ltb-false n 10 q in
        opens-append (digits (suc f) (n / 10)) (digit (n % 10) ∷ []) (digits-some f (n / 10)) ∙ g
        ∙ ne_eqb (n / 10) 0 (omega arith) ∙ sym (ne_eqb n 0 (omega arith))

pub opens-decimal : (n : ℕ) → n < 2 ^ 64 → opens_zero (decimal n) ≡ eqb n 0
unfolding decimal
opens-decimal n h = opens-digits 19 n (omega arith)

-- ---- as tokens

pub number-decimal : (n : ℕ) → n < 2 ^ 64 → number_token (decimal n) ≡ number (not (eqb n 0)) n
unfolding number_token
number-decimal n h = rw (opens-decimal n h, numeral-decimal n h)

value-digits : (ds : List ℕ) → 1 ≤ length ds → Digits ds → value_token 10 ds ≡ known (numeral 10 ds)
unfolding value_token Digits
value-digits [] l h = absurd (omega arith)
value-digits (d ∷ ds) l h =
    rw (digit-no-underscore d h.0, every-digit (is_known 10) digit-known (d ∷ ds) h)

pub value-decimal : (n : ℕ) → n < 2 ^ 64 → value_token 10 (decimal n) ≡ known n
value-decimal n h = value-digits (decimal n) (decimal-some n) (decimal-digits n) ∙ ap known (numeral-decimal n h)
