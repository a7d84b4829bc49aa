-- One bit of a value, its number's digit beside its mark, and what the operators make of two such. Assumes nothing.
use mathlib.Core.Path.{◌≡◌, refl, sym, ap, ◌∙◌, subst}
use mathlib.Core.Logic.{◌≢◌, ◌⊎◌, inl, inr}
use mathlib.Core.List.{[], ◌∷◌}
use Prim.Native.Nat.{ℕ, zero, suc, ◌+◌, ◌/◌, ◌%◌, ◌^◌, ◌<◌, min, max}
use native.Mathlib.Nat.{div-one, div-add-mod', mod-lt, zero-lt-suc}
use native.Mathlib.Numerals.{add-one}
use native.Mathlib.Omega.{arith}
use lib.Arith.{lt-one}
use lib.Bits.{differ}
use lib.Dec.{eqb}
use lib.ListN.{get_or}
use lib.Pow.{shr_lt, shr-shr}
use Rattle.values.specs.Values.{pick}
use Rattle.values.proofs.Bits.{bit, Digit, d0, d1, digit}
use Rattle.bitwise.specs.Bits.{table, ands, ors, xors, nots, merges, Clash}

-- ---- a bit is 0, 1 or unknown

pub data Cell : ℕ → ℕ → Type 0 where
  c0 : Cell 0 0
  c1 : Cell 1 0
  cx : Cell 0 1

pub cell : {p q : ℕ} → Digit p → Digit q → min p q ≡ 0 → Cell p q
cell d0 d0 h = c0
cell d0 d1 h = cx
cell d1 d0 h = c1
cell d1 d1 h = absurd (omega arith)

abbrev pub shown : ℕ → ℕ → ℕ
shown p q = pick (eqb q 0) p 2

-- ---- the tables

pub and-cell : {p q r s : ℕ} → Cell p q → Cell r s →
    shown (min p r) (differ (min p r) (min (max p q) (max r s))) ≡ table ands (shown p q) (shown r s)
and-cell c0 c0 = refl
and-cell c0 c1 = refl
and-cell c0 cx = refl
and-cell c1 c0 = refl
and-cell c1 c1 = refl
and-cell c1 cx = refl
and-cell cx c0 = refl
and-cell cx c1 = refl
and-cell cx cx = refl

pub or-cell : {p q r s : ℕ} → Cell p q → Cell r s →
    shown (max p r) (differ (max p r) (max (max p q) (max r s))) ≡ table ors (shown p q) (shown r s)
or-cell c0 c0 = refl
or-cell c0 c1 = refl
or-cell c0 cx = refl
or-cell c1 c0 = refl
or-cell c1 c1 = refl
or-cell c1 cx = refl
or-cell cx c0 = refl
or-cell cx c1 = refl
or-cell cx cx = refl

-- The digit of what differs outside the marks.
abbrev pub unlike : ℕ → ℕ → ℕ → ℕ → ℕ
unlike p q r s = differ (differ p r) (min (differ p r) (max q s))

pub xor-cell : {p q r s : ℕ} → Cell p q → Cell r s →
    shown (unlike p q r s) (max q s) ≡ table xors (shown p q) (shown r s)
xor-cell c0 c0 = refl
xor-cell c0 c1 = refl
xor-cell c0 cx = refl
xor-cell c1 c0 = refl
xor-cell c1 c1 = refl
xor-cell c1 cx = refl
xor-cell cx c0 = refl
xor-cell cx c1 = refl
xor-cell cx cx = refl

pub merge-cell : {p q r s : ℕ} → Cell p q → Cell r s →
    shown (min p r) (max (differ p r) (max q s)) ≡ table merges (shown p q) (shown r s)
merge-cell c0 c0 = refl
merge-cell c0 c1 = refl
merge-cell c0 cx = refl
merge-cell c1 c0 = refl
merge-cell c1 c1 = refl
merge-cell c1 cx = refl
merge-cell cx c0 = refl
merge-cell cx c1 = refl
merge-cell cx cx = refl

pub not-cell : {p q : ℕ} → Cell p q → shown (differ 1 (min 1 (max p q))) q ≡ get_or nots (shown p q) 0
not-cell c0 = refl
not-cell c1 = refl
not-cell cx = refl

-- ---- which digit makes which bit

pub one-shown : {p q : ℕ} → Cell p q → p ≡ 1 → shown p q ≡ 1
one-shown c0 h = h
one-shown c1 h = refl
one-shown cx h = absurd (omega arith)

pub x-shown : {p q : ℕ} → Cell p q → q ≡ 1 → shown p q ≡ 2
x-shown c0 h = absurd (omega arith)
x-shown c1 h = absurd (omega arith)
x-shown cx h = refl

pub shown-one : {p q : ℕ} → Cell p q → shown p q ≡ 1 → p ≡ 1
shown-one c0 h = h
shown-one c1 h = refl
shown-one cx h = absurd (omega arith)

pub shown-x : {p q : ℕ} → Cell p q → shown p q ≡ 2 → q ≡ 1
shown-x c0 h = absurd (omega arith)
shown-x c1 h = absurd (omega arith)
shown-x cx h = refl

pub zero-shown : {p q : ℕ} → p ≡ 0 → q ≡ 0 → shown p q ≡ 0
zero-shown e g = rw (e, g)

-- ---- two bits compared

pub unlike-clash : {p q r s : ℕ} → Cell p q → Cell r s → unlike p q r s ≡ 1 → Clash (shown p q) (shown r s)
unlike-clash c0 c0 h = absurd (omega arith)
unlike-clash c0 c1 h = (omega arith, omega arith, λ e. omega arith)
unlike-clash c0 cx h = absurd (omega arith)
unlike-clash c1 c0 h = (omega arith, omega arith, λ e. omega arith)
unlike-clash c1 c1 h = absurd (omega arith)
unlike-clash c1 cx h = absurd (omega arith)
unlike-clash cx c0 h = absurd (omega arith)
unlike-clash cx c1 h = absurd (omega arith)
unlike-clash cx cx h = absurd (omega arith)

pub clash-unlike : {p q r s : ℕ} → Cell p q → Cell r s → Clash (shown p q) (shown r s) → unlike p q r s ≡ 1
clash-unlike c0 c0 h = absurd (h.2 refl)
clash-unlike c0 c1 h = refl
clash-unlike c0 cx h = let k = h.1 in absurd (omega arith)
clash-unlike c1 c0 h = refl
clash-unlike c1 c1 h = absurd (h.2 refl)
clash-unlike c1 cx h = let k = h.1 in absurd (omega arith)
clash-unlike cx c0 h = let k = h.0 in absurd (omega arith)
clash-unlike cx c1 h = let k = h.0 in absurd (omega arith)
clash-unlike cx cx h = absurd (h.2 refl)

pub marked-blur : {p q r s : ℕ} → Cell p q → Cell r s → max q s ≡ 1 → (shown p q ≡ 2) ⊎ (shown r s ≡ 2)
marked-blur c0 c0 h = absurd (omega arith)
marked-blur c0 c1 h = absurd (omega arith)
marked-blur c0 cx h = inr refl
marked-blur c1 c0 h = absurd (omega arith)
marked-blur c1 c1 h = absurd (omega arith)
marked-blur c1 cx h = inr refl
marked-blur cx y h = inl refl

pub blur-left : {p q r s : ℕ} → Cell p q → Cell r s → shown p q ≡ 2 → max q s ≡ 1
blur-left c0 y h = absurd (omega arith)
blur-left c1 y h = absurd (omega arith)
blur-left cx c0 h = refl
blur-left cx c1 h = refl
blur-left cx cx h = refl

pub blur-right : {p q r s : ℕ} → Cell p q → Cell r s → shown r s ≡ 2 → max q s ≡ 1
blur-right x c0 h = absurd (omega arith)
blur-right x c1 h = absurd (omega arith)
blur-right c0 cx h = refl
blur-right c1 cx h = refl
blur-right cx cx h = refl

pub same-shown : {p q r s : ℕ} → Cell p q → Cell r s → unlike p q r s ≡ 0 → max q s ≡ 0 →
    (shown p q ≡ shown r s) × (shown p q < 2)
same-shown c0 c0 h k = (refl, omega arith)
same-shown c0 c1 h k = absurd (omega arith)
same-shown c0 cx h k = absurd (omega arith)
same-shown c1 c0 h k = absurd (omega arith)
same-shown c1 c1 h k = (refl, omega arith)
same-shown c1 cx h k = absurd (omega arith)
same-shown cx c0 h k = absurd (omega arith)
same-shown cx c1 h k = absurd (omega arith)
same-shown cx cx h k = absurd (omega arith)

-- ---- a number is 0, or some digit of it is 1

pub data Seen (w n : ℕ) : Type 0 where
  at : (i : ℕ) → i < w → bit n i ≡ 1 → Seen w n
  none : n ≡ 0 → Seen w n

pub seen : (w n : ℕ) → n < 2 ^ w → Seen w n
seen zero n h = none (lt-one h)
seen (suc k) n h = by (seen k (n / 2 ^ 1) (shr_lt k 1 (subst (λ (m : ℕ). n < 2 ^ m) (sym (add-one k)) h)))
  where
    low : (d : ℕ) → Digit d → n % 2 ≡ d → n / 2 ^ 1 ≡ 0 → Seen (suc k) n
    low d d0 e z = let all = div-add-mod' n 2 in none (omega arith)
    low d d1 e z = at 0 (omega arith) (ap (λ (m : ℕ). m % 2) (div-one n) ∙ e)

    by : Seen k (n / 2 ^ 1) → Seen (suc k) n
    by (at i l e) = at (1 + i) (omega arith) (sym (ap (λ (m : ℕ). m % 2) (shr-shr n 1 i)) ∙ e)
    by (none z) = low (n % 2) (digit (n % 2) (mod-lt n (zero-lt-suc 1))) refl z
