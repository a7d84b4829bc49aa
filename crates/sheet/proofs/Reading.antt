-- Laws of reading with a refusal: what was read in sequence was read at each step.
use mathlib.Core.Path.{◌≡◌, refl, ◌∙◌}
use Prim.Native.Nat.{ℕ, ◌+◌, ◌-◌, ◌≤◌, ◌<◌}
use native.Mathlib.Omega.{arith}
use mathlib.Core.List.{List}
use mathlib.Core.Bool.{Bool, true, false}
use lib.ListN.{length, get_or}
use lib.Dec.{ltb, leb}
use borrow.Author.Tests.{lt-ltb, le-ltb, le-leb, ltb-true, leb-true}
use Rattle.sheet.specs.Reading.{Res, ok, no, ◌>>=◌, ◌>>◌, check, byte_at, within, word_of, word_at}

-- ---- refusals and answers are apart

pub no≢ok : {A : Type 0} {n p : ℕ} {a : A} → ◌≡◌ {A = Res A} (no n p) (ok a) → ⊥
no≢ok h = let z : ◌≡◌ {A = ℕ} 0 1 = cc in omega arith

pub ok-injective : {A : Type 0} {a b : A} → ◌≡◌ {A = Res A} (ok a) (ok b) → a ≡ b
ok-injective h = cc

-- ---- _>>=_ and check

pub bind_ok : {A B : Type 0} (x : Res A) (f : A → Res B) {b : B} → (x >>= f) ≡ ok b → (a : A) × (x ≡ ok a) × (f a ≡ ok b)
bind_ok (ok a) f h = (a, refl, h)
bind_ok (no n p) f h = absurd (no≢ok h)

pub check-ok : {B : Type 0} (t : Bool) (n p : ℕ) (r : Res B) {b : B} → (check t n p >> r) ≡ ok b → (t ≡ true) × (r ≡ ok b)
check-ok true n p r h = (refl, h)
check-ok false n p r h = absurd (no≢ok h)

-- ---- byte_at

pub byte-ok : (s : List ℕ) (at : ℕ) {b : ℕ} → byte_at s at ≡ ok b → (at < length s) × (get_or s at 0 ≡ b)
unfolding byte_at
byte-ok s at h =
    let c = check-ok (ltb at (length s)) 2 (length s) _ h in
    (ltb-true at (length s) c.0, ok-injective c.1)

pub byte-at : (s : List ℕ) (at : ℕ) → at < length s → byte_at s at ≡ ok (get_or s at 0)
unfolding byte_at
byte-at s at h = simp (lt-ltb _ _ h)

pub byte-end : (s : List ℕ) (at : ℕ) → length s ≤ at → byte_at s at ≡ no 2 (length s)
unfolding byte_at
byte-end s at h = simp (le-ltb _ _ h)

-- ---- within

-- A byte that was read stands below the end, and within its limits.
pub record Within (low high at b : ℕ) (s : List ℕ) : Type 0 where
  pub below : at < length s
  pub least : low ≤ b
  pub most : b ≤ high
  pub same : get_or s at 0 ≡ b

pub within-ok : (low high n : ℕ) (s : List ℕ) (at : ℕ) {b : ℕ} → within low high n s at ≡ ok b → Within low high at b s
unfolding within
within-ok low high n s at {b} h =
    let x = bind_ok (byte_at s at) _ h in
    let y = byte-ok s at x.1 in
    let z = check-ok (leb low x.0) n at _ x.2 in
    let w = check-ok (leb x.0 high) n at _ z.1 in
    let e : x.0 ≡ b = ok-injective w.1 in
    let l : low ≤ x.0 = leb-true low x.0 z.0 in
    let m : x.0 ≤ high = leb-true x.0 high w.0 in
    record { below = y.0; least = omega arith; most = omega arith; same = y.1 ∙ e }

pub within-at : (low high n : ℕ) (s : List ℕ) (at : ℕ) {b : ℕ} → Within low high at b s → within low high n s at ≡ ok b
unfolding within
within-at low high n s at {b} w =
    rw (byte-at s at w.below, w.same) (simp (le-leb low b w.least, le-leb b high w.most))

-- ---- word_at

pub word_ok : (s : List ℕ) (at : ℕ) {v : ℕ} → word_at s at ≡ ok v
    → (at + 4 ≤ length s) × (word_of s at ≡ v)
unfolding word_at
word_ok s at h =
    let c = check-ok (leb 4 (length s - at)) 2 (length s) _ h in
    let l = leb-true 4 (length s - at) c.0 in
    (omega arith, ok-injective c.1)

pub word-at : (s : List ℕ) (at : ℕ) → at + 4 ≤ length s
    → word_at s at ≡ ok (word_of s at)
unfolding word_at
word-at s at h = let l : 4 ≤ length s - at = omega arith in simp (le-leb _ _ l)
