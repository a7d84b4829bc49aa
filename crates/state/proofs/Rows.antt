-- Laws of lists, rows and tests by index, and of the stores that put them into a buffer. Assumes nothing.
use mathlib.Core.Path.{◌≡◌, refl, sym, ap, ◌∙◌}
use mathlib.Core.Bool.{Bool, true, false, ◌&&◌}
use mathlib.Core.List.{List, [], ◌∷◌, ◌++◌, append-nil}
use Prim.Native.Nat.{ℕ, zero, suc, ◌+◌, ◌-◌, ◌*◌, ◌<◌}
use native.Mathlib.Nat.{add-zero, zero-add, mul-zero, mul-suc, not-suc-le-zero, le_of_suc-le-suc}
use native.Mathlib.Numerals.{add-one}
use native.Mathlib.Omega.{arith}
use borrow.Author.Count.{below_more}
use lib.Dec.{ltb}
use lib.ListN.{length, get_or, set, length-append, get_or-append, get_or-eq_default, drop_of_length-le}
use lib.Seq.{sets, sets-eq, get_or_at, get_or-append-add, ext_get_or}
use borrow.Author.Tests.{ltb-true, ltb-false}
use Rattle.state.specs.Rows.{rows, list_of, all_below}

-- ---- sets: a run of stores

module _ {A : Type 0} where
  -- after another
  pub sets-append : (l : List A) (i : ℕ) (a b : List A) → sets l i (a ++ b) ≡ sets (sets l i a) (i + length a) b
  sets-append l i [] b = rw add-zero
  sets-append l i (x ∷ a) b =
      let e : suc i + length a ≡ i + suc (length a) = omega arith in
      rw (← e) (sets-append (set l i x) (suc i) a b)

  -- as long as the list: nothing is left of it
  pub sets-whole : (l a : List A) → length l ≡ length a → sets l 0 a ≡ a
  sets-whole l a e =
      sets-eq a l 0 (omega arith) ∙ rw (drop_of_length-le l {i = 0 + length a} (omega arith)) (append-nil a)

-- ---- list_of

module _ {A : Type 0} (f : ℕ → A) where
  pub length-list_of : (n : ℕ) → length (list_of n f) ≡ n
  unfolding list_of
  length-list_of zero = refl
  length-list_of (suc n) = length-append (list_of n f) (f n ∷ []) ∙ rw (length-list_of n) (add-one n)

  pub get_d-list_of : (n k : ℕ) (d : A) → k < n → get_or (list_of n f) k d ≡ f k
  unfolding list_of
  get_d-list_of zero k d h = absurd (not-suc-le-zero h)
  get_d-list_of (suc n) k d h =
      let e = length-list_of n in
      below_more (λ i. get_or (list_of n f ++ (f n ∷ [])) i d ≡ f i) n
      (λ i l. get_or-append (list_of n f) (f n ∷ []) d i (omega arith) ∙ get_d-list_of n i d l)
      (get_or_at (list_of n f) (f n) [] d n e) k (omega arith)

  -- a turn of the loop that fills a list
  pub list_of-step : (l : List A) (k : ℕ) → set (sets l 0 (list_of k f)) k (f k) ≡ sets l 0 (list_of (k + 1) f)
  unfolding list_of
  list_of-step l k =
      sym (rw add-one (sets-append l 0 (list_of k f) (f k ∷ []) ∙ rw (length-list_of k, zero-add)))

  -- the loop's end
  pub list_of-whole : (l : List A) (n : ℕ) → length l ≡ n → sets l 0 (list_of n f) ≡ list_of n f
  list_of-whole l n e = sets-whole l (list_of n f) (e ∙ sym (length-list_of n))

  -- a list is the list of its elements
  pub list_of-is : (l : List A) (d : A) (n : ℕ) → length l ≡ n → ((k : ℕ) → k < n → f k ≡ get_or l k d) → list_of n f ≡ l
  list_of-is l d n e h =
      let m = length-list_of n in
      ext_get_or d (list_of n f) l (m ∙ sym e)
      (λ k b. let b' : k < n = omega arith in get_d-list_of n k d b' ∙ h k b')

-- numbers below a bound, and 0 past the end
pub list_of-below : (f : ℕ → ℕ) (n m : ℕ) → 0 < m → ((k : ℕ) → f k < m) → (k : ℕ) → get_or (list_of n f) k 0 < m
list_of-below f n m p h k = by (ltb k n) refl
  where
    by : (t : Bool) → ltb k n ≡ t → get_or (list_of n f) k 0 < m
    by true q = rw (get_d-list_of f n k 0 (ltb-true k n q)) (h k)
    by false q =
        let l = ltb-false k n q in
        let e = length-list_of f n in
        rw (get_or-eq_default (list_of n f) 0 {n = k} (omega arith)) p

-- ---- all_below

pub and_both : (a b : Bool) → (a && b) ≡ true → (a ≡ true) × (b ≡ true)
and_both true b h = (refl, h)
and_both false b h = (h, cc)

pub and-false : (a b : Bool) → b ≡ false → (a && b) ≡ false
and-false true b h = h
and-false false b h = refl

module _ (f : ℕ → Bool) where
  pub all_below-step : (k : ℕ) → all_below k f ≡ true → f k ≡ true → all_below (k + 1) f ≡ true
  unfolding all_below
  all_below-step k a b = rw (add-one, a) b

  pub all_below-fails : (n k : ℕ) → k < n → f k ≡ false → all_below n f ≡ false
  unfolding all_below
  all_below-fails zero k h e = absurd (not-suc-le-zero h)
  all_below-fails (suc n) k h e =
      below_more (λ i. f i ≡ false → (all_below n f && f n) ≡ false) n
      (λ i l x. rw (all_below-fails n i l x))
      (λ x. and-false (all_below n f) (f n) x) k (omega arith) e

  pub all_below-each : (n : ℕ) → all_below n f ≡ true → (k : ℕ) → k < n → f k ≡ true
  unfolding all_below
  all_below-each zero a k h = absurd (not-suc-le-zero h)
  all_below-each (suc n) a k h =
      let x = and_both (all_below n f) (f n) a in
      below_more (λ i. f i ≡ true) n (all_below-each n x.0) x.1 k (omega arith)

  pub each-all_below : (n : ℕ) → ((k : ℕ) → k < n → f k ≡ true) → all_below n f ≡ true
  unfolding all_below
  each-all_below zero h = refl
  each-all_below (suc n) h = rw (each-all_below n (λ k b. h k (omega arith))) (h n (omega arith))

-- ---- rows, each of m bytes

module _ (m : ℕ) (f : ℕ → List ℕ) (each : (k : ℕ) → length (f k) ≡ m) where
  pub length-rows : (n : ℕ) → length (rows n f) ≡ m * n
  unfolding rows
  length-rows zero = sym (mul-zero m)
  length-rows (suc n) = length-append (rows n f) (f n) ∙ rw (length-rows n, each n) (sym (mul-suc m n))

  -- a turn of the loop that puts the rows
  pub rows_step : (l : List ℕ) (at k : ℕ) → sets (sets l at (rows k f)) (at + m * k) (f k) ≡ sets l at (rows (k + 1) f)
  unfolding rows
  rows_step l at k = sym (rw add-one (sets-append l at (rows k f) (f k) ∙ rw (length-rows k)))

-- ---- the bytes l stand in b from a place on

pub record Stands (b : List ℕ) (at : ℕ) (l : List ℕ) : Type 0 where
  pub byte : (i : ℕ) → i < length l → get_or b (at + i) 0 ≡ get_or l i 0

pub stands-nil : {b : List ℕ} {at : ℕ} → Stands b at []
stands-nil = record { byte = λ i h. absurd (not-suc-le-zero h) }

pub stands-head : {b : List ℕ} {at x : ℕ} {l : List ℕ} → Stands b at (x ∷ l) → get_or b at 0 ≡ x
stands-head {at = at} s = rw add-zero at (s.byte 0 (omega arith))

pub stands-tail : {b : List ℕ} {at x : ℕ} {l : List ℕ} → Stands b at (x ∷ l) → Stands b (at + 1) l
stands-tail {at = at} s =
    record { byte = λ i h. let e : at + 1 + i ≡ at + suc i = omega arith in rw e (s.byte (suc i) (omega arith)) }

pub stands-cons : {b : List ℕ} {at x : ℕ} {l : List ℕ} → get_or b at 0 ≡ x → Stands b (at + 1) l → Stands b at (x ∷ l)
stands-cons {b} {at} {x} {l} e s = record { byte = at_each }
  where
    at_each : (i : ℕ) → i < length (x ∷ l) → get_or b (at + i) 0 ≡ get_or (x ∷ l) i 0
    at_each zero h = rw add-zero e
    at_each (suc i) h = let j : at + suc i ≡ at + 1 + i = omega arith in rw j (s.byte i (le_of_suc-le-suc h))

pub stands-left : {b : List ℕ} {at : ℕ} (l r : List ℕ) → Stands b at (l ++ r) → Stands b at l
stands-left l r s =
    let e = length-append l r in
    record { byte = λ i h. s.byte i (omega arith) ∙ get_or-append l r 0 i h }

pub stands-right : {b : List ℕ} {at : ℕ} (l r : List ℕ) → Stands b at (l ++ r) → Stands b (at + length l) r
stands-right {at = at} l r s =
    let e = length-append l r in
    record {
      byte = λ i h.
          let j : at + length l + i ≡ at + (length l + i) = omega arith in
          rw j (s.byte (length l + i) (omega arith) ∙ get_or-append-add l r i 0);
    }

pub stands-append : {b : List ℕ} {at : ℕ} (l r : List ℕ) → Stands b at l → Stands b (at + length l) r → Stands b at (l ++ r)
stands-append {b} {at} l r s t = record { byte = λ i h. at_each i h (ltb i (length l)) refl }
  where
    at_each : (i : ℕ) → i < length (l ++ r) → (c : Bool) → ltb i (length l) ≡ c → get_or b (at + i) 0 ≡ get_or (l ++ r) i 0
    at_each i h true q = let k = ltb-true i (length l) q in s.byte i k ∙ sym (get_or-append l r 0 i k)
    at_each i h false q =
        let k = ltb-false i (length l) q in
        let e = length-append l r in
        let j : length l + (i - length l) ≡ i = omega arith in
        let g : at + length l + (i - length l) ≡ at + i = omega arith in
        rw (← j) (rw (j, ← g) (t.byte (i - length l) (omega arith)) ∙ sym (get_or-append-add l r (i - length l) 0))

pub stands_self : (l : List ℕ) → Stands l 0 l
stands_self l = record { byte = λ i h. rw zero-add }

pub stands-whole : {b l : List ℕ} → Stands b 0 l → length b ≡ length l → b ≡ l
stands-whole {b} {l} s e =
    ext_get_or 0 b l e (λ i h. ap (λ n. get_or b n 0) (sym (zero-add i)) ∙ s.byte i (omega arith))

module _ (m : ℕ) (f : ℕ → List ℕ) (each : (k : ℕ) → length (f k) ≡ m) (b : List ℕ) (at : ℕ) where
  pub stands-row : (n : ℕ) → Stands b at (rows n f) → (k : ℕ) → k < n → Stands b (at + m * k) (f k)
  unfolding rows
  stands-row zero s k h = absurd (not-suc-le-zero h)
  stands-row (suc n) s k h =
      below_more (λ i. Stands b (at + m * i) (f i)) n
      (stands-row n (stands-left (rows n f) (f n) s))
      (rw (length-rows m f each n) at (stands-right (rows n f) (f n) s)) k (omega arith)

  pub rows-stand : (n : ℕ) → ((k : ℕ) → k < n → Stands b (at + m * k) (f k)) → Stands b at (rows n f)
  unfolding rows
  rows-stand zero s = stands-nil
  rows-stand (suc n) s =
      stands-append (rows n f) (f n) (rows-stand n (λ k h. s k (omega arith)))
      (rw (length-rows m f each n) (s n (omega arith)))
