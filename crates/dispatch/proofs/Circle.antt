-- Laws of the circle: what the first busy one of a range is, and the next busy one after the last served. Assumes nothing.
use mathlib.Core.Path.{◌≡◌, refl, sym, ap, ◌∙◌}
use Prim.Native.Nat.{ℕ, zero, suc, ◌+◌, ◌-◌, ◌≤◌, ◌<◌}
use native.Mathlib.Numerals.{add-one}
use native.Mathlib.Omega.{arith}
use mathlib.Core.Bool.{Bool, true, false}
use mathlib.Core.List.{List}
use mathlib.Core.Logic.{◌⊎◌, inl, inr, ⊎_elim}
use lib.Dec.{eqb}
use borrow.Author.Tests.{eqb-true, eqb-false}
use Rattle.dispatch.specs.declared.Record.{Record}
use Rattle.std.specs.Prelude.{Option, None, Some}
use Rattle.dispatch.specs.Dispatch.{record_at, first_busy, or_else, next}

true-false : true ≡ false → ⊥
true-false z = let y : ◌≡◌ {A = ℕ} 0 1 = cc in omega arith

pub nowhere-at : {k : ℕ} → None ≡ Some k → ⊥
nowhere-at {k} e = let z : ◌≡◌ {A = ℕ} 0 1 = cc in omega arith

-- ---- the first busy one: a turn of the loop from i up to `to`

module _ (rs : List Record) (i to : ℕ) (l : i < to) where
  left : to - i ≡ suc (to - (i + 1))
  left = omega arith

  pub first-here : (record_at rs i).busy ≡ true → Some i ≡ first_busy rs i (to - i)
  unfolding first_busy
  first-here h = rw (left, h)

  pub first_on : (record_at rs i).busy ≡ false → first_busy rs i (to - i) ≡ first_busy rs (i + 1) (to - (i + 1))
  unfolding first_busy
  first_on h = rw (left, h) (rw (← add-one i) refl)

pub first-empty : (rs : List Record) (i to : ℕ) → to ≤ i → None ≡ first_busy rs i (to - i)
unfolding first_busy
first-empty rs i to l = let e : to - i ≡ 0 = omega arith in rw e

-- ---- the one found stands in the range, is busy, and comes no later than any busy one

pub record FoundIn (rs : List Record) (i n k : ℕ) : Type 0 where
  pub low : i ≤ k
  pub high : k < i + n
  pub busy : (record_at rs k).busy ≡ true

found-by : (rs : List Record) (i n k : ℕ) (t : Bool) → (record_at rs i).busy ≡ t
    → (first_busy rs (suc i) n ≡ Some k → FoundIn rs (suc i) n k) → first_busy rs i (suc n) ≡ Some k → FoundIn rs i (suc n) k
unfolding first_busy
found-by rs i n k true h rec e =
    let e' : Some i ≡ Some k = rw h at e in
    let s : i ≡ k = cc in
    record { low = omega arith; high = omega arith; busy = rw (← s) h }
found-by rs i n k false h rec e =
    let e' : first_busy rs (suc i) n ≡ Some k = rw h at e in
    let f : FoundIn rs (suc i) n k = rec e' in
    record { low = omega arith; high = omega arith; busy = f.busy }

pub first_found : (rs : List Record) (i n k : ℕ) → first_busy rs i n ≡ Some k → FoundIn rs i n k
unfolding first_busy
first_found rs i zero k e = absurd (nowhere-at e)
first_found rs i (suc n) k e = found-by rs i n k (record_at rs i).busy refl (λ f. first_found rs (suc i) n k f) e

pub record Least (rs : List Record) (i n m : ℕ) : Type 0 where
  pub at : ℕ
  pub found : first_busy rs i n ≡ Some at
  pub before : at ≤ m

skips : (rs : List Record) (i n : ℕ) → (record_at rs i).busy ≡ false → first_busy rs i (suc n) ≡ first_busy rs (suc i) n
unfolding first_busy
skips rs i n h = rw h

least_by : (rs : List Record) (i n m : ℕ) (t : Bool) → (record_at rs i).busy ≡ t → i ≤ m → m < i + suc n → (record_at rs m).busy ≡ true
    → (suc i ≤ m → m < suc i + n → Least rs (suc i) n m) → Least rs i (suc n) m
unfolding first_busy
least_by rs i n m true h low high busy rec = record { at = i; found = rw h; before = low }
least_by rs i n m false h low high busy rec =
    let ne : i ≡ m → ⊥ = λ s. let z : true ≡ false = sym busy ∙ ap (λ (k : ℕ). (record_at rs k).busy) (sym s) ∙ h in true-false z in
    let r : Least rs (suc i) n m = rec (omega (arith, ne)) (omega arith) in
    record { at = r.at; found = skips rs i n h ∙ r.found; before = r.before }

pub first-least : (rs : List Record) (i n m : ℕ) → i ≤ m → m < i + n → (record_at rs m).busy ≡ true → Least rs i n m
unfolding first_busy
first-least rs i zero m low high busy = absurd (omega arith)
first-least rs i (suc n) m low high busy =
    least_by rs i n m (record_at rs i).busy refl low high busy (λ lo hi. first-least rs (suc i) n m lo hi busy)

-- Where every one of the range is idle, none is found, and the other way round.
pub idle-none : (rs : List Record) (i n : ℕ) → ((j : ℕ) → i ≤ j → j < i + n → (record_at rs j).busy ≡ false) → first_busy rs i n ≡ None
idle-none rs i n idle = by (first_busy rs i n) refl
  where
    by : (f : Option ℕ) → first_busy rs i n ≡ f → f ≡ None
    by None e = refl
    by (Some k) e =
        let g : FoundIn rs i n k = first_found rs i n k e in
        let h : (record_at rs k).busy ≡ false = idle k g.low g.high in
        absurd (true-false (sym g.busy ∙ h))

pub none-idle : (rs : List Record) (i n j : ℕ) → first_busy rs i n ≡ None → i ≤ j → j < i + n → (record_at rs j).busy ≡ false
none-idle rs i n j none low high = by (record_at rs j).busy refl
  where
    by : (t : Bool) → (record_at rs j).busy ≡ t → t ≡ false
    by false h = refl
    by true h =
        let l : Least rs i n j = first-least rs i n j low high h in
        absurd (nowhere-at (sym none ∙ l.found))

-- ---- the next busy one of n, after the last served

module _ (rs : List Record) (n last : ℕ) (inside : last < n) where
  abbrev Behind : Option ℕ
  Behind = first_busy rs (last + 1) (n - (last + 1))

  abbrev Ahead : Option ℕ
  Ahead = first_busy rs 0 (last + 1)

  pub next-behind : {k : ℕ} → Behind ≡ Some k → next rs n last ≡ Some k
  unfolding next or_else
  next-behind e = rw e

  pub next-ahead : Behind ≡ None → next rs n last ≡ Ahead
  unfolding next or_else
  next-ahead e = rw e

  pub record Busy (k : ℕ) : Type 0 where
    pub below : k < n
    pub busy : (record_at rs k).busy ≡ true

  pub next-found : {k : ℕ} → next rs n last ≡ Some k → Busy k
  next-found {k} e = by Behind refl
    where
      by : (f : Option ℕ) → Behind ≡ f → Busy k
      by (Some j) b =
          let g : FoundIn rs (last + 1) (n - (last + 1)) j = first_found rs (last + 1) (n - (last + 1)) j b in
          let e' : Some j ≡ Some k = sym (next-behind b) ∙ e in
          let s : j ≡ k = cc in
          let h : j < n = omega arith in
          record { below = omega arith; busy = rw (← s) g.busy }
      by None b =
          let g : FoundIn rs 0 (last + 1) k = first_found rs 0 (last + 1) k (sym (next-ahead b) ∙ e) in
          record { below = omega arith; busy = g.busy }

-- ---- a busy one draws nearer

-- m is at most d places after a, in the circle of n.
abbrev pub Near : ℕ → ℕ → ℕ → ℕ → Type 0
Near n a m d = ((a < m) × (m ≤ a + d)) ⊎ ((m ≤ a) × (n + m ≤ a + d))

same-or-less : (k m : ℕ) → k ≤ m → (k ≡ m) ⊎ (k < m)
same-or-less k m l = by (eqb k m) refl
  where
    by : (t : Bool) → eqb k m ≡ t → (k ≡ m) ⊎ (k < m)
    by true e = inl (eqb-true k m e)
    by false e = let ne : k ≡ m → ⊥ = eqb-false k m e in inr (omega (arith, ne))

module _ (rs : List Record) (n last m d : ℕ) (inside : last < n) (below : m < n) (busy : (record_at rs m).busy ≡ true) where
  pub record Nearer : Type 0 where
    pub at : ℕ
    pub found : next rs n last ≡ Some at
    pub near : (at ≡ m) ⊎ Near n at m d

  -- among those behind the last served
  nearer-behind : last < m → m ≤ last + suc d → Nearer
  nearer-behind l h =
      let b : Least rs (last + 1) (n - (last + 1)) m = first-least rs (last + 1) (n - (last + 1)) m (omega arith) (omega arith) busy in
      let g : FoundIn rs (last + 1) (n - (last + 1)) b.at = first_found rs (last + 1) (n - (last + 1)) b.at b.found in
      let low : last + 1 ≤ b.at = g.low in
      record {
        at = b.at;
        found = next-behind rs n last inside b.found;
        near = ⊎_elim (λ s. inl s) (λ k. inr (inl (k, omega arith))) (same-or-less b.at m b.before);
      }

  -- among those up to it
  nearer-ahead : m ≤ last → n + m ≤ last + suc d → Nearer
  nearer-ahead l h = by (first_busy rs (last + 1) (n - (last + 1))) refl
    where
      by : (f : Option ℕ) → first_busy rs (last + 1) (n - (last + 1)) ≡ f → Nearer
      by (Some k) b =
          let g : FoundIn rs (last + 1) (n - (last + 1)) k = first_found rs (last + 1) (n - (last + 1)) k b in
          let low : last + 1 ≤ k = g.low in
          record { at = k; found = next-behind rs n last inside b; near = inr (inr (omega arith, omega arith)) }
      by None b =
          let a : Least rs 0 (last + 1) m = first-least rs 0 (last + 1) m (omega arith) (omega arith) busy in
          record {
            at = a.at;
            found = next-ahead rs n last inside b ∙ a.found;
            near = ⊎_elim (λ s. inl s) (λ k. inr (inl (k, omega arith))) (same-or-less a.at m a.before);
          }

  pub next-nearer : Near n last m (suc d) → Nearer
  next-nearer w = ⊎_elim (λ p. nearer-behind p.0 p.1) (λ p. nearer-ahead p.0 p.1) w
