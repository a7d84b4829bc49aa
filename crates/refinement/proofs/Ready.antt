-- The threads that stand off a wait, mark by mark, and what a thread's new place does to the marks.
-- Assumes nothing.
use mathlib.Core.Path.{◌≡◌, refl, sym, ap, ◌∙◌}
use mathlib.Core.Logic.{◌≢◌}
use mathlib.Core.Bool.{Bool, true, false, not, ◌&&◌}
use Prim.Native.Nat.{ℕ, zero, suc, ◌+◌, ◌≤◌, ◌<◌}
use native.Mathlib.Omega.{arith}
use lib.ListN.{length, get_or, set, length-set, get_or-eq_default}
use lib.Seq.{get_or-set_same, get_or-set_other}
use lib.Dec.{ltb, eqb}
use borrow.Author.Tests.{ltb-true, ltb-false, lt-ltb, le-ltb, eqb-true, eqb-false}
use Rattle.sheet.specs.Expression.{Expr}
use Rattle.sheet.specs.Module.{Module}
use Rattle.state.specs.declared.State.{State}
use Rattle.state.specs.State.{Shaped, place_of, with_place}
use Rattle.state.proofs.Accessors.{place-with_place-same, place-with_place-other}
use Rattle.events.specs.Cycle.{code_of, instr_at, current, is_wait, thread_enabled}
use Rattle.masks.proofs.Masks.{flags-same}
use Rattle.refinement.specs.Refinement.{each, ready_in}

-- ---- each

pub length-each : (n i : ℕ) (f : ℕ → Bool) → length (each n i f) ≡ n
unfolding each
length-each zero i f = refl
length-each (suc n) i f = ap suc (length-each n (suc i) f)

pub get_d-each : (n i : ℕ) (f : ℕ → Bool) (k : ℕ) → k < n → get_or (each n i f) k false ≡ f (i + k)
unfolding each
get_d-each zero i f k h = absurd (omega arith)
get_d-each (suc n) i f zero h = let e : i ≡ i + 0 = omega arith in ap f e
get_d-each (suc n) i f (suc k) h =
    let e : suc i + k ≡ i + suc k = omega arith in
    get_d-each n (suc i) f k (omega arith) ∙ ap f e

-- ---- ready_in: 32 marks, that of a thread up if it is enabled, every other down

module _ (m : Module Expr) (st : State) where
  pub length-ready : length (ready_in m st) ≡ 32
  unfolding ready_in
  length-ready = rw length-each

  get_d-ready : (k : ℕ) → k < 32 → get_or (ready_in m st) k false ≡ (ltb k (length m.threads) && thread_enabled m st k)
  unfolding ready_in
  get_d-ready k h =
      let e : 0 + k ≡ k = omega arith in
      get_d-each 32 0 (λ i. ltb i (length m.threads) && thread_enabled m st i) k h
      ∙ ap (λ i. ltb i (length m.threads) && thread_enabled m st i) e

  pub ready-thread :
      length m.threads ≤ 8 → (i : ℕ) → i < length m.threads → get_or (ready_in m st) i false ≡ thread_enabled m st i
  ready-thread b i h = rw (get_d-ready i (omega arith), lt-ltb i (length m.threads) h)

  pub ready-past : (i : ℕ) → length m.threads ≤ i → get_or (ready_in m st) i false ≡ false
  ready-past i h = by (ltb i 32) refl
    where
      by : (t : Bool) → ltb i 32 ≡ t → get_or (ready_in m st) i false ≡ false
      by true e = rw (get_d-ready i (ltb-true i 32 e), le-ltb i (length m.threads) h)
      by false e = get_or-eq_default (ready_in m st) false (rw length-ready (ltb-false i 32 e))

-- It goes by the places.
pub ready-places : (m : Module Expr) (s t : State) → s.places ≡ t.places → ready_in m s ≡ ready_in m t
unfolding ready_in thread_enabled current place_of
ready-places m s t e =
    ap (λ ps. each 32 0 (λ i. ltb i (length m.threads) && not (is_wait (instr_at (code_of m i) (get_or ps i 0))))) e

-- ---- a thread at a new place

-- Is a thread at place p off a wait?
abbrev pub off_wait : Module Expr → ℕ → ℕ → Bool
off_wait m i p = not (is_wait (instr_at (code_of m i) p))

module _ (m : Module Expr) (st : State) (i p : ℕ) (few : length m.threads ≤ 8) (s : Shaped st)
    (h : i < length m.threads) where
  enabled-same : thread_enabled m (with_place st i p) i ≡ off_wait m i p
  unfolding thread_enabled current
  enabled-same = rw (place-with_place-same st i p s (omega arith))

  enabled-other : (k : ℕ) → i ≢ k → thread_enabled m (with_place st i p) k ≡ thread_enabled m st k
  unfolding thread_enabled current
  enabled-other k d = rw (place-with_place-other st i p k d)

  mark-same : get_or (ready_in m (with_place st i p)) i false ≡ get_or (set (ready_in m st) i (off_wait m i p)) i false
  mark-same =
      ready-thread m (with_place st i p) few i h
      ∙ enabled-same
      ∙ sym (get_or-set_same (ready_in m st) i (off_wait m i p) false (rw (length-ready m st) (omega arith)))

  mark-other : (k : ℕ) → i ≢ k → get_or (ready_in m (with_place st i p)) k false ≡ get_or (ready_in m st) k false
  mark-other k d = by (ltb k (length m.threads)) refl
    where
      by : (t : Bool) → ltb k (length m.threads) ≡ t →
          get_or (ready_in m (with_place st i p)) k false ≡ get_or (ready_in m st) k false
      by true e =
          let l = ltb-true k (length m.threads) e in
          ready-thread m (with_place st i p) few k l ∙ enabled-other k d ∙ sym (ready-thread m st few k l)
      by false e =
          let l = ltb-false k (length m.threads) e in
          ready-past m (with_place st i p) k l ∙ sym (ready-past m st k l)

  mark : (k : ℕ) → get_or (ready_in m (with_place st i p)) k false ≡ get_or (set (ready_in m st) i (off_wait m i p)) k false
  mark k = by (eqb i k) refl
    where
      by : (t : Bool) → eqb i k ≡ t →
          get_or (ready_in m (with_place st i p)) k false ≡ get_or (set (ready_in m st) i (off_wait m i p)) k false
      by true e = rw (← (eqb-true i k e)) mark-same
      by false e =
          let d = eqb-false i k e in
          mark-other k d ∙ sym (get_or-set_other (ready_in m st) i k (off_wait m i p) false (λ z. d (sym z)))

  -- Its mark alone is set anew.
  pub ready-with_place : ready_in m (with_place st i p) ≡ set (ready_in m st) i (off_wait m i p)
  ready-with_place =
      flags-same (ready_in m (with_place st i p)) (set (ready_in m st) i (off_wait m i p))
      (length-ready m (with_place st i p) ∙ sym (length-set (ready_in m st) i (off_wait m i p) ∙ length-ready m st))
      mark
