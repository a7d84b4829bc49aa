-- A state laid out and packed again is the state; the marks of the threads that are ready, one after the other. Assumes nothing.
use mathlib.Core.Path.{◌≡◌, refl, sym, ap, ◌∙◌}
use mathlib.Core.Bool.{Bool, true, false, not}
use mathlib.Core.List.{List}
use Prim.Native.Nat.{ℕ, zero, suc, ◌+◌, ◌≤◌, ◌<◌}
use native.Mathlib.Numerals.{add-one}
use native.Mathlib.Omega.{arith}
use lib.Dec.{ltb, eqb}
use lib.ListN.{length, get_or, set, replicate, length-set, length-replicate, get_or-replicate, get_or-eq_default}
use lib.Seq.{get_or-set_same, get_or-set_other}
use borrow.Author.Tests.{ltb-true, ltb-false, eqb-true, eqb-false}
use Rattle.values.specs.Values.{pick}
use Rattle.masks.specs.Masks.{bits}
use Rattle.masks.proofs.Masks.{bits-zero}
use Rattle.state.specs.declared.State.{State}
use Rattle.state.specs.State.{Shaped, Bounded}
use Rattle.plan.specs.Plan.{Plan}
use Rattle.plan_engine.specs.Live.{Live, alive}
use Rattle.plan_state.specs.Planes.{Planes, cells_below}
use Rattle.plan_state.specs.Packing.{ready_below, cells_of, slots_of, unpacked_in, packed}
use Rattle.plan_state.proofs.Planes.{cells-planes, planes-numbers, planes-marks}

-- ---- ready_below, mark by mark

module _ (q : Plan) (ps : List ℕ) where
  abbrev waits : ℕ → Bool
  waits k = q.waits k (get_or ps k 0)

  pub length-ready_below : (n : ℕ) → length (ready_below q ps n) ≡ 32
  unfolding ready_below
  length-ready_below zero = length-replicate 32 false
  length-ready_below (suc n) = by (waits n) (ready_below q ps n) (length-ready_below n)
    where
      by : (t : Bool) (u : List Bool) → length u ≡ 32 → length (pick t u (set u n true)) ≡ 32
      by true u e = e
      by false u e = length-set u n true ∙ e

  pub ready-above : (n k : ℕ) → n ≤ k → get_or (ready_below q ps n) k false ≡ false
  unfolding ready_below
  ready-above zero k h = by (ltb k 32) refl
    where
      by : (t : Bool) → ltb k 32 ≡ t → get_or (replicate 32 false) k false ≡ false
      by true e = get_or-replicate 32 k false false (ltb-true k 32 e)
      by false e = get_or-eq_default (replicate 32 false) false {n = k} (omega (arith, length-replicate 32 false, ltb-false k 32 e))
  ready-above (suc n) k h = by (waits n) (ready_below q ps n) (ready-above n k (omega arith))
    where
      by : (t : Bool) (u : List Bool) → get_or u k false ≡ false → get_or (pick t u (set u n true)) k false ≡ false
      by true u e = e
      by false u e = get_or-set_other u n k true false (λ p. omega arith) ∙ e

  pub ready-below : (n k : ℕ) → n ≤ 32 → k < n → get_or (ready_below q ps n) k false ≡ not (waits k)
  unfolding ready_below
  ready-below zero k b h = absurd (omega arith)
  ready-below (suc n) k b h =
      by (waits n) refl (eqb k n) refl (ready_below q ps n) (length-ready_below n) (ready-above n n (omega arith))
      (ready-below n k (omega arith))
    where
      by : (t : Bool) → waits n ≡ t → (d : Bool) → eqb k n ≡ d → (u : List Bool) → length u ≡ 32 →
          get_or u n false ≡ false → (k < n → get_or u k false ≡ not (waits k)) →
          get_or (pick t u (set u n true)) k false ≡ not (waits k)
      by true e true d u z o f = rw (eqb-true k n d, e) o
      by false e true d u z o f = rw (eqb-true k n d, e) (get_or-set_same u n true false (omega arith))
      by true e false d u z o f = let x = eqb-false k n d in f (omega arith)
      by false e false d u z o f = let x = eqb-false k n d in get_or-set_other u n k true false x ∙ f (omega arith)

  -- ---- one thread more

  pub ready-none : bits 0 ≡ ready_below q ps 0
  unfolding ready_below
  ready-none = bits-zero

  module _ (n m : ℕ) (e : bits m ≡ ready_below q ps n) where
    pub ready-off : waits n ≡ true → bits m ≡ ready_below q ps (n + 1)
    unfolding ready_below
    ready-off h = rw (add-one n, h) e

    pub ready_on : (r : ℕ) → waits n ≡ false → bits r ≡ set (bits m) n true → bits r ≡ ready_below q ps (n + 1)
    unfolding ready_below
    ready_on r h f = rw (add-one n, h, ← e) f

-- ---- the planes of a state that is laid out

module _ (st : State) (s : Shaped st) (b : Bounded st) where
  pub cells-of : (cs : List ℕ) → 80 ≤ length cs → Planes st.value st.unknown 80 (cells_of st cs)
  cells-of cs h = cells-planes st.value st.unknown cs 80 s.value s.unknown h b.value b.unknown

  pub slots-of : Planes st.pending st.unsure 32 (slots_of st)
  slots-of =
      cells-planes st.pending st.unsure (replicate 32 0) 32 s.pending s.unsure
      (omega (arith, length-replicate {A = ℕ} 32 0)) b.pending b.unsure

-- ---- packed again

module _ (st : State) (l : Live) (a : Planes st.value st.unknown 80 l.cells)
    (b : Planes st.pending st.unsure 32 l.pending) where
  pub packed-planes : l.places ≡ st.places → l.due ≡ st.due → l.held ≡ st.held → packed l st.counters ≡ st
  unfolding packed
  packed-planes p d h =
      λ i. record {
        value = planes-numbers a i;
        unknown = planes-marks a i;
        pending = planes-numbers b i;
        unsure = planes-marks b i;
        held = h i;
        places = p i;
        due = d i;
        counters = st.counters;
      }

pub packed-unpacked : (q : Plan) (st : State) (cs : List ℕ) → Shaped st → Bounded st → 80 ≤ length cs
    → packed (unpacked_in cs q st) st.counters ≡ st
unfolding unpacked_in
packed-unpacked q st cs s b h = packed-planes st (unpacked_in cs q st) (cells-of st s b cs h) (slots-of st s b) refl refl refl
