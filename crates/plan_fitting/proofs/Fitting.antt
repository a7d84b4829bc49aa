-- On a plan that holds a module, fitting is what the simulator's calls judge: 31 and 25. Assumes nothing.
use mathlib.Core.Path.{◌≡◌, refl, sym, ap, ◌∙◌}
use mathlib.Core.Bool.{Bool, true, false, not, ◌&&◌}
use mathlib.Core.List.{List}
use mathlib.Core.Option.{none, some}
use Prim.Native.Nat.{ℕ, ◌+◌, ◌-◌, ◌<◌}
use native.Mathlib.Omega.{arith}
use lib.Dec.{ltb, leb, eqb}
use lib.ListN.{length, get_or}
use Rattle.values.specs.declared.Value.{Value}
use Rattle.values.specs.Values.{pick, fits}
use Rattle.values.specs.Planes.{value_at}
use Rattle.sheet.specs.Expression.{Expr}
use Rattle.sheet.specs.Module.{Module}
use Rattle.state.specs.declared.State.{State}
use Rattle.state.specs.State.{users, count_of, allowance_of, value_of, pending_of, place_of, is_due}
use Rattle.soundness.specs.Soundness.{Sound}
use Rattle.events.specs.declared.Inputs.{Inputs}
use Rattle.events.specs.Cycle.{code_of, all_below, is_some}
use Rattle.events.specs.Calls.{width_of, pending_fits, state_fits, input_of, inputs_fit}
use Rattle.events.proofs.Cycle.{all_same}
use Rattle.plan.specs.Plan.{Plan}
use Rattle.plan_fill.specs.Holding.{Holds}
use Rattle.plan_fitting.specs.Fitting.{values_fit, slots_fit, places_fit, none_past, counts_fit, plan_fits, plan_inputs_fit}

is_some-held : (d : Bool) (a : Value) → is_some (pick d (some a) none) ≡ d
unfolding is_some
is_some-held true a = refl
is_some-held false a = refl

module _ {m : Module Expr} {q : Plan} (z : Sound m) (h : Holds m q) where
  variables : q.inputs + q.registers + q.wires ≡ length m.scope.widths
  variables = (λ i. h.inputs i + h.registers i + h.wires i) ∙ sym z.variables

  width-at : (v : ℕ) → v < length m.scope.widths → q.width v ≡ width_of m v
  unfolding width_of
  width-at v l = h.width v l

  values-fit : (st : State) → values_fit q st ≡ all_below (length m.scope.widths) (λ v. fits (width_of m v) (value_of st v))
  unfolding values_fit
  values-fit st =
      ap (λ (n : ℕ). all_below n (λ v. fits (q.width v) (value_of st v))) variables
      ∙ all_same (λ v. fits (q.width v) (value_of st v)) (λ v. fits (width_of m v) (value_of st v)) (length m.scope.widths)
      (λ v l. ap (λ (w : ℕ). fits w (value_of st v)) (width-at v l))

  slots-fit : (st : State)
      → slots_fit q st ≡ all_below m.scope.registers (λ r. pending_fits (width_of m (m.scope.inputs + r)) (pending_of st r))
  unfolding slots_fit
  slots-fit st =
      (λ i. all_below (h.registers i) (λ r. pending_fits (q.width (h.inputs i + r)) (pending_of st r)))
      ∙ all_same (λ r. pending_fits (q.width (m.scope.inputs + r)) (pending_of st r))
      (λ r. pending_fits (width_of m (m.scope.inputs + r)) (pending_of st r)) m.scope.registers
      (λ r l. ap (λ (w : ℕ). pending_fits w (pending_of st r)) (width-at (m.scope.inputs + r) (omega (arith, z.variables))))

  places-fit : (st : State)
      → places_fit q st.places ≡ all_below (length m.threads) (λ i. ltb (place_of st i) (length (code_of m i)))
  unfolding places_fit place_of code_of
  places-fit st =
      ap (λ (n : ℕ). all_below n (λ i. ltb (get_or st.places i 0) (q.size i))) h.threads
      ∙ all_same (λ i. ltb (get_or st.places i 0) (q.size i)) (λ i. ltb (place_of st i) (length (code_of m i))) (length m.threads)
      (λ i l. ap (ltb (get_or st.places i 0)) (h.size i l))

  marks-fit : (st : State)
      → none_past st.due q.wires ≡ all_below (32 - length m.wires) (λ k. not (is_due st (length m.wires + k)))
  unfolding none_past is_due
  marks-fit st = ap (none_past st.due) h.wires

  pending-fit : (st : State)
      → none_past st.held q.registers
      ≡ all_below (32 - m.scope.registers) (λ r. not (is_some (pending_of st (m.scope.registers + r))))
  unfolding none_past pending_of
  pending-fit st =
      let n = m.scope.registers in
      ap (none_past st.held) h.registers
      ∙ all_same (λ r. not (get_or st.held (n + r) false)) (λ r. not (is_some (pending_of st (n + r)))) (32 - n)
      (λ r l. ap not (sym (is_some-held (get_or st.held (n + r) false) (value_at st.pending st.unsure (n + r)))))

  counts-fit : (st : State) → counts_fit st.counters ≡ all_below users (λ u. leb (count_of st u) (allowance_of st u))
  unfolding counts_fit count_of allowance_of
  counts-fit st = refl

  -- ---- 31 and 25

  pub plan-fits : (st : State) → plan_fits q st ≡ state_fits m st
  unfolding plan_fits state_fits
  plan-fits st = λ i. values-fit st i && slots-fit st i && places-fit st i && marks-fit st i && pending-fit st i && counts-fit st i

  pub plan-inputs-fit : (a : Inputs) → plan_inputs_fit q a ≡ inputs_fit m a
  unfolding plan_inputs_fit inputs_fit
  plan-inputs-fit a =
      (λ i. eqb a.count (h.inputs i) && all_below (h.inputs i) (λ v. fits (q.width v) (input_of a v)))
      ∙ ap (λ (t : Bool). eqb a.count m.scope.inputs && t)
      (all_same (λ v. fits (q.width v) (input_of a v)) (λ v. fits (width_of m v) (input_of a v)) m.scope.inputs
      (λ v l. ap (λ (w : ℕ). fits w (input_of a v)) (width-at v (omega (arith, z.variables)))))
