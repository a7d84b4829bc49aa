-- 31 and 25 by a plan's counts, widths and thread sizes: does a state fit the plan, do an instant's inputs? Defined for plans of any
-- contents; proofs/Fitting says that on a plan that holds a module these are `state_fits` and `inputs_fit`.
use Rattle.std.specs.Prelude.{ℕ, ◌+◌, ◌-◌, Bool, false, not, ◌&&◌, List, get_or, ltb, leb, eqb}
use Rattle.values.specs.Values.{fits}
use Rattle.state.specs.declared.Counters.{Counters}
use Rattle.state.specs.declared.State.{State}
use Rattle.state.specs.State.{users, value_of, pending_of, place_of}
use Rattle.events.specs.declared.Inputs.{Inputs}
use Rattle.events.specs.Cycle.{all_below}
use Rattle.events.specs.Calls.{pending_fits, input_of}
use Rattle.plan.specs.Plan.{Plan}

-- ---- 31: "value or pending too wide; place outside its thread ..; mark or pending past the sheet's", and "(a count above it is 31)"

unfoldable pub values_fit : Plan → State → Bool
values_fit q st = all_below (q.inputs + q.registers + q.wires) (λ v. fits (q.width v) (value_of st v))

unfoldable pub slots_fit : Plan → State → Bool
slots_fit q st = all_below q.registers (λ r. pending_fits (q.width (q.inputs + r)) (pending_of st r))

unfoldable pub places_fit : Plan → List ℕ → Bool
places_fit q ps = all_below q.threads (λ i. ltb (get_or ps i 0) (q.size i))

-- Is no flag up from place n on?
unfoldable pub none_past : List Bool → ℕ → Bool
none_past bs n = all_below (32 - n) (λ k. not (get_or bs (n + k) false))

-- Is no user's count above its allowance?
unfoldable pub counts_fit : Counters → Bool
counts_fit c = all_below users (λ u. leb (get_or c.counts u 0) (get_or c.allowances u 0))

unfoldable pub plan_fits : Plan → State → Bool
plan_fits q st =
    values_fit q st
    && slots_fit q st
    && places_fit q st.places
    && none_past st.due q.wires
    && none_past st.held q.registers
    && counts_fit st.counters

-- ---- 25: "input values of wrong number or too wide"

unfoldable pub plan_inputs_fit : Plan → Inputs → Bool
plan_inputs_fit q a = eqb a.count q.inputs && all_below q.inputs (λ v. fits (q.width v) (input_of a v))
