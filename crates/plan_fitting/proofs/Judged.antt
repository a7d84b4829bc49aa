-- The parts of 31 from what the loops over them answered. Assumes nothing.
use mathlib.Core.Path.{◌≡◌, sym, ap, ◌∙◌}
use mathlib.Core.Bool.{Bool}
use mathlib.Core.List.{List}
use Prim.Native.Nat.{ℕ, ◌+◌, ◌<◌}
use native.Mathlib.Nat.{mod-lt}
use native.Mathlib.Omega.{arith}
use Rattle.values.specs.Values.{fits}
use Rattle.values.specs.Planes.{value_at}
use Rattle.state.specs.declared.State.{State}
use Rattle.state.specs.State.{value_of}
use Rattle.events.specs.Cycle.{all_below}
use Rattle.plan.specs.Plan.{Plan, plan_of}
use Rattle.plan_fitting.specs.Fitting.{values_fit, none_past}

-- ---- counts are bytes

pub inputs-byte : (ws : List ℕ) → (plan_of ws).inputs < 256
inputs-byte ws = mod-lt _ (omega arith)

pub registers-byte : (ws : List ℕ) → (plan_of ws).registers < 256
registers-byte ws = mod-lt _ (omega arith)

pub wires-byte : (ws : List ℕ) → (plan_of ws).wires < 256
wires-byte ws = mod-lt _ (omega arith)

-- ---- judged

pub values-judged : (q : Plan) (st : State) {a b c : ℕ} {x t : Bool} → a ≡ q.inputs → b ≡ q.registers → c ≡ q.wires
    → x ≡ all_below (a + b + c) (λ v. fits (q.width v) (value_at st.value st.unknown v)) → x ≡ t → values_fit q st ≡ t
unfolding values_fit value_of
values-judged q st e f g h k =
    (λ i. all_below (sym e i + sym f i + sym g i) (λ v. fits (q.width v) (value_at st.value st.unknown v))) ∙ sym h ∙ k

pub past-judged : (bs : List Bool) {n k : ℕ} {x t : Bool} → k ≡ n → x ≡ none_past bs k → x ≡ t → none_past bs n ≡ t
past-judged bs e f g = ap (none_past bs) (sym e) ∙ sym f ∙ g
