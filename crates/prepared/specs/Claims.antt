-- What is claimed of the prepared calls: on what `prepare` filled from an accepted sheet, whatever the plan held before, each call is
-- document 01's call on that sheet. proofs/Claims shows it.
use Rattle.std.specs.Prelude.{◌≡◌, true, List, ℕ, length}
use Rattle.values.specs.Cells.{small}
use Rattle.sheet.specs.Reading.{ok}
use Rattle.sheet.specs.Expression.{Expr}
use Rattle.sheet.specs.Module.{Module, read}
use Rattle.state.specs.declared.State.{State}
use Rattle.state.specs.State.{Shaped, Bounded}
use Rattle.events.specs.declared.Inputs.{Inputs}
use Rattle.events.specs.Calls as calls
use Rattle.plan.specs.Plan.{Plan, plan_of}
use Rattle.plan_fill.specs.Holding.{Holds}
use Rattle.prepared.specs.Prepared.{prepared_plan, start_at, choose_at, run_at, plain_at, instant_at}

-- The calls on a plan, from one state, are those on a sheet. Inputs and their marks are numbers of 32 bits, as every caller's are.
pub record Same (s : List ℕ) (q : Plan) (st : State) : Type 0 where
  pub choose : (u c : ℕ) → choose_at q st u c ≡ calls.choose s st u c
  pub run : (u : ℕ) (cs : List ℕ) → run_at q st u cs ≡ calls.run_list s st u cs
  pub plain : (u n : ℕ) → plain_at q st u n ≡ calls.run_plain s st u n
  pub instant : (a : Inputs) → ((v : ℕ) → small (calls.input_of a v) ≡ true) → instant_at q st a ≡ calls.instant s st a

pub record Prepares (s : List ℕ) (m : Module Expr) (q : Plan) : Type 0 where
  pub holds : Holds m q
  pub start : (allowances : List ℕ) → start_at q allowances ≡ (calls.start s allowances).state
  -- Every state that code has is of such lengths and numbers.
  pub calls : (st : State) → Shaped st → Bounded st → Same s q st

unfoldable pub OnTheSheet : Type 0
OnTheSheet =
    (s ws : List ℕ) (m : Module Expr) → read s ≡ ok m → length ws ≡ 25212 → Prepares s m (plan_of (prepared_plan s ws))
