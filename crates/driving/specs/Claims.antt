-- What is claimed of driven cycles on a plan: on what `prepare` filled from an accepted sheet, whatever the plan held before, the start is
-- run to rest, and each row of a trace has the state that the single calls of document 01 leave on that sheet, one after the other: an
-- instant, then the plain run, or the choices that the same seeds draw (`prepared_cycles`, specs/Drives, `on_sheet`). proofs/Claims shows
-- it.
use Rattle.std.specs.Prelude.{◌≡◌, List, ℕ, ◌^◌, ◌<◌, length, get_or}
use Rattle.sheet.specs.Reading.{ok}
use Rattle.sheet.specs.Expression.{Expr}
use Rattle.sheet.specs.Module.{Module, read}
use Rattle.state.specs.State.{Shaped, Bounded}
use Rattle.options.specs.declared.Way.{Way}
use Rattle.plan.specs.Plan.{Plan, plan_of}
use Rattle.prepared.specs.Prepared.{prepared_plan}
use Rattle.driving.specs.declared.Rest.{Rest}
use Rattle.state.specs.declared.State.{State}
use Rattle.driving.specs.Plans.{resumed_at, begun_at, traced_at, rows_at, resumed_on, begun_on, traced_on, rows_on}

pub record Same (s : List ℕ) (q : Plan) : Type 0 where
  pub begin : (allowances : List ℕ) → length allowances ≡ 4 → ((v : ℕ) → get_or allowances v 0 < 2 ^ 32) → (u : ℕ) (way : Way)
      → begun_at q allowances u way ≡ begun_on s allowances u way
  -- Every state that code has is of such lengths and numbers.
  pub resume : (st : State) → Shaped st → Bounded st → (u : ℕ) (way : Way) → resumed_at q st u way ≡ resumed_on s st u way
  pub trace : (r : Rest) → Shaped r.state → Bounded r.state → (u : ℕ) (ns xs w : List ℕ)
      → traced_at q r u ns xs w ≡ traced_on s r u ns xs w
  pub rows : (r : Rest) → Shaped r.state → Bounded r.state → (u : ℕ) (ns xs w : List ℕ)
      → rows_at q r u ns xs w ≡ rows_on s r u ns xs w

unfoldable pub OnTheSheet : Type 0
OnTheSheet = (s ws : List ℕ) (m : Module Expr) → read s ≡ ok m → length ws ≡ 25212 → Same s (plan_of (prepared_plan s ws))
