-- What is claimed of many cycles on a plan: on what `prepare` filled from an accepted sheet, whatever the plan held before, they are the
-- repeated single calls of document 01 on that sheet. proofs/Claims shows it.
use Rattle.std.specs.Prelude.{◌≡◌, Bool, List, ℕ, length}
use Rattle.sheet.specs.Reading.{ok}
use Rattle.sheet.specs.Expression.{Expr}
use Rattle.sheet.specs.Module.{Module, read}
use Rattle.state.specs.declared.State.{State}
use Rattle.state.specs.State.{Shaped, Bounded}
use Rattle.plan.specs.Plan.{Plan, plan_of}
use Rattle.prepared.specs.Prepared.{prepared_plan}
use Rattle.prepared_cycles.specs.Cycles.{run_cycles}
use Rattle.prepared_cycles.specs.Phases.{cycles_at}
use Rattle.prepared_cycles.specs.Traces.{trace_cycles, traced_cycles, trace_at, traced_at}
use Rattle.prepared_cycles.specs.Drives.{settled, drive_cycles, driven_cycles, settled_at, drive_at, driven_at}

pub record Same (s : List ℕ) (q : Plan) (st : State) : Type 0 where
  pub cycles : (u : ℕ) (ns xs : List ℕ) → cycles_at q st u ns xs ≡ run_cycles s st u ns xs
  -- What a trace answers, and what it leaves in what is lent.
  pub trace : (u : ℕ) (ns xs w : List ℕ) → trace_at q st u ns xs w ≡ trace_cycles s st u ns xs w
  pub traced : (u : ℕ) (ns xs w : List ℕ) → traced_at q st u ns xs w ≡ traced_cycles s st u ns xs w
  -- A run to rest, plainly or by draws; what driven cycles answer, and what they leave in what is lent.
  pub settle : (by_draws : Bool) (seed u : ℕ) → settled_at q by_draws seed st u ≡ settled s by_draws seed st u
  pub drive : (by_draws : Bool) (seed u : ℕ) (ns xs w : List ℕ)
      → drive_at q by_draws seed st u ns xs w ≡ drive_cycles s by_draws seed st u ns xs w
  pub driven : (by_draws : Bool) (seed u : ℕ) (ns xs w : List ℕ)
      → driven_at q by_draws seed st u ns xs w ≡ driven_cycles s by_draws seed st u ns xs w

-- Every state that code has is of such lengths and numbers.
unfoldable pub OnTheSheet : Type 0
OnTheSheet =
    (s ws : List ℕ) (m : Module Expr) → read s ≡ ok m → length ws ≡ 25212 → (st : State) → Shaped st → Bounded st →
    Same s (plan_of (prepared_plan s ws)) st
