-- `clock_run::upper` meets its contract. Assumes nothing.
use native.Mathlib.Omega.{arith}
use Rattle.plan.specs.Plan.{plan_of}
use Rattle.clock_run.proofs.Turns.{upper-none, upper-some}
use Rattle.clock_run.proofs.upper.Goals as goal

pub returns-then-n-eq0 : goal.returns-then-n-eq0
returns-then-n-eq0 c =
    record { value = upper-none (plan_of c.args.plan.now) c.inputs-n.ensures c.if-n-eq0.true; upper_bound = omega arith }

pub returns : goal.returns
returns c =
    record { value = upper-some (plan_of c.args.plan.now) c.inputs-n.ensures c.at_most.ensures.value; upper_bound = c.at_most.ensures.upper_bound }
