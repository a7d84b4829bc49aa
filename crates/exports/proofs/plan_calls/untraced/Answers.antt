-- `exports::plan_calls::untraced` meets its contract. Assumes nothing.
use native.Mathlib.Omega.{arith}
use Rattle.exports.proofs.Plans.{untraced-short, untraced-room}
use Rattle.exports.proofs.plan_calls.untraced.Goals as goal

pub overflow_mul-value : goal.overflow_mul-value
overflow_mul-value c =
    omega arith

pub returns-then-trace-value : goal.returns-then-trace-value
returns-then-trace-value c =
    untraced-short _ _ c.if-trace-value.true

pub returns : goal.returns
returns c =
    untraced-room _ _ c.if-trace-value.false
