-- `clock_run::trace_turn` meets its contract. Assumes nothing.
use mathlib.Core.Path.{ap, ◌∙◌}
use native.Mathlib.Omega.{arith}
use lib.ListN.{length}
use Rattle.plan.specs.Plan.{plan_of, node_at}
use Rattle.clock_run.proofs.Turns.{turn-traced, words-length}
use Rattle.clock_run.proofs.trace_turn.Goals as goal

pub overflow_add-at : goal.overflow_add-at
overflow_add-at c =
    omega (arith, c.requires, c.well_formed.1.1.1.1.1.1.1.0.0)

pub put_row-requires-2 : goal.put_row-requires-2
put_row-requires-2 c =
    let p = c.put_row in
    omega (arith, c.requires, ap length p.ensures ∙ words-length _ _ 88 _)

pub shape_of-out : goal.shape_of-out
shape_of-out c =
    let p = c.put_row in
    let p2 = c.put_row-2 in
    ap length p2.ensures ∙ words-length _ _ 88 _ ∙ ap length p.ensures ∙ words-length _ _ 88 _

pub returns : goal.returns
returns c =
    let a = c.args in
    turn-traced (plan_of a.plan.now) (node_at a.lent.now) a.table.now a.numbers.now a.at _ _ a.out.now
    c.inputs.ensures c.registers.ensures c.wires.ensures
    c.settle.ensures c.put_row.ensures c.rise.ensures
    c.settle-2.ensures c.put_row-2.ensures
