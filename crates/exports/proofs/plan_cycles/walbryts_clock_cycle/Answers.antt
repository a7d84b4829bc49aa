-- `exports::plan_cycles::walbryts_clock_cycle` meets its contract. Assumes nothing.
use mathlib.Core.Path.{ap}
use Rattle.nextstate.specs.declared.Clocked.{Clocked}
use Rattle.exports.specs.Clocked.{registers_in, inputs_in}
use Rattle.exports.proofs.Clocked.{cycle-refused, cycle-accepted}
use Rattle.exports.proofs.plan_cycles.walbryts_clock_cycle.Goals as goal

pub returns-then-c-ne0 : goal.returns-then-c-ne0
unfolding registers_in inputs_in
returns-then-c-ne0 c =
    let g = c.cycle-c.ensures in
    (record { value = ap (λ (x : Clocked). x.number) g; unsure_after = cycle-refused _ c.cycle-c.result _ g c.if-c-ne0.true })

pub returns : goal.returns
unfolding registers_in inputs_in
returns c =
    let g = c.cycle-c.ensures in
    (record { value = ap (λ (x : Clocked). x.number) g; unsure_after = cycle-accepted _ c.cycle-c.result _ g c.if-c-ne0.false })
