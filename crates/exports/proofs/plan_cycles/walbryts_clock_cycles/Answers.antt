-- `exports::plan_cycles::walbryts_clock_cycles` meets its contract. Assumes nothing.
use mathlib.Core.Path.{ap}
use Rattle.clock_run.specs.declared.Rounds.{Rounds}
use Rattle.exports.specs.Clocked.{registers_in}
use Rattle.exports.proofs.Plans.{rounds-none, rounds-some}
use Rattle.exports.proofs.plan_cycles.walbryts_clock_cycles.Goals as goal

pub returns-then-r-eq0 : goal.returns-then-r-eq0
unfolding registers_in
returns-then-r-eq0 c =
    let g = c.cycles-r.ensures in
    record {
      value = ap (λ (x : Rounds). x.number) g;
      cycles_after = ap (λ (x : Rounds). x.cycles) g;
      unsure_after = rounds-none _ c.cycles-r.result _ g c.if-r-eq0.true;
    }

pub returns : goal.returns
unfolding registers_in
returns c =
    let g = c.cycles-r.ensures in
    record {
      value = ap (λ (x : Rounds). x.number) g;
      cycles_after = ap (λ (x : Rounds). x.cycles) g;
      unsure_after = rounds-some _ c.cycles-r.result _ g c.if-r-eq0.false;
    }
