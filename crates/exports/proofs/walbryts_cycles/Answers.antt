-- `exports::walbryts_cycles` meets its contract. Assumes nothing.
use mathlib.Core.Path.{ap}
use Rattle.cycles.specs.declared.Cycled.{Cycled}
use Rattle.exports.specs.Clocked.{registers_in}
use Rattle.exports.proofs.Clocked.{cycles-none, cycles-some}
use Rattle.exports.proofs.walbryts_cycles.Goals as goal

pub returns-then-r-eq0 : goal.returns-then-r-eq0
unfolding registers_in
returns-then-r-eq0 c =
    let g = c.run-r.ensures in
    record {
      value = ap (λ (x : Cycled). x.number) g;
      cycles_after = ap (λ (x : Cycled). x.cycles) g;
      unsure_after = cycles-none _ c.run-r.result _ g c.if-r-eq0.true;
    }

pub returns : goal.returns
unfolding registers_in
returns c =
    let g = c.run-r.ensures in
    record {
      value = ap (λ (x : Cycled). x.number) g;
      cycles_after = ap (λ (x : Cycled). x.cycles) g;
      unsure_after = cycles-some _ c.run-r.result _ g c.if-r-eq0.false;
    }
