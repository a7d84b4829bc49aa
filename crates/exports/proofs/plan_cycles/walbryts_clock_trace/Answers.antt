-- `exports::plan_cycles::walbryts_clock_trace` meets its contract. Assumes nothing.
use mathlib.Core.Path.{ap}
use Rattle.clock_run.specs.Traces.{Traced}
use Rattle.exports.specs.Clocked.{registers_in}
use Rattle.exports.proofs.Plans.{trace-none, trace-some}
use Rattle.exports.proofs.plan_cycles.walbryts_clock_trace.Goals as goal

pub returns-then-r-eq0 : goal.returns-then-r-eq0
unfolding registers_in
returns-then-r-eq0 c =
    let g = c.trace-r.ensures in record {
      value = ap (λ (x : Traced). x.rounds.number) g;
      cycles_after = ap (λ (x : Traced). x.rounds.cycles) g;
      trace_after = ap (λ (x : Traced). x.words) g;
      places_after = trace-none _ c.trace-r.result _ (ap (λ (x : Traced). x.rounds) g) c.if-r-eq0.true;
    }

pub returns : goal.returns
unfolding registers_in
returns c =
    let g = c.trace-r.ensures in record {
      value = ap (λ (x : Traced). x.rounds.number) g;
      cycles_after = ap (λ (x : Traced). x.rounds.cycles) g;
      trace_after = ap (λ (x : Traced). x.words) g;
      places_after = trace-some _ c.trace-r.result _ (ap (λ (x : Traced). x.rounds) g) c.if-r-eq0.false;
    }
