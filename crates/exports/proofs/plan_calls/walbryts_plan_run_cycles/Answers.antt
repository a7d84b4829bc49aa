-- `exports::plan_calls::walbryts_plan_run_cycles` meets its contract. Assumes nothing.
use borrow.Author.Tests.{not-true, not-false}
use mathlib.Core.Path.{refl, ap, ◌∙◌}
use Rattle.saved.specs.Saved.{saved, loaded}
use Rattle.prepared_cycles.specs.declared.Cycled.{Cycled}
use Rattle.exports.specs.Saved.{bytes_on, told_on}
use Rattle.exports.specs.Plans.{number_at, cycled_at}
use Rattle.exports.proofs.Saved.{found_none, found_some}
use Rattle.exports.proofs.plan_calls.walbryts_plan_run_cycles.Goals as goal

pub returns-then-not-l : goal.returns-then-not-l
unfolding number_at bytes_on told_on cycled_at
returns-then-not-l c =
    let b = c.args.state.now in
    let e = found_none (loaded b) c.load-l.result c.load-l.ensures (not-true _ c.if-not-l.true) in
    record {
      value = rw e refl;
      state_after = rw e refl;
      phases_after = rw e refl;
      running_after = rw e refl;
    }

pub returns : goal.returns
unfolding number_at bytes_on told_on cycled_at
returns c =
    let b = c.args.state.now in
    let e = found_some (loaded b) c.load-l.result c.load-l.ensures (not-false _ c.if-not-l.false) in
    let g = c.run_cycles-done.ensures in record {
      value = rw e (ap (λ (x : Cycled). x.number) g);
      state_after = rw e (c.save.ensures ∙ ap (λ (x : Cycled). saved x.state) g);
      phases_after = rw e (ap (λ (x : Cycled). x.phases) g);
      running_after = rw e (ap (λ (x : Cycled). x.running) g);
    }
