-- `exports::walbryts_run_plain` meets its contract. Assumes nothing.
use borrow.Author.Tests.{not-true, not-false}
use mathlib.Core.Path.{refl, ap, ◌∙◌}
use Rattle.saved.specs.Saved.{saved, loaded}
use Rattle.events.specs.declared.Rested.{Rested}
use Rattle.events.specs.Verdict.{number_of_verdict, word_of_verdict}
use Rattle.exports.specs.Saved.{verdict_on, bytes_on, told_on, rested}
use Rattle.exports.proofs.Saved.{found_none, found_some}
use Rattle.exports.proofs.walbryts_run_plain.Goals as goal

pub returns-then-not-l : goal.returns-then-not-l
unfolding verdict_on bytes_on told_on rested number_of_verdict word_of_verdict
returns-then-not-l c =
    let b = c.args.state.now in
    let e = found_none (loaded b) c.load-l.result c.load-l.ensures (not-true _ c.if-not-l.true) in
    record {
      value = rw e c.unfit.ensures;
      state_after = rw e refl;
      accepted_after = rw e refl;
      word_after = rw e refl;
    }

pub returns : goal.returns
unfolding verdict_on bytes_on told_on rested number_of_verdict word_of_verdict
returns c =
    let b = c.args.state.now in
    let e = found_some (loaded b) c.load-l.result c.load-l.ensures (not-false _ c.if-not-l.false) in
    let g = c.run_plain-rest.ensures in record {
      value = rw e (c.number_of_verdict.ensures ∙ ap (λ (x : Rested). number_of_verdict x.verdict) g);
      state_after = rw e (c.save.ensures ∙ ap (λ (x : Rested). saved x.state) g);
      accepted_after = rw e (ap (λ (x : Rested). x.accepted) g);
      word_after = rw e (c.word_of_verdict.ensures ∙ ap (λ (x : Rested). word_of_verdict x.verdict) g);
    }
