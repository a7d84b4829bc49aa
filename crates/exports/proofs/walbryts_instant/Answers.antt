-- `exports::walbryts_instant` meets its contract. Assumes nothing.
use borrow.Author.Tests.{not-true, not-false}
use mathlib.Core.Path.{refl, ap, ◌∙◌}
use Rattle.saved.specs.Saved.{saved, loaded}
use Rattle.events.specs.declared.Chosen.{Chosen}
use Rattle.exports.specs.Clocked.{inputs_in}
use Rattle.exports.specs.Saved.{number_on, bytes_on}
use Rattle.exports.proofs.Saved.{found_none, found_some}
use Rattle.exports.proofs.walbryts_instant.Goals as goal

pub returns-then-not-l : goal.returns-then-not-l
unfolding number_on bytes_on inputs_in
returns-then-not-l c =
    let b = c.args.state.now in
    let e = found_none (loaded b) c.load-l.result c.load-l.ensures (not-true _ c.if-not-l.true) in
    (record { value = rw e c.unfit.ensures; state_after = rw e refl })

pub returns : goal.returns
unfolding number_on bytes_on inputs_in
returns c =
    let b = c.args.state.now in
    let e = found_some (loaded b) c.load-l.result c.load-l.ensures (not-false _ c.if-not-l.false) in
    let g = c.instant-entered.ensures in
    (record { value = rw e (ap (λ (x : Chosen). x.number) g); state_after = rw e (c.save.ensures ∙ ap (λ (x : Chosen). saved x.state) g) })
