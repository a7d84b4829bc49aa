-- `saved::loading::load` meets its contract. Assumes nothing.
use mathlib.Core.Path.{sym, ◌∙◌}
use Rattle.saved.specs.Saved.{loaded, loaded_answer}
use Rattle.saved.proofs.loading.load.Goals as goal

pub returns-then-is_saved : goal.returns-then-is_saved
unfolding loaded loaded_answer
returns-then-is_saved c =
    let e = sym c.is_saved.ensures ∙ c.if-is_saved.true in
    rw (e, c.state_in-state.ensures)

pub returns : goal.returns
unfolding loaded loaded_answer
returns c =
    let e = sym c.is_saved.ensures ∙ c.if-is_saved.false in
    rw (e, c.zero_state-state.ensures)
