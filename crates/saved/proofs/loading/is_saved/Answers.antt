-- `saved::loading::is_saved` meets its contract, test by test. Assumes nothing.
use mathlib.Core.Path.{sym, ◌∙◌}
use Rattle.saved.specs.Saved.{is_saved}
use Rattle.saved.proofs.loading.is_saved.Goals as goal

pub returns-then-not-is_form : goal.returns-then-not-is_form
unfolding is_saved
returns-then-not-is_form c =
    let f = sym c.is_form.ensures ∙ c.if-not-is_form.true in
    sym (rw f)

pub returns-then-not-flags : goal.returns-then-not-flags
unfolding is_saved
returns-then-not-flags c =
    let f = sym c.is_form.ensures ∙ c.if-not-is_form.false in
    let s = sym c.flags.ensures ∙ c.if-not-flags.true in
    sym (rw (f, s))

pub returns : goal.returns
unfolding is_saved
returns c =
    let f = sym c.is_form.ensures ∙ c.if-not-is_form.false in
    let s = sym c.flags.ensures ∙ c.if-not-flags.false in
    c.flags-2.ensures ∙ sym (rw (f, s))
