-- `saved::bringing::is_older` meets its contract, test by test. Assumes nothing.
use mathlib.Core.Path.{sym, ◌∙◌}
use Rattle.saved.specs.Older.{is_older}
use Rattle.saved.proofs.bringing.is_older.Goals as goal

pub returns-then-not-is_form : goal.returns-then-not-is_form
unfolding is_older
returns-then-not-is_form c =
    let f = sym c.is_form.ensures ∙ c.if-not-is_form.true in
    sym (rw f)

pub returns-then-not-flags : goal.returns-then-not-flags
unfolding is_older
returns-then-not-flags c =
    let f = sym c.is_form.ensures ∙ c.if-not-is_form.false in
    let v = sym c.flags.ensures ∙ c.if-not-flags.true in
    sym (rw (f, v))

pub returns-then-not-flags-2 : goal.returns-then-not-flags-2
unfolding is_older
returns-then-not-flags-2 c =
    let f = sym c.is_form.ensures ∙ c.if-not-is_form.false in
    let v = sym c.flags.ensures ∙ c.if-not-flags.false in
    let h = sym c.flags-2.ensures ∙ c.if-not-flags-2.true in
    sym (rw (f, v, h))

pub returns-then-not-flags-3 : goal.returns-then-not-flags-3
unfolding is_older
returns-then-not-flags-3 c =
    let f = sym c.is_form.ensures ∙ c.if-not-is_form.false in
    let v = sym c.flags.ensures ∙ c.if-not-flags.false in
    let h = sym c.flags-2.ensures ∙ c.if-not-flags-2.false in
    let u = sym c.flags-3.ensures ∙ c.if-not-flags-3.true in
    sym (rw (f, v, h, u))

pub returns : goal.returns
unfolding is_older
returns c =
    let f = sym c.is_form.ensures ∙ c.if-not-is_form.false in
    let v = sym c.flags.ensures ∙ c.if-not-flags.false in
    let h = sym c.flags-2.ensures ∙ c.if-not-flags-2.false in
    let u = sym c.flags-3.ensures ∙ c.if-not-flags-3.false in
    c.flags-4.ensures ∙ sym (rw (f, v, h, u))
