-- `drawing::end_of` meets its contract. The loop's invariant: the end that is still to be found is the end. Assumes nothing.
use mathlib.Core.Path.{◌≡◌, ◌∙◌, ap, refl, sym}
use native.Mathlib.Omega.{arith}
use borrow.Author.Rules.{rules}
use Rattle.drawing.proofs.Laws.{end-here, end_later, end_none}
use Rattle.drawing.specs.Drawing.{value_in}
use Rattle.values.specs.Values.{same}
use Rattle.drawing.proofs.end_of.Goals as goal

pub loop-e-init : goal.loop-e-init
loop-e-init c =
    (search rules, refl)

pub returns-then-not-same : goal.returns-then-not-same
returns-then-not-same c =
    let l = c.loop-e in
    let a = c.args in
    let s = sym (c.same.ensures ∙ ap (λ x. same a.a x) c.value_at-b.ensures) ∙ c.if-not-same.true in
    (record { value = sym (end-here (value_in a.trace.now a.v) a.a a.end l.e c.loop-e-test.true s) ∙ l.invariant.1; upper_bound = l.invariant.0 })

pub loop-e-preserved : goal.loop-e-preserved
loop-e-preserved c =
    let l = c.loop-e in
    let a = c.args in
    let s = sym (c.same.ensures ∙ ap (λ x. same a.a x) c.value_at-b.ensures) ∙ c.if-not-same.false in
    (search rules, sym (end_later (value_in a.trace.now a.v) a.a a.end l.e c.loop-e-test.true s) ∙ l.invariant.1)

pub returns : goal.returns
returns c =
    let l = c.loop-e in
    let a = c.args in
    let last : a.end ≡ l.e = omega arith in
    let e = sym (end_none (value_in a.trace.now a.v) a.a a.end l.e c.loop-e-test.false) in
    record { value = last ∙ e ∙ l.invariant.1; upper_bound = omega arith }
