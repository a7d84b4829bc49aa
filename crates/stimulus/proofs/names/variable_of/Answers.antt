-- `stimulus::names::variable_of` meets its contract, row by row. Assumes nothing.
use borrow.Author.Tests.{not-true, not-false}
use mathlib.Core.Path.{sym, ap, ◌∙◌}
use Rattle.stimulus.specs.Names.{variable_in}
use Rattle.stimulus.proofs.Naming.{variable-short, variable-bad, variable-input, variable-register, variable-wire, variable-none}
use Rattle.stimulus.proofs.names.variable_of.Goals as goal

pub returns-then-word-lt2 : goal.returns-then-word-lt2
returns-then-word-lt2 c =
    ap variable_in (variable-short _ _ _ _ c.if-word-lt2.true)

pub returns-then-not-a : goal.returns-then-not-a
returns-then-not-a c =
    ap variable_in (variable-bad _ _ _ _ _ c.number_of-a.ensures c.if-word-lt2.false (not-true _ c.if-not-a.true))

pub returns-then-letter-eq105 : goal.returns-then-letter-eq105
returns-then-letter-eq105 c =
    c.below.ensures
    ∙ ap variable_in
    (variable-input _ _ _ _ _ c.number_of-a.ensures c.if-word-lt2.false (not-false _ c.if-not-a.false)
    (sym c.byte_at-letter.ensures ∙ c.if-letter-eq105.true))

pub returns-then-letter-eq114 : goal.returns-then-letter-eq114
returns-then-letter-eq114 c =
    c.below-then-letter-eq114.ensures
    ∙ ap variable_in
    (variable-register _ _ _ _ _ c.number_of-a.ensures c.if-word-lt2.false (not-false _ c.if-not-a.false)
    (λ e. c.if-letter-eq105.false (c.byte_at-letter.ensures ∙ e)) (sym c.byte_at-letter.ensures ∙ c.if-letter-eq114.true))

pub returns-then-letter-eq119 : goal.returns-then-letter-eq119
returns-then-letter-eq119 c =
    c.below-then-letter-eq119.ensures
    ∙ ap variable_in
    (variable-wire _ _ _ _ _ c.number_of-a.ensures c.if-word-lt2.false (not-false _ c.if-not-a.false)
    (λ e. c.if-letter-eq105.false (c.byte_at-letter.ensures ∙ e)) (λ e. c.if-letter-eq114.false (c.byte_at-letter.ensures ∙ e))
    (sym c.byte_at-letter.ensures ∙ c.if-letter-eq119.true))

pub returns : goal.returns
returns c =
    ap variable_in
    (variable-none _ _ _ _ _ c.number_of-a.ensures c.if-word-lt2.false (not-false _ c.if-not-a.false)
    (λ e. c.if-letter-eq105.false (c.byte_at-letter.ensures ∙ e)) (λ e. c.if-letter-eq114.false (c.byte_at-letter.ensures ∙ e))
    (λ e. c.if-letter-eq119.false (c.byte_at-letter.ensures ∙ e)))
