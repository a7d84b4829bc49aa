-- `hextext::step` meets its contract, row by row. Assumes nothing.
use borrow.Author.Rules.{rules}
use native.Mathlib.Omega.{arith}
use mathlib.Core.Path.{sym, ◌∙◌}
use Rattle.hextext.proofs.Steps.{step-comment-end, step-comment, step-second, step-single, step-digit, step_line, step-mark, step-blank, step-wrong}
use Rattle.hextext.proofs.step.Goals as goal

pub returns-then-b-eq10 : goal.returns-then-b-eq10
returns-then-b-eq10 c =
    c.next_line.ensures ∙ sym (step-comment-end _ _ (search rules) (omega arith))

pub returns-then-s : goal.returns-then-s
returns-then-s c =
    c.along.ensures ∙ sym (step-comment _ _ (search rules) (λ p. omega arith))

pub returns-then-d-lt16 : goal.returns-then-d-lt16
returns-then-d-lt16 c =
    c.second.ensures ∙ sym (step-second _ _ (search rules) (search rules) (omega arith))

pub returns-then-s-2 : goal.returns-then-s-2
returns-then-s-2 c =
    c.failed.ensures ∙ sym (step-single _ _ (search rules) (search rules) (omega arith))

pub returns-then-d-lt16-2 : goal.returns-then-d-lt16-2
returns-then-d-lt16-2 c =
    c.first.ensures ∙ sym (step-digit _ _ (search rules) (search rules) _ (search rules) (omega arith))

pub returns-then-b-eq10-2 : goal.returns-then-b-eq10-2
returns-then-b-eq10-2 c =
    c.next_line-then-b-eq10-2.ensures ∙ sym (step_line _ _ (search rules) (search rules) (omega arith) (omega arith))

pub returns-then-b-eq35 : goal.returns-then-b-eq35
returns-then-b-eq35 c =
    c.along-then-b-eq35.ensures ∙ sym (step-mark _ _ (search rules) (search rules) (omega arith) (λ p. omega arith) (omega arith))

pub returns-then-is_blank : goal.returns-then-is_blank
returns-then-is_blank c =
    c.along-then-is_blank.ensures ∙ sym (step-blank _ _ (search rules) (search rules) (omega arith) (λ p. omega arith) (λ p. omega arith) (cc))

pub returns : goal.returns
returns c =
    c.failed-2.ensures ∙ sym (step-wrong _ _ (search rules) (search rules) (omega arith) (λ p. omega arith) (λ p. omega arith) (cc))
