-- `sheet::expr::located` meets its contract: the answer doesn't tell how the expression is kept. Assumes nothing.
use mathlib.Core.Path.{refl, sym, ap, ◌∙◌}
use Rattle.sheet.specs.Answers.{expr_answer}
use Rattle.sheet.proofs.Nodes.{located-answer}
use Rattle.sheet.proofs.Outlines.{located-similar}
use Rattle.sheet.proofs.expr.located.Goals as goal

pub returns : goal.returns
returns c =
    λ i g. c.read_expr.ensures ∙ sym (located-answer _ _ _) ∙ ap expr_answer (located-similar _ _ _ _ _ refl 0 0 i g _)
