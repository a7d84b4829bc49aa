-- `explaining::say_word` meets its contract. Assumes nothing.
use mathlib.Core.Path.{sym, ◌∙◌}
use Rattle.writing.proofs.Buffer.{both}
use Rattle.explaining.proofs.Printing.{said-on, said-off}
use Rattle.explaining.proofs.say_word.Goals as goal

pub returns-then-on : goal.returns-then-on
returns-then-on c =
    both _ _ _ _ _ c.put_indent-p.ensures c.put_word.ensures ∙ sym (said-on _ _ _
    c.if-on.true)

pub returns : goal.returns
returns c =
    sym (said-off _ _ _ c.if-on.false)
