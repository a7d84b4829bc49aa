-- `waveform::put_change` meets its contract. Assumes nothing.
use mathlib.Core.Path.{sym, ◌∙◌}
use Rattle.writing.proofs.Buffer.{puts-nil}
use borrow.Author.Rules.{rules}
use Rattle.waveform.proofs.put_change.Goals as goal

pub returns-then-same : goal.returns-then-same
returns-then-same c =
    rw (sym c.same.ensures ∙ c.if-same.true) (sym (puts-nil _))

pub returns : goal.returns
returns c =
    rw (sym c.same.ensures ∙ c.if-same.false) c.put_value.ensures
