-- `signs::put_lead` meets its contract. Assumes nothing.
use borrow.Author.Rules.{rules}
use mathlib.Core.Path.{sym, ap, ◌∙◌}
use Rattle.writing.specs.Ascii.{ascii}
use Rattle.writing.specs.Buffer.{puts}
use Rattle.writing.proofs.Buffer.{puts-nil}
use Rattle.signs.specs.Signs.{lead}
use Rattle.signs.proofs.Signs.{lead-first, lead-colon, lead-sign}
use Rattle.signs.proofs.put_lead.Goals as goal

pub returns-then-n-eq3 : goal.returns-then-n-eq3
unfolding lead
returns-then-n-eq3 c =
    rw c.if-n-eq3.true (sym (puts-nil _))

pub returns-then-op-eq10 : goal.returns-then-op-eq10
unfolding lead ascii
returns-then-op-eq10 c =
    rw (c.if-n-eq2.true, c.if-op-eq10.true) c.put_word.ensures

pub returns-then-n-eq2 : goal.returns-then-n-eq2
returns-then-n-eq2 c =
    rw c.if-n-eq2.true (sym (puts-nil _) ∙ ap (puts _) (sym (lead-first _ c.if-op-eq10.false)))

pub returns-then-op-eq10-2 : goal.returns-then-op-eq10-2
unfolding ascii
returns-then-op-eq10-2 c =
    c.put_word-then-op-eq10-2.ensures ∙ ap (puts _)
    (sym (lead-colon _ _ c.if-n-eq3.false c.if-n-eq2.false c.if-op-eq10-2.true))

pub returns : goal.returns
returns c =
    c.put_sign.ensures ∙ ap (puts _) (sym (lead-sign _ _ c.if-n-eq3.false c.if-n-eq2.false c.if-op-eq10-2.false))
