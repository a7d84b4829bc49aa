-- `verilog::put_between` meets its contract. Assumes nothing.
use mathlib.Core.Path.{sym, ap, ◌∙◌}
use Rattle.writing.specs.Ascii.{ascii}
use Rattle.writing.specs.Buffer.{puts}
use Rattle.writing.proofs.Buffer.{puts-nil}
use Rattle.verilog.proofs.Printing.{lead-operator, lead-first-argument, lead-argument}
use Rattle.verilog.proofs.put_between.Goals as goal

pub returns-then-op-lt11 : goal.returns-then-op-lt11
returns-then-op-lt11 c =
    c.put_lead.ensures ∙ ap (puts _) (sym (lead-operator _ _ c.if-op-lt11.true))

pub returns-then-op-n : goal.returns-then-op-n
returns-then-op-n c =
    sym (puts-nil _) ∙ ap (puts _) (sym (lead-first-argument _ _ c.if-op-lt11.false c.if-op-n.true))

pub returns : goal.returns
unfolding ascii
returns c =
    c.put_word.ensures ∙ ap (puts _) (sym (lead-argument _ _ c.if-op-lt11.false c.if-op-n.false))
