-- `verilog_labels::names` meets its contract. Assumes nothing.
use mathlib.Core.Path.{◌∙◌}
use borrow.Author.Rules.{rules}
use Rattle.verilog_labels.proofs.Links.{labels-long, labels-short}
use Rattle.verilog_labels.proofs.names.Goals as goal

pub returns-then-text-gt16384 : goal.returns-then-text-gt16384
returns-then-text-gt16384 c =
    labels-long _ _ _ c.if-text-gt16384.true

pub returns : goal.returns
returns c =
    c.scanned.ensures ∙ labels-short _ c.if-text-gt16384.false _ _
