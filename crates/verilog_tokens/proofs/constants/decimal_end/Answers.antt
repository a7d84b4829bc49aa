-- `verilog_tokens::constants::decimal_end` meets its contract, row by row. Assumes nothing.
use mathlib.Core.Path.{sym, ◌∙◌}
use Rattle.verilog_tokens.proofs.Bases.{decimal-past, decimal-x, decimal-digits}
use Rattle.verilog_tokens.proofs.constants.decimal_end.Goals as goal

pub returns-then-text-at : goal.returns-then-text-at
returns-then-text-at c =
    decimal-past c.args.text.now c.args.at c.if-text-at.true

pub returns-then-is_x : goal.returns-then-is_x
returns-then-is_x c =
    let r-run-end = c.run_end in
    let a = c.args in
    let i1 = c.if-text-at in
    let r-is-x = c.is_x in
    let i2 = c.if-is_x in
    r-run-end.ensures ∙ decimal-x a.text.now a.at i1.false (sym r-is-x.ensures ∙ i2.true)

pub returns : goal.returns
returns c =
    let r-run-end2 = c.run_end-2 in
    let a = c.args in
    let i1 = c.if-text-at in
    let r-is-x = c.is_x in
    let i2 = c.if-is_x in
    r-run-end2.ensures ∙ decimal-digits a.text.now a.at i1.false (sym r-is-x.ensures ∙ i2.false)
