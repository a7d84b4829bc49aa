-- `verilog_labels::rows::length_at` meets its contract. Assumes nothing.
use borrow.Author.Rules.{rules}
use native.Mathlib.Omega.{arith}
use Rattle.verilog_tokens.specs.declared.Class.TheVariants.{Word}
use Rattle.verilog_tokens.proofs.Runs.{run-after, run_inside}
use Rattle.verilog_labels.proofs.Laying.{spelled-long, spelled_none}
use Rattle.verilog_labels.proofs.rows.length_at.Goals as goal

pub returns-then-text-at : goal.returns-then-text-at
returns-then-text-at c =
    spelled_none _ _ c.if-text-at.true

pub overflow_sub-result : goal.overflow_sub-result
overflow_sub-result c =
    let a = c.args in
    omega (arith, run-after Word a.text.now a.at, c.run_end-end.ensures)

pub overflow_cast-result : goal.overflow_cast-result
overflow_cast-result c =
    let a = c.args in
    let h = c.if-text-at.false in
    omega (arith, run_inside Word a.text.now a.at (omega (arith, h)), c.run_end-end.ensures, c.requires)

pub returns : goal.returns
returns c =
    let h = c.if-text-at.false in
    spelled-long _ _ _ (omega (arith, h)) c.run_end-end.ensures
