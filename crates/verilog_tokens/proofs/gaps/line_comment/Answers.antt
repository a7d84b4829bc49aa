-- `verilog_tokens::gaps::line_comment` meets its contract, row by row. Assumes nothing.
use mathlib.Core.Path.{sym, ◌∙◌}
use native.Mathlib.Omega.{arith}
use Rattle.verilog_tokens.specs.declared.Class.TheVariants.{Comment}
use Rattle.verilog_tokens.proofs.Runs.{run-after, run_inside}
use Rattle.verilog_tokens.proofs.Comments.{line-last, line-ended, line-broken}
use Rattle.verilog_tokens.proofs.Lengths.{length_some, length_none}
use Rattle.verilog_tokens.proofs.gaps.line_comment.Goals as goal

pub overflow_sub-result : goal.overflow_sub-result
overflow_sub-result c =
    let r-run-end = c.run_end-end in
    let a = c.args in
    omega (arith, r-run-end.ensures, run-after Comment a.text.now a.at)

pub overflow_add-result : goal.overflow_add-result
overflow_add-result c =
    let r-run-end = c.run_end-end in
    let a = c.args in
    let p = c.requires in
    omega (arith, r-run-end.ensures, run_inside Comment a.text.now a.at p.1)

pub returns-then-text-end : goal.returns-then-text-end
returns-then-text-end c =
    let a = c.args in
    let r-run-end = c.run_end-end in
    let i1 = c.if-text-end in
    length_some _ _ (omega arith) (line-last a.text.now a.at _ r-run-end.ensures i1.true)

pub overflow_sub-result-then-is_newline : goal.overflow_sub-result-then-is_newline
overflow_sub-result-then-is_newline c =
    let r-run-end = c.run_end-end in
    let a = c.args in
    omega (arith, r-run-end.ensures, run-after Comment a.text.now a.at)

pub overflow_add-result-then-is_newline : goal.overflow_add-result-then-is_newline
overflow_add-result-then-is_newline c =
    let r-run-end = c.run_end-end in
    let a = c.args in
    let p = c.requires in
    omega (arith, r-run-end.ensures, run_inside Comment a.text.now a.at p.1)

pub returns-then-is_newline : goal.returns-then-is_newline
returns-then-is_newline c =
    let a = c.args in
    let r-run-end = c.run_end-end in
    let i1 = c.if-text-end in
    let r-is-newline = c.is_newline in
    let i2 = c.if-is_newline in
    length_some _ _ (omega arith) (line-ended a.text.now a.at _ r-run-end.ensures i1.false (sym r-is-newline.ensures ∙ i2.true))

pub returns : goal.returns
returns c =
    let a = c.args in
    let r-run-end = c.run_end-end in
    let i1 = c.if-text-end in
    let r-is-newline = c.is_newline in
    let i2 = c.if-is_newline in
    length_none _ (line-broken a.text.now a.at _ r-run-end.ensures i1.false (sym r-is-newline.ensures ∙ i2.false))
