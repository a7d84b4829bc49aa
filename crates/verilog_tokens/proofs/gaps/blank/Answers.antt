-- `verilog_tokens::gaps::blank` meets its contract. Assumes nothing.
use mathlib.Core.Path.{ap, ◌∙◌}
use native.Mathlib.Omega.{arith}
use Rattle.verilog_tokens.specs.declared.Class.TheVariants.{Space}
use Rattle.verilog_tokens.proofs.Runs.{run-after}
use Rattle.verilog_tokens.proofs.Comments.{blank-space, blank-comment}
use Rattle.verilog_tokens.specs.Pieces.{some_length}
use Rattle.verilog_tokens.proofs.Lengths.{length_some}
use Rattle.verilog_tokens.proofs.gaps.blank.Goals as goal

pub overflow_sub-n : goal.overflow_sub-n
overflow_sub-n c =
    omega (arith, c.run_end.ensures, run-after Space c.args.text.now c.args.at)

pub returns-then-n-gt0 : goal.returns-then-n-gt0
returns-then-n-gt0 c =
    let a = c.args in
    let r-run-end = c.run_end in
    let i1 = c.if-n-gt0 in
    length_some _ _ (omega (arith, i1.true)) (blank-space a.text.now a.at _ r-run-end.ensures i1.true)

pub returns : goal.returns
returns c =
    let r-comment = c.comment in
    let a = c.args in
    let r-run-end = c.run_end in
    let i1 = c.if-n-gt0 in
    r-comment.ensures ∙ ap some_length (blank-comment a.text.now a.at _ r-run-end.ensures i1.false)
