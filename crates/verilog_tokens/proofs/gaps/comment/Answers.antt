-- `verilog_tokens::gaps::comment` meets its contract, row by row. Assumes nothing.
use mathlib.Core.Path.{ap, ◌∙◌}
use native.Mathlib.Omega.{arith}
use Rattle.verilog_tokens.proofs.Comments.{comment-short, comment-other, comment-line, comment-block, comment-neither}
use Rattle.verilog_tokens.specs.Pieces.{some_length}
use Rattle.verilog_tokens.proofs.Lengths.{length_none}
use Rattle.verilog_tokens.proofs.gaps.comment.Goals as goal

pub returns-then-text-at : goal.returns-then-text-at
returns-then-text-at c =
    length_none _ (comment-short c.args.text.now c.args.at (omega arith))

pub returns-then-text-at-lt2 : goal.returns-then-text-at-lt2
returns-then-text-at-lt2 c =
    length_none _ (comment-short c.args.text.now c.args.at (omega arith))

pub returns-then-text-at-ne47 : goal.returns-then-text-at-ne47
returns-then-text-at-ne47 c =
    let a = c.args in
    let i3 = c.if-text-at-ne47 in
    length_none _ (comment-other a.text.now a.at (omega arith) i3.true)

pub returns-then-text-at-eq47 : goal.returns-then-text-at-eq47
returns-then-text-at-eq47 c =
    let r-line-comment = c.line_comment in
    let a = c.args in
    let i3 = c.if-text-at-ne47 in
    let i4 = c.if-text-at-eq47 in
    r-line-comment.ensures ∙ ap some_length (comment-line a.text.now a.at (omega arith) i3.false i4.true)

pub returns-then-text-at-eq42 : goal.returns-then-text-at-eq42
returns-then-text-at-eq42 c =
    let r-block-comment = c.block_comment in
    let a = c.args in
    let i3 = c.if-text-at-ne47 in
    let i5 = c.if-text-at-eq42 in
    r-block-comment.ensures ∙ ap some_length (comment-block a.text.now a.at (omega arith) i3.false i5.true)

pub returns : goal.returns
returns c =
    let a = c.args in
    let i3 = c.if-text-at-ne47 in
    let i4 = c.if-text-at-eq47 in
    let i5 = c.if-text-at-eq42 in
    length_none _ (comment-neither a.text.now a.at (omega arith) i3.false i4.false i5.false)
