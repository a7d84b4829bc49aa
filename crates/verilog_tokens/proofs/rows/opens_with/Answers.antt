-- `verilog_tokens::rows::opens_with` meets its contract. Assumes nothing.
use mathlib.Core.Path.{sym, ◌∙◌}
use borrow.Author.Tests.{lt-leb}
use lib.Seq.{length-take-le}
use Rattle.verilog_tokens.proofs.Tables.{opens-short, opens-front}
use Rattle.verilog_tokens.proofs.rows.opens_with.Goals as goal

pub slice_bounds-same-end : goal.slice_bounds-same-end
slice_bounds-same-end c =
    sym (length-take-le _ c.args.text.now c.if-n-text.true)

pub returns-then-n-text : goal.returns-then-n-text
returns-then-n-text c =
    let a = c.args in
    c.same.ensures ∙ opens-front a.word.now a.text.now c.if-n-text.true

pub returns-else-n-text : goal.returns-else-n-text
returns-else-n-text c =
    rw (lt-leb _ _ c.if-n-text.false) (opens-short c.args.word.now c.args.text.now c.if-n-text.false)
