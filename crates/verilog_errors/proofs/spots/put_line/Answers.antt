-- `verilog_errors::spots::put_line` meets its contract. Assumes nothing.
use borrow.Author.Rules.{rules}
use Rattle.writing.specs.Ascii.{ascii}
use Rattle.verilog_errors.proofs.Spotting.{line-whole}
use Rattle.verilog_errors.proofs.spots.put_line.Goals as goal

pub returns : goal.returns
unfolding ascii
returns c =
    line-whole _ _ _
    c.spot_of-s.ensures c.saturating_sub-before.ensures c.saturating_sub-start.ensures c.line_end-end.ensures c.saturating_sub.ensures
    c.put_word-a.ensures
    c.put_part-b.ensures
    c.put_word-c.ensures c.put_part-d.ensures
    c.put_word.ensures
