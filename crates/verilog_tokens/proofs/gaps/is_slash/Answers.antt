-- `verilog_tokens::gaps::is_slash` meets its contract. Assumes nothing.
use borrow.Author.Tests.{le-ltb}
use Rattle.verilog_tokens.proofs.Comments.{slash-there, slash-past}
use Rattle.verilog_tokens.proofs.gaps.is_slash.Goals as goal

pub returns-then-at-text : goal.returns-then-at-text
returns-then-at-text c =
    slash-there _ _ c.if-at-text.true

pub returns-else-at-text : goal.returns-else-at-text
returns-else-at-text c =
    rw (le-ltb _ _ c.if-at-text.false) (slash-past _ _ c.if-at-text.false)
