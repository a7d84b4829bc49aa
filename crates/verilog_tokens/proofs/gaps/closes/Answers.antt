-- `verilog_tokens::gaps::closes` meets its contract, row by row. Assumes nothing.
use mathlib.Core.Path.{◌∙◌}
use borrow.Author.Tests.{ne_eqb}
use Rattle.verilog_tokens.proofs.Comments.{closed-past, closed-star}
use Rattle.verilog_tokens.proofs.gaps.closes.Goals as goal

pub returns-then-text-at : goal.returns-then-text-at
returns-then-text-at c =
    closed-past c.args.text.now c.args.at c.if-text-at.true

pub returns-then-text-at-eq42 : goal.returns-then-text-at-eq42
returns-then-text-at-eq42 c =
    c.is_slash.ensures ∙ closed-star c.args.text.now c.args.at c.if-text-at-eq42.true

pub returns-else-text-at-eq42 : goal.returns-else-text-at-eq42
returns-else-text-at-eq42 c =
    rw (ne_eqb _ _ c.if-text-at-eq42.false)
