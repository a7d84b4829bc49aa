-- `verilog_errors::found::size_at` meets its contract. Assumes nothing.
use borrow.Author.Rules.{rules}
use borrow.Author.Tests.{eq-eqb, ne_eqb}
use Rattle.verilog_errors.specs.Found.{size_at}
use Rattle.verilog_errors.proofs.found.size_at.Goals as goal

pub returns-then-t-eq0 : goal.returns-then-t-eq0
unfolding size_at
returns-then-t-eq0 c =
    rw (← c.token_at-t.ensures, eq-eqb _ _ c.if-t-eq0.true)

pub returns : goal.returns
unfolding size_at
returns c =
    rw (← c.token_at-t.ensures, ne_eqb _ _ c.if-t-eq0.false)
