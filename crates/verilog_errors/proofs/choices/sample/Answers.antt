-- `verilog_errors::choices::sample` meets its contract. Assumes nothing.
use borrow.Author.Tests.{eq-eqb, ne_eqb}
use Rattle.verilog_errors.specs.Choices.{sample}
use Rattle.verilog_errors.proofs.choices.sample.Goals as goal

pub returns-then-kind-eq65 : goal.returns-then-kind-eq65
unfolding sample
returns-then-kind-eq65 c =
    rw (eq-eqb _ _ c.if-kind-eq65.true)

pub returns-else-kind-eq65 : goal.returns-else-kind-eq65
unfolding sample
returns-else-kind-eq65 c =
    rw (ne_eqb _ _ c.if-kind-eq65.false)
