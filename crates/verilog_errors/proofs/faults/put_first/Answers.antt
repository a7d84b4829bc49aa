-- `verilog_errors::faults::put_first` meets its contract. Assumes nothing.
use borrow.Author.Rules.{rules}
use borrow.Author.Tests.{eq-eqb, ne_eqb}
use mathlib.Core.Path.{sym}
use Rattle.writing.proofs.Buffer.{puts-nil}
use Rattle.verilog_errors.specs.Faults.{line_of_first}
use Rattle.verilog_errors.proofs.faults.put_first.Goals as goal

pub returns-then-b-eq2 : goal.returns-then-b-eq2
unfolding line_of_first
returns-then-b-eq2 c =
    rw (eq-eqb _ _ c.if-b-eq2.true, ← c.spot_of-s.ensures) c.put_decimal.ensures

pub returns-then-b-eq5 : goal.returns-then-b-eq5
unfolding line_of_first
returns-then-b-eq5 c =
    rw (
      ne_eqb _ _ c.if-b-eq2.false,
      eq-eqb _ _ c.if-b-eq5.true,
      ← c.spot_of-s.ensures,
    )
    c.put_decimal-then-b-eq5.ensures

pub returns : goal.returns
unfolding line_of_first
returns c =
    rw (ne_eqb _ _ c.if-b-eq2.false, ne_eqb _ _ c.if-b-eq5.false) (sym (puts-nil _))
