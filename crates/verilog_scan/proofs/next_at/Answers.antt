-- `verilog_scan::next_at` meets its contract. Assumes nothing.
use borrow.Author.Tests.{eq-eqb, ne_eqb}
use Rattle.verilog_scan.specs.Scan.{gap_from}
use Rattle.verilog_scan.proofs.next_at.Goals as goal

pub returns-then-kind-eq69 : goal.returns-then-kind-eq69
returns-then-kind-eq69 c =
    rw (eq-eqb _ _ c.if-kind-eq69.true)

pub returns : goal.returns
unfolding gap_from
returns c =
    rw (ne_eqb _ _ c.if-kind-eq69.false) c.gap_end.ensures
