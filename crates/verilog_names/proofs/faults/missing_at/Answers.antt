-- `verilog_names::faults::missing_at` meets its contract. Assumes nothing.
use native.Mathlib.Omega.{arith}
use Rattle.verilog_names.proofs.Marking.{place-gone, place-there}
use Rattle.verilog_names.proofs.faults.missing_at.Goals as goal

pub returns-then-missing : goal.returns-then-missing
returns-then-missing c = (
  place-gone _ _ _ c.if-missing.true c.spot.ensures.0,
  omega (arith, c.spot.ensures.1),
)

pub returns : goal.returns
returns c =
    (place-there _ _ c.if-missing.false, omega arith)
