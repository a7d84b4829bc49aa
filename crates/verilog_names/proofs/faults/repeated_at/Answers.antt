-- `verilog_names::faults::repeated_at` meets its contract. Assumes nothing.
use mathlib.Core.Path.{sym, ◌∙◌}
use native.Mathlib.Omega.{arith}
use Rattle.verilog_names.proofs.AtFault.{repeated-out, repeated-among, repeated-not}
use Rattle.verilog_names.proofs.faults.repeated_at.Goals as goal

pub returns-then-not-is_in : goal.returns-then-not-is_in
returns-then-not-is_in c =
    repeated-out _ _ _ _ _ (sym c.is_in.ensures ∙ c.if-not-is_in.true)

pub returns-then-is_seen : goal.returns-then-is_seen
returns-then-is_seen c =
    let inside = sym c.is_in.ensures ∙ c.if-not-is_in.false in
    let among = sym c.is_seen.ensures ∙ c.if-is_seen.true in
    c.spot.ensures.0 ∙ repeated-among _ _ _ _ _ inside among (omega (arith, c.spot.ensures.0, c.spot.ensures.1))

pub returns : goal.returns
returns c =
    repeated-not _ _ _ _ _ (sym c.is_in.ensures ∙ c.if-not-is_in.false)
    (sym c.is_seen.ensures ∙ c.if-is_seen.false)
