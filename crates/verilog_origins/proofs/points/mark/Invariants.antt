-- `verilog_origins::points::mark` meets its contract. The loop's invariant: what is still to be stored gives the whole.
-- Assumes nothing.
use mathlib.Core.Path.{◌≡◌}
use Prim.Native.Nat.{◌-◌}
use lib.Seq.{sets}
use Rattle.verilog_origins.specs.Points.{marks_from, marks}
use Rattle.verilog_origins.proofs.points.mark.Given as goal

abbrev pub invariant-loop-i : goal.invariant-loop-i
invariant-loop-i l =
    sets l.out l.i (marks_from l.kinds l.table l.part (16385 - l.i) l.i) ≡ marks l.kinds l.table l.part l.initial.out
