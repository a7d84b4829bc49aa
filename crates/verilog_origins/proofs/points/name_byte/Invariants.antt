-- `verilog_origins::points::name_byte` meets its contract. The loop's invariant: the first from `i` on is the first of all.
-- Assumes nothing.
use mathlib.Core.Path.{◌≡◌}
use Prim.Native.Nat.{◌-◌}
use Rattle.verilog_origins.specs.Points.{differing}
use Rattle.verilog_origins.proofs.points.name_byte.Given as goal

abbrev pub invariant-loop-i : goal.invariant-loop-i
invariant-loop-i l =
    differing l.zeros l.ones (65536 - l.i) l.i ≡ differing l.zeros l.ones (65536 - l.from) l.from
