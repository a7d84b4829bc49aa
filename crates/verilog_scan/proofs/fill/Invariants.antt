-- `verilog_scan::fill` meets its contract. The loop's invariant: what is still to be stored gives the whole. Assumes nothing.
use Prim.Native.Nat.{◌-◌}
use lib.ListN.{length}
use Rattle.verilog_scan.proofs.Filling.{Stands}
use Rattle.verilog_scan.proofs.fill.Given as goal

abbrev pub invariant-loop-at : goal.invariant-loop-at
invariant-loop-at l =
    Stands l.text l.initial.kinds l.initial.numbers l.initial.places l.kinds l.numbers l.places l.starts l.names l.n l.at

abbrev pub decreases-loop-at : goal.decreases-loop-at
decreases-loop-at l =
    length l.text - l.at
