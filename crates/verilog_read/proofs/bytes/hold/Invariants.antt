-- `verilog_read::bytes::hold` meets its contract. The loop's invariant: what is still to be stored gives the whole. Assumes nothing.
use borrow.Author.Rules.{rules}
use mathlib.Core.Path.{◌≡◌, refl}
use Prim.Native.Nat.{◌-◌}
use native.Mathlib.Omega.{arith}
use lib.Seq.{sets}
use Rattle.verilog_read.specs.Read.{padded}
use Rattle.verilog_read.proofs.Turns.{held-turn, held-over}
use Rattle.verilog_read.proofs.bytes.hold.Given as goal

abbrev pub invariant-loop-i : goal.invariant-loop-i
invariant-loop-i l =
    sets l.held l.i (padded l.bytes (65536 - l.i) l.i) ≡ sets l.initial.held 0 (padded l.bytes 65536 0)
