-- `verilog_read::bytes::copy` meets its contract. The loop's invariant: what is still to be stored gives the whole. Assumes nothing.
use borrow.Author.Rules.{rules}
use mathlib.Core.Path.{◌≡◌, refl, ◌∙◌}
use Prim.Native.Nat.{◌-◌}
use native.Mathlib.Omega.{arith}
use lib.ListN.{length, length-set}
use lib.Seq.{sets}
use Rattle.verilog_read.specs.Read.{padded, copied}
use Rattle.verilog_read.proofs.Turns.{copied_all, copied-turn, copied-over}
use Rattle.verilog_read.proofs.bytes.copy.Given as goal

abbrev pub invariant-loop-i : goal.invariant-loop-i
invariant-loop-i l =
    (length l.lent ≡ length l.initial.lent) × (sets l.lent l.i (padded l.sheet (length l.lent - l.i) l.i) ≡ copied l.sheet l.initial.lent)
