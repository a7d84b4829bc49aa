-- `verilog_names::numbers::number` meets its contract. The loop's invariant: what is still to be stored gives the whole.
-- Assumes nothing.
use mathlib.Core.Path.{◌≡◌}
use Prim.Native.Nat.{◌-◌}
use lib.Seq.{sets}
use Rattle.verilog_names.specs.Numbers.{numbers_from, numbered}
use Rattle.verilog_names.proofs.numbers.number.Given as goal

abbrev pub invariant-loop-i : goal.invariant-loop-i
invariant-loop-i l =
    sets l.out l.i (numbers_from l.kinds l.numbers l.roles l.n (l.n - l.i) l.i) ≡ numbered l.kinds l.numbers l.roles l.n l.initial.out
