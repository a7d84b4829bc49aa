-- `verilog::print_functions` meets its contract. The loop's invariant: what is still to be printed gives the whole. Assumes nothing.
use Prim.Native.Nat.{◌≤◌, ◌-◌}
use mathlib.Core.Path.{◌≡◌}
use Rattle.writing.specs.Buffer.{filled}
use Rattle.verilog.specs.Printing.{leaves, definitions_at}
use Rattle.verilog.proofs.print_functions.Given as goal

abbrev pub invariant-loop-k : goal.invariant-loop-k
invariant-loop-k l =
    (l.k ≤ l.n)
    × (leaves (filled l.text l.p) (definitions_at l.sheet l.definitions (l.n - l.k) l.k l.next) ≡ leaves (filled l.initial.text l.pos)
    (definitions_at l.sheet l.definitions l.n 0 l.at))
