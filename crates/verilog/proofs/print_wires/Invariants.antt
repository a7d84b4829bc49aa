-- `verilog::print_wires` meets its contract. The loop's invariant: what is still to be printed gives the whole. Assumes nothing.
use Prim.Native.Nat.{◌≤◌, ◌+◌, ◌-◌}
use mathlib.Core.Path.{◌≡◌}
use Rattle.writing.specs.Buffer.{filled}
use Rattle.naming.specs.Naming.{name_of}
use Rattle.verilog.specs.Printing.{leaves, wires_at}
use Rattle.verilog.proofs.print_wires.Given as goal

abbrev pub invariant-loop-k : goal.invariant-loop-k
invariant-loop-k l =
    (l.k ≤ l.n)
    × (leaves (filled l.text l.p) (wires_at (name_of l.names) l.sheet l.definitions (l.n - l.k) (l.first + l.k) l.next) ≡ leaves (filled l.initial.text l.pos)
    (wires_at (name_of l.names) l.sheet l.definitions l.n l.first l.at))
