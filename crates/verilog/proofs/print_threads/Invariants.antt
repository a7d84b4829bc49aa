-- `verilog::print_threads` meets its contract. The loop's invariant: what is still to be printed gives the whole. Assumes nothing.
use Prim.Native.Nat.{◌≤◌, ◌-◌}
use mathlib.Core.Path.{◌≡◌}
use Rattle.writing.specs.Buffer.{filled}
use Rattle.naming.specs.Naming.{name_of}
use Rattle.verilog.specs.Printing.{leaves, threads_at}
use Rattle.verilog.proofs.print_threads.Given as goal

abbrev pub invariant-loop : goal.invariant-loop
invariant-loop l =
    (l.counter ≤ l.n)
    × (leaves (filled l.text l.p) (threads_at (name_of l.names) l.sheet l.definitions (l.n - l.counter) l.next) ≡ leaves (filled l.initial.text l.pos)
    (threads_at (name_of l.names) l.sheet l.definitions l.n l.at))
