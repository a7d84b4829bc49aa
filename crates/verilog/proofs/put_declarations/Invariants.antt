-- `verilog::put_declarations` meets its contract. The loop's invariant: what is still to be put gives the whole. Assumes nothing.
use Prim.Native.Nat.{◌≤◌, ◌-◌}
use mathlib.Core.Path.{◌≡◌}
use Rattle.writing.specs.Buffer.{filled, puts}
use Rattle.naming.specs.Naming.{name_of}
use Rattle.verilog.specs.Printing.{declarations_at}
use Rattle.verilog.proofs.put_declarations.Given as goal

abbrev pub invariant-loop-v : goal.invariant-loop-v
invariant-loop-v l =
    (l.v ≤ l.n)
    × (puts (filled l.text l.p) (declarations_at (name_of l.names) l.sheet l.inputs l.registers l.first (l.n - l.v) l.v) ≡ puts (filled l.initial.text l.pos)
    (declarations_at (name_of l.names) l.sheet l.inputs l.registers l.first l.n 0))
