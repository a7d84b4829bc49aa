-- `verilog::put_ports` meets its contract. The loop's invariant: what is still to be put gives the whole. Assumes nothing.
use Prim.Native.Nat.{◌≤◌, ◌-◌}
use mathlib.Core.Path.{◌≡◌}
use Rattle.writing.specs.Buffer.{filled, puts}
use Rattle.naming.specs.Naming.{name_of}
use Rattle.verilog.specs.Verilog.{ports_text}
use Rattle.verilog.proofs.put_ports.Given as goal

abbrev pub invariant-loop-v : goal.invariant-loop-v
invariant-loop-v l =
    (l.v ≤ l.n)
    × (puts (filled l.text l.p) (ports_text (name_of l.names) (l.n - l.v) l.v) ≡ puts (filled l.initial.text l.pos)
    (ports_text (name_of l.names) l.n 0))
