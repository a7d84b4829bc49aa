-- `labels::take_lines` meets its contract. The loop's invariant: the lines that are left come to what all lines come to. Assumes nothing.
use mathlib.Core.Path.{◌≡◌}
use Prim.Native.Nat.{◌-◌}
use Rattle.labels.specs.Labels.{lines_from, lines_taken}
use Rattle.labels.proofs.take_lines.Given as goal

abbrev pub invariant-loop : goal.invariant-loop
invariant-loop l =
    lines_from l.inputs l.registers l.wires l.bytes (l.size - l.counter) l.from l.number l.names ≡ lines_taken l.inputs l.registers l.wires l.bytes l.initial.names
