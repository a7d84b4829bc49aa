-- `first_values::take_lines` meets its contract. The loop's invariant: the lines left come to what all come to. Assumes nothing.
use Rattle.std.proofs.Common.{◌≡◌, ◌-◌}
use Rattle.first_values.specs.FirstValues.{lines_from, lines_taken}
use Rattle.first_values.proofs.take_lines.Given as goal

abbrev pub invariant-loop : goal.invariant-loop
invariant-loop l =
    lines_from l.m.inputs l.m.registers l.widths l.names l.bytes (l.size - l.counter) l.from l.number l.state
    ≡ lines_taken l.m.inputs l.m.registers l.widths l.names l.bytes l.initial.state
