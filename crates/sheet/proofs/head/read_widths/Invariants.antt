-- `sheet::head::read_widths` meets its contract. What the widths from here on give is what all of them give. Assumes nothing.
use mathlib.Core.Path.{◌≡◌}
use Prim.Native.Nat.{◌-◌}
use Rattle.sheet.specs.Functions.{read_widths}
use Rattle.sheet.specs.Parts.{widths_answer}
use Rattle.sheet.proofs.head.read_widths.Given as goal

abbrev pub invariant-loop-at : goal.invariant-loop-at
invariant-loop-at l =
    widths_answer (read_widths (l.end - l.first) l.sheet l.first) ≡ widths_answer (read_widths (l.end - l.at) l.sheet l.at)
