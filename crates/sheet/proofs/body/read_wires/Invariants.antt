-- `sheet::body::read_wires` meets its contract. The table so far, filled up with what is left to read, is the whole answer. Assumes nothing.
use mathlib.Core.Path.{◌≡◌}
use Prim.Native.Nat.{◌+◌, ◌-◌}
use lib.ListN.{length}
use Rattle.sheet.specs.Expression.{located}
use Rattle.sheet.specs.Module.{read_wires}
use Rattle.sheet.specs.Parts.{scope_of, outlines, wires_answer, filled}
use Rattle.sheet.proofs.body.read_wires.Given as goal

abbrev pub invariant-loop-k : goal.invariant-loop-k
invariant-loop-k l =
    (length l.starts ≡ 32)
    × (l.variable ≡ l.inputs + l.registers + l.k)
    × (wires_answer (read_wires (located l.sheet) (scope_of l.inputs l.registers l.widths l.declared (outlines l.sheet l.definitions l.declared)) l.sheet l.count (l.inputs + l.registers) l.at)
    ≡ filled l.starts l.k (read_wires (located l.sheet) (scope_of l.inputs l.registers l.widths l.declared (outlines l.sheet l.definitions l.declared)) l.sheet (l.count - l.k) l.variable l.place))
