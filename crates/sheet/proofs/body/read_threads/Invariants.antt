-- `sheet::body::read_threads` meets its contract. What the threads from here on give is what all of them give. Assumes nothing.
use mathlib.Core.Path.{◌≡◌}
use Prim.Native.Nat.{◌-◌}
use Rattle.sheet.specs.Expression.{located}
use Rattle.sheet.specs.Module.{read_threads}
use Rattle.sheet.specs.Parts.{scope_of, outlines, place_answer}
use Rattle.sheet.proofs.body.read_threads.Given as goal

abbrev pub invariant-loop : goal.invariant-loop
invariant-loop l =
    place_answer (read_threads (located l.sheet) (scope_of l.inputs l.registers l.widths l.declared (outlines l.sheet l.definitions l.declared)) l.sheet l.count l.at)
    ≡ place_answer (read_threads (located l.sheet) (scope_of l.inputs l.registers l.widths l.declared (outlines l.sheet l.definitions l.declared)) l.sheet (l.count - l.counter) l.place)
