-- `drawing::put_stretches` meets its contract. The loop's invariant: what is still to be put gives the whole. Assumes nothing.
use Prim.Native.Nat.{◌-◌, ◌≤◌}
use mathlib.Core.Path.{◌≡◌}
use Rattle.drawing.specs.Drawing.{halves, stretch_from, value_in}
use Rattle.naming.specs.Naming.{texts}
use Rattle.writing.specs.Buffer.{filled, puts}
use Rattle.drawing.proofs.put_stretches.Given as goal

abbrev pub invariant-loop-h : goal.invariant-loop-h
invariant-loop-h l =
    (l.h ≤ l.end) × (l.end ≡ halves l.d)
    × (puts (filled l.text l.p) (texts (stretch_from l.d l.width (value_in l.trace l.v)) (l.end - l.h) l.h)
    ≡ puts (filled l.initial.text l.pos) (texts (stretch_from l.d l.width (value_in l.trace l.v)) (halves l.d) 0))
