-- `drawing::end_of` meets its contract. The loop's invariant: the end that is still to be found is the end. Assumes nothing.
use Prim.Native.Nat.{◌-◌, ◌≤◌}
use mathlib.Core.Path.{◌≡◌}
use Rattle.drawing.specs.Drawing.{end_of, value_in}
use Rattle.drawing.proofs.end_of.Given as goal

abbrev pub invariant-loop-e : goal.invariant-loop-e
invariant-loop-e l =
    (l.e ≤ l.end) × (end_of (value_in l.trace l.v) l.a (l.end - l.e) l.e ≡ end_of (value_in l.trace l.v) l.a (l.end - l.h) l.h)
