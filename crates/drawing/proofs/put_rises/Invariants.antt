-- `drawing::put_rises` meets its contract. The loop's invariant: what is still to be put gives the whole. Assumes nothing.
use Prim.Native.Nat.{◌-◌, ◌≤◌}
use mathlib.Core.Path.{◌≡◌}
use Rattle.drawing.specs.Drawing.{rise}
use Rattle.naming.specs.Naming.{texts}
use Rattle.writing.specs.Buffer.{filled, puts}
use Rattle.drawing.proofs.put_rises.Given as goal

abbrev pub invariant-loop-k : goal.invariant-loop-k
invariant-loop-k l =
    (l.k ≤ l.end) × (l.end ≤ 255)
    × (puts (filled l.text l.p) (texts (rise l.d) (l.end - l.k) l.k) ≡ puts (filled l.initial.text l.pos) (texts (rise l.d) l.d.cycles 0))
