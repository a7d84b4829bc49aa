-- `drawing::put_name` meets its contract. The loop's invariant: what is still to be put gives the whole. Assumes nothing.
use Prim.Native.Nat.{◌≤◌}
use mathlib.Core.Path.{◌≡◌}
use lib.ListN.{drop}
use Rattle.drawing.specs.Drawing.{escaped_byte}
use Rattle.naming.specs.Naming.{name_of}
use Rattle.tabulate.specs.Tabulate.{columns}
use Rattle.writing.specs.Buffer.{filled, puts}
use Rattle.drawing.proofs.put_name.Given as goal

abbrev pub invariant-loop-i : goal.invariant-loop-i
invariant-loop-i l =
    (l.i ≤ l.n) × (l.n ≤ 32)
    × (puts (filled l.text l.p) (columns escaped_byte (drop l.i (name_of l.names l.v)))
    ≡ puts (filled l.initial.text l.pos) (columns escaped_byte (name_of l.names l.v)))
