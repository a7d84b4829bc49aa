-- `columns::put_in_order` meets its contract. The loop's invariant: the numbers still to be stored give the whole. Assumes nothing.
use Prim.Native.Nat.{◌-◌}
use mathlib.Core.Path.{◌≡◌}
use lib.Seq.{sets}
use Rattle.columns.specs.Columns.{counting, in_order}
use Rattle.columns.proofs.put_in_order.Given as goal

abbrev pub invariant-loop-i : goal.invariant-loop-i
invariant-loop-i l =
    sets l.places l.i (counting (80 - l.i) l.i) ≡ in_order l.initial.places
