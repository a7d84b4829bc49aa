-- `drawing::largest_name` meets its contract. The loop's invariant: the largest so far and those to come give the whole. Assumes nothing.
use mathlib.Core.Path.{◌≡◌}
use lib.ListN.{drop}
use Rattle.drawing.specs.Drawing.{largest, name_size}
use Rattle.drawing.proofs.largest_name.Given as goal

abbrev pub invariant-loop-v : goal.invariant-loop-v
invariant-loop-v l =
    largest (name_size l.widths l.names) l.m (drop l.v-index l.vs) ≡ largest (name_size l.widths l.names) 0 l.vs
