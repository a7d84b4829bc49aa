-- `drawing::largest_value` meets its contract. The loop's invariant: the largest so far and those to come give the whole. Assumes nothing.
use mathlib.Core.Path.{◌≡◌}
use lib.ListN.{drop}
use Rattle.drawing.specs.Drawing.{largest, value_size}
use Rattle.drawing.proofs.largest_value.Given as goal

abbrev pub invariant-loop-v : goal.invariant-loop-v
invariant-loop-v l =
    largest (value_size l.base l.widths) l.m (drop l.v-index l.vs) ≡ largest (value_size l.base l.widths) 0 l.vs
