-- `reasons::next_line` meets its contract. The loop's invariant: what stands behind the line is the same from here on. Assumes
-- nothing.
use Prim.Native.Nat.{◌-◌}
use mathlib.Core.Path.{◌≡◌, refl, ◌∙◌}
use borrow.Author.Rules.{rules}
use lib.ListN.{length, drop}
use Rattle.reasons.specs.Reasons.{other_lines}
use Rattle.reasons.proofs.Reasons.{rest-none, rest_end, rest_more}
use Rattle.reasons.proofs.next_line.Given as goal

abbrev pub invariant-loop-i : goal.invariant-loop-i
invariant-loop-i l =
    other_lines (drop l.i l.table) ≡ other_lines (drop l.from l.table)
