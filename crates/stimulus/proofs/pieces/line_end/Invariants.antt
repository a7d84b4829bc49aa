-- `stimulus::pieces::line_end` meets its contract. The loop's invariant: the search from `i` on finds what the whole finds.
-- Assumes nothing.
use mathlib.Core.Path.{◌≡◌}
use Prim.Native.Nat.{◌-◌, ◌≤◌}
use Rattle.std.specs.Prelude.{max}
use Rattle.stimulus.specs.Counting.{first_from}
use Rattle.stimulus.specs.Waiting.{is_line_end, line_end}
use Rattle.stimulus.proofs.pieces.line_end.Given as goal

abbrev pub invariant-loop-i : goal.invariant-loop-i
invariant-loop-i l =
    (l.i ≤ max l.from l.to) × (first_from (is_line_end l.bytes) (l.to - l.i) l.i ≡ line_end l.bytes l.from l.to)
