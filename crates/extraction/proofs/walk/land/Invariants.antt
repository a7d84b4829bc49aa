-- `walk::land` meets its contract. The loop's invariant: the registers below `r` are as at the walk's end. Assumes nothing.
use mathlib.Core.Path.{◌≡◌, ap, ◌∙◌}
use mathlib.Core.Bool.{false}
use mathlib.Core.List.{List, []}
use Prim.Native.Nat.{ℕ, ◌≤◌}
use native.Mathlib.Omega.{arith}
use lib.ListN.{get_or}
use Rattle.values.specs.Values.{pick}
use Rattle.masks.specs.Masks.{bits}
use Rattle.extraction.specs.Walking.{fill_below, land_at}
use Rattle.extraction.proofs.Walking.{fill_none, fill-turn}
use borrow.Author.Rules.{rules}
use Rattle.extraction.proofs.walk.land.Given as goal

-- The node of a register at the walk's end.
abbrev pub last : List ℕ → List ℕ → ℕ → ℕ → ℕ
last now later d r = pick (get_or (bits d) r false) (get_or later r 0) (get_or now r 0)

abbrev pub invariant-loop-r : goal.invariant-loop-r
invariant-loop-r l =
    (l.r ≤ 32) × (l.row ≡ fill_below (last l.now l.later l.deferred) l.r l.initial.row)
