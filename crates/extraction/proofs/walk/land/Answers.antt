-- `walk::land` meets its contract. Assumes nothing.
use mathlib.Core.Path.{◌≡◌, ap, ◌∙◌}
use mathlib.Core.List.{[]}
use Prim.Native.Nat.{ℕ}
use native.Mathlib.Omega.{arith}
use lib.ListN.{get_or}
use Rattle.extraction.specs.Walking.{fill_below, land_at}
use Rattle.extraction.proofs.Walking.{fill_none, fill-turn}
use borrow.Author.Rules.{rules}
use Rattle.extraction.proofs.walk.land.Invariants.{last}
use Rattle.extraction.proofs.walk.land.Goals as goal

pub returns : goal.returns
unfolding land_at
returns c =
    let a = c.args in
    let l = c.loop-r in
    let e : l.r ≡ 32 = omega arith in
    l.invariant.1
    ∙ ap (λ (n : ℕ). fill_below (last (get_or a.held 0 []) (get_or a.held 1 []) a.deferred) n (get_or a.held 0 [])) e

pub loop-r-preserved : goal.loop-r-preserved
loop-r-preserved c =
    let l = c.loop-r in
    (omega arith, fill-turn _ _ l.r l.invariant.1 c.chosen.ensures)

pub loop-r-init : goal.loop-r-init
loop-r-init c =
    (search rules, fill_none _ _)
