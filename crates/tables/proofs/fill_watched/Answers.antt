-- `tables::fill_watched` meets its contract. The loop's invariant: the variables that the threads below `i` name are marked.
-- Assumes nothing.
use borrow.Author.Rules.{rules}
use mathlib.Core.Path.{◌≡◌, ap, ◌∙◌}
use Prim.Native.Nat.{ℕ}
use native.Mathlib.Omega.{arith}
use Rattle.tables.specs.Readers.{watched_below}
use Rattle.tables.proofs.Readers.{min-at_most, watched-none, watched-turn}
use Rattle.tables.proofs.fill_watched.Goals as goal

pub loop-i-init : goal.loop-i-init
loop-i-init c =
    let a = c.args in
    (search rules, watched-none a.sheet.now a.code.now a.sizes.now a.watched.now)

pub offset_bounds-sizes-i : goal.offset_bounds-sizes-i
offset_bounds-sizes-i c =
    omega (arith, c.min-count.ensures)

pub bounds-sizes-i : goal.bounds-sizes-i
bounds-sizes-i c =
    omega (arith, c.min-count.ensures)

pub loop-i-preserved : goal.loop-i-preserved
loop-i-preserved c =
    let a = c.args in
    let l = c.loop-i in
    let n = c.min-n.ensures ∙ min-at_most _ _ in
    (omega arith, watched-turn a.sheet.now a.code.now a.sizes.now l.i a.watched.now l.invariant.1 n c.watch_thread.ensures)

pub returns : goal.returns
returns c =
    let a = c.args in
    let l = c.loop-i in
    let e : l.i ≡ c.min-count.result = omega arith in
    l.invariant.1
    ∙ ap (λ (n : ℕ). watched_below a.sheet.now a.code.now a.sizes.now n a.watched.now)
    (e ∙ c.min-count.ensures ∙ min-at_most _ _)
