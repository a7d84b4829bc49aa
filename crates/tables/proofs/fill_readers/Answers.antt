-- `tables::fill_readers` meets its contract. The loop's invariant: the wires below `k` are marked. Assumes nothing.
use borrow.Author.Rules.{rules}
use mathlib.Core.Path.{◌≡◌, ap, ◌∙◌}
use Prim.Native.Nat.{ℕ}
use native.Mathlib.Omega.{arith}
use Rattle.tables.specs.Readers.{readers_below}
use Rattle.tables.proofs.Readers.{min-at_most, readers-none, readers-turn}
use Rattle.tables.proofs.fill_readers.Goals as goal

pub loop-k-init : goal.loop-k-init
loop-k-init c =
    let a = c.args in
    (search rules, readers-none a.sheet.now a.definitions.now a.starts.now a.readers.now)

pub offset_bounds-starts-k : goal.offset_bounds-starts-k
offset_bounds-starts-k c =
    omega (arith, c.min-count.ensures)

pub bounds-starts-k : goal.bounds-starts-k
bounds-starts-k c =
    omega (arith, c.min-count.ensures)

pub loop-k-preserved : goal.loop-k-preserved
loop-k-preserved c =
    let a = c.args in
    let l = c.loop-k in
    (omega arith, readers-turn a.sheet.now a.definitions.now a.starts.now l.k a.readers.now l.invariant.1 c.mark_expr.ensures)

pub returns : goal.returns
returns c =
    let a = c.args in
    let l = c.loop-k in
    let e : l.k ≡ c.min-count.result = omega arith in
    l.invariant.1
    ∙ ap (λ (n : ℕ). readers_below a.sheet.now a.definitions.now a.starts.now n a.readers.now)
    (e ∙ c.min-count.ensures ∙ min-at_most _ _)
