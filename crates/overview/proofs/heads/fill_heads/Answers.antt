-- `overview::heads::fill_heads` meets its contract. The loop's invariant: the heads of the threads below `i` are noted. Assumes nothing.
use borrow.Author.Rules.{rules}
use mathlib.Core.Path.{◌≡◌, ap, ◌∙◌}
use Prim.Native.Nat.{ℕ, ◌-◌, ◌≤◌}
use native.Mathlib.Omega.{arith}
use Rattle.rules.proofs.Counting.{size_of-most}
use Rattle.overview.specs.Heads.{noted, notes, heads_of}
use Rattle.overview.proofs.Noting.{of_none, of-turn, of-most}
use Rattle.overview.proofs.heads.fill_heads.Goals as goal

pub loop-i-init : goal.loop-i-init
loop-i-init c =
    let a = c.args in
    (search rules, of_none a.sheet.now a.code.now a.sizes.now _)

pub fill_thread-k-requires : goal.fill_thread-k-requires
fill_thread-k-requires c =
    let a = c.args in
    let m = of-most a.sheet.now a.code.now a.sizes.now c.loop-i.i _ _ c.loop-i.invariant.1 in
    (omega arith, omega (arith, size_of-most a.sizes.now c.loop-i.i, c.size_of-n.ensures), omega (arith, m))

pub loop-i-preserved : goal.loop-i-preserved
loop-i-preserved c =
    let a = c.args in
    let l = c.loop-i in (
      omega arith,
      of-turn a.sheet.now a.code.now a.sizes.now l.i _ _ _ l.invariant.1 c.size_of-n.ensures
          c.fill_thread-k.ensures,
    )

pub returns : goal.returns
returns c =
    let a = c.args in
    let l = c.loop-i in
    let e : l.i ≡ a.threads = omega arith in
    l.invariant.1 ∙ ap (λ (n : ℕ). notes (noted a.heads.now 0) (heads_of a.sheet.now a.code.now a.sizes.now n)) e
