-- `filling::walk_first` meets its contract. The loop's invariant: the threads below `i` are walked. Assumes nothing.
use mathlib.Core.Path.{◌≡◌, ap, ◌∙◌}
use Prim.Native.Nat.{ℕ, ◌-◌, ◌≤◌}
use native.Mathlib.Omega.{arith}
use Rattle.extraction.specs.Filling.{filling, threads_below_at}
use Rattle.extraction.proofs.Tables.{threads-none, threads-turn}
use borrow.Author.Rules.{rules}
use Rattle.extraction.proofs.filling.walk_first.Goals as goal

pub loop-i-init : goal.loop-i-init
loop-i-init c =
    let a = c.args in (
      search rules,
      threads-none a.sheet.now a.code.now a.sizes.now a.inputs a.registers a.plain.now a.later.now
          (filling a.e a.nodes.now a.rows.now),
    )

pub loop-i-preserved : goal.loop-i-preserved
loop-i-preserved c =
    let a = c.args in
    let l = c.loop-i in (
      omega arith,
      threads-turn a.sheet.now a.code.now a.sizes.now a.inputs a.registers a.plain.now a.later.now
          (filling a.e a.nodes.now a.rows.now) l.i l.invariant.1 c.both-written.ensures c.walk_thread-x.ensures,
    )

pub returns : goal.returns
returns c =
    let a = c.args in
    let l = c.loop-i in
    let e : l.i ≡ a.threads = omega arith in
    l.invariant.1
    ∙ ap
    (λ (n : ℕ). threads_below_at a.sheet.now a.code.now a.sizes.now a.inputs a.registers a.plain.now
    a.later.now n (filling a.e a.nodes.now a.rows.now)) e
