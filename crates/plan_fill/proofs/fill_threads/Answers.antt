-- `plan_fill::fill_threads` meets its contract. The loop's invariant: the threads below `i` are filled. Assumes nothing.
use borrow.Author.Rules.{rules}
use native.Mathlib.Omega.{arith}
use Rattle.tables.proofs.Readers.{min-at_most}
use mathlib.Core.Path.{◌∙◌}
use Rattle.plan_fill.specs.Filling.{filling, fill_thread}
use Rattle.plan_fill.proofs.Filling.{up_none, up_turn, up-end, thread-filled}
use Rattle.plan_fill.proofs.fill_threads.Goals as goal

pub loop-i-init : goal.loop-i-init
loop-i-init c =
    let a = c.args in
    (search rules, up_none (fill_thread a.sheet.now a.code.now a.sizes.now) (filling a.first a.plan.now))

pub loop-i-preserved : goal.loop-i-preserved
loop-i-preserved c =
    let a = c.args in
    let l = c.loop-i in (
      omega arith,
      up_turn (fill_thread a.sheet.now a.code.now a.sizes.now) (filling a.first a.plan.now) l.i
          l.invariant.1
          (thread-filled a.sheet.now a.code.now a.sizes.now l.i (filling l.free l.plan)
          (c.min.ensures ∙ min-at_most _ _) c.fill_thread-free.ensures),
    )

pub returns : goal.returns
returns c =
    let a = c.args in
    up-end (fill_thread a.sheet.now a.code.now a.sizes.now) (filling a.first a.plan.now)
    c.loop-i.invariant.1 (omega arith)
