-- `plan_fill::watch_threads` meets its contract. The loop's invariant: the threads below `i` are marked. Assumes nothing.
use borrow.Author.Rules.{rules}
use native.Mathlib.Omega.{arith}
use mathlib.Core.Path.{◌∙◌}
use Rattle.tables.proofs.Readers.{min-at_most}
use Rattle.plan_fill.specs.Filling.{watch_thread}
use Rattle.plan_fill.proofs.Filling.{up_none, up_turn, up-end, thread-watched}
use Rattle.plan_fill.proofs.watch_threads.Goals as goal

pub loop-i-init : goal.loop-i-init
loop-i-init c =
    let a = c.args in
    (search rules, up_none (watch_thread a.sheet.now a.code.now a.sizes.now) a.watchers.now)

pub loop-i-preserved : goal.loop-i-preserved
loop-i-preserved c =
    let a = c.args in
    let l = c.loop-i in (
      omega arith,
      up_turn (watch_thread a.sheet.now a.code.now a.sizes.now) a.watchers.now l.i l.invariant.1
          (thread-watched a.sheet.now a.code.now a.sizes.now l.i l.watchers
          (c.min.ensures ∙ min-at_most _ _) c.watch_thread.ensures),
    )

pub returns : goal.returns
returns c =
    let a = c.args in
    up-end (watch_thread a.sheet.now a.code.now a.sizes.now) a.watchers.now c.loop-i.invariant.1 (omega arith)
