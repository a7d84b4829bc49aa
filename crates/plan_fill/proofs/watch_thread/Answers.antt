-- `plan_fill::watch_thread` meets its contract. The loop's invariant: the places below `p` are marked. Assumes nothing.
use borrow.Author.Rules.{rules}
use native.Mathlib.Omega.{arith}
use Rattle.plan_fill.specs.Filling.{watch_place}
use Rattle.plan_fill.proofs.Filling.{up_none, up_turn, up-end, place-watched}
use Rattle.plan_fill.proofs.watch_thread.Goals as goal

pub loop-p-init : goal.loop-p-init
loop-p-init c =
    let a = c.args in
    (search rules, up_none (watch_place a.sheet.now a.code.now a.i) a.watchers.now)

pub loop-p-preserved : goal.loop-p-preserved
loop-p-preserved c =
    let a = c.args in
    let l = c.loop-p in (
      omega arith,
      up_turn (watch_place a.sheet.now a.code.now a.i) a.watchers.now l.p l.invariant.1
          (place-watched a.sheet.now a.code.now a.i l.p l.watchers
          c.fetch.ensures c.watch_instr.ensures),
    )

pub returns : goal.returns
returns c =
    let a = c.args in
    up-end (watch_place a.sheet.now a.code.now a.i) a.watchers.now c.loop-p.invariant.1 (omega arith)
