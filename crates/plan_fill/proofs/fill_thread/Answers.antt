-- `plan_fill::fill_thread` meets its contract. The loop's invariant: the places below `p` are filled. Assumes nothing.
use borrow.Author.Rules.{rules}
use native.Mathlib.Omega.{arith}
use Rattle.plan_fill.specs.Filling.{filling, fill_place}
use Rattle.plan_fill.proofs.Filling.{up_none, up_turn, up-end, place-filled}
use Rattle.plan_fill.proofs.fill_thread.Goals as goal

pub loop-p-init : goal.loop-p-init
loop-p-init c =
    let a = c.args in
    (search rules, up_none (fill_place a.sheet.now a.code.now a.i) (filling a.first a.plan.now))

pub loop-p-preserved : goal.loop-p-preserved
loop-p-preserved c =
    let a = c.args in
    let l = c.loop-p in (
      omega arith,
      up_turn (fill_place a.sheet.now a.code.now a.i) (filling a.first a.plan.now) l.p l.invariant.1
          (place-filled a.sheet.now a.code.now a.i l.p (filling l.free l.plan)
          c.fetch.ensures c.fill_instr-free.ensures),
    )

pub returns : goal.returns
returns c =
    let a = c.args in
    up-end (fill_place a.sheet.now a.code.now a.i) (filling a.first a.plan.now)
    c.loop-p.invariant.1 (omega arith)
