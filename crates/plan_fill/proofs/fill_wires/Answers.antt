-- `plan_fill::fill_wires` meets its contract. The loop's invariant: the wires below `k` are laid out. Assumes nothing.
use borrow.Author.Rules.{rules}
use native.Mathlib.Omega.{arith}
use Rattle.plan_fill.specs.Filling.{filling, fill_wire}
use Rattle.plan_fill.proofs.Filling.{up_none, up_turn, up-end}
use Rattle.plan_fill.proofs.fill_wires.Goals as goal

pub loop-k-init : goal.loop-k-init
loop-k-init c =
    let a = c.args in
    (search rules, up_none (fill_wire a.sheet.now a.starts.now) (filling 80 a.plan.now))

pub loop-k-preserved : goal.loop-k-preserved
loop-k-preserved c =
    let a = c.args in
    let l = c.loop-k in (
      omega arith,
      up_turn (fill_wire a.sheet.now a.starts.now) (filling 80 a.plan.now) l.k l.invariant.1
          c.fill_wire-free.ensures,
    )

pub returns : goal.returns
returns c =
    let a = c.args in
    up-end (fill_wire a.sheet.now a.starts.now) (filling 80 a.plan.now)
    c.loop-k.invariant.1 (omega arith)
