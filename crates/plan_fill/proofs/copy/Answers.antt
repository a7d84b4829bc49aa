-- `plan_fill::copy` meets its contract. The loop's invariant: the words below `k` are put. Assumes nothing.
use borrow.Author.Rules.{rules}
use mathlib.Core.Path.{refl}
use native.Mathlib.Omega.{arith}
use Rattle.plan_fill.specs.Filling.{copy_word}
use Rattle.plan_fill.proofs.Filling.{up_none, up_turn, up-end}
use Rattle.plan_fill.proofs.copy.Goals as goal

pub loop-k-init : goal.loop-k-init
loop-k-init c =
    let a = c.args in
    (search rules, up_none (copy_word a.table.now a.base) a.plan.now)

pub loop-k-preserved : goal.loop-k-preserved
unfolding copy_word
loop-k-preserved c =
    let a = c.args in
    let l = c.loop-k in
    (omega arith, up_turn (copy_word a.table.now a.base) a.plan.now l.k l.invariant.1 refl)

pub returns : goal.returns
returns c =
    let a = c.args in
    up-end (copy_word a.table.now a.base) a.plan.now c.loop-k.invariant.1 (omega arith)
