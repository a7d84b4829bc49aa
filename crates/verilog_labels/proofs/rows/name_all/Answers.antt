-- `verilog_labels::rows::name_all` meets its contract. The loop's invariant: what is still to be laid gives the whole.
-- Assumes nothing.
use borrow.Author.Rules.{rules}
use mathlib.Core.Path.{◌∙◌, refl}
use Prim.Native.Nat.{◌-◌}
use native.Mathlib.Omega.{arith}
use Rattle.verilog_labels.proofs.Laying.{Laying, laying-first, laying-in, laying-out, laying-last}
use Rattle.verilog_labels.proofs.rows.name_all.Goals.{then-roles-i, else-roles-i}
use Rattle.verilog_labels.proofs.rows.name_all.Goals as goal

pub loop-i-init : goal.loop-i-init
loop-i-init c =
    laying-first _ _ _ _ _ _ _ _

pub overflow_add-k : goal.overflow_add-k
overflow_add-k c =
    let l = c.loop-i.invariant.near in
    let p = c.requires in
    omega (arith, l, p.count_bound, p.from_bound)

pub loop-i-preserved : goal.loop-i-preserved
loop-i-preserved c =
    let l = c.loop-i.invariant in
    let h = c.loop-i-test.true in
    elim c.if-roles-i.branch [
      | then-roles-i w ↦
          laying-in _ _ _ _ _ _ _ _ l h w.if-roles-i.true (w.places-is ∙ w.put.ensures) refl w.length_at.ensures
          (w.lengths-is ∙ w.put-then-roles-i.ensures) w.k-is
      | else-roles-i w ↦ laying-out _ _ _ _ _ _ _ _ l h w.if-roles-i.false w.places-is w.lengths-is w.k-is
    ]

pub returns : goal.returns
returns c =
    let x = laying-last _ _ _ _ _ _ _ _ c.loop-i.invariant c.loop-i-test.false in
    record { value = x.0; places_after = x.1.0; lengths_after = x.1.1 }
