-- `workload::row_of` meets its contract. The loop's invariant: the numbers so far are stored. Assumes nothing.
use borrow.Author.Rules.{rules}
use Prim.Native.Nat.{ℕ, ◌+◌}
use mathlib.Core.Path.{◌≡◌, refl, ap, ◌∙◌}
use mathlib.Core.List.{List}
use native.Mathlib.Omega.{arith}
use lib.ListN.{get_or, set}
use Rattle.state.specs.Rows.{list_of}
use Rattle.state.proofs.Rows.{list_of-step, list_of-whole}
use Rattle.workload.specs.Workload.{row_of}
use Rattle.workload.proofs.row_of.Goals as goal

pub loop-k-init : goal.loop-k-init
unfolding list_of
loop-k-init c =
    (search rules, refl)

pub loop-k-preserved : goal.loop-k-preserved
loop-k-preserved c =
    let l = c.loop-k in
    let a = c.args in (
      search rules,
      rw (c.number_at.ensures, l.invariant.1) (list_of-step (λ v. get_or a.numbers.now (a.at + v) 0) _ l.k),
    )

pub returns : goal.returns
unfolding row_of
returns c =
    let l = c.loop-k in
    let a = c.args in
    let e : l.k ≡ 16 = omega arith in
    ap (λ (xs : List ℕ). set xs 0 a.first) (rw e at l.invariant.1 ∙ list_of-whole (λ v. get_or a.numbers.now (a.at + v) 0) _ 16 refl)
