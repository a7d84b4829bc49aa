-- `driving::states::numbers_from` meets its contract. The loop's invariant: the elements so far are stored. Assumes nothing.
use Prim.Native.Nat.{◌+◌}
use mathlib.Core.Path.{◌≡◌, refl, ◌∙◌}
use native.Mathlib.Omega.{arith}
use borrow.Author.Rules.{rules}
use lib.ListN.{get_or}
use Rattle.state.specs.Rows.{list_of}
use Rattle.state.proofs.Rows.{list_of-step, list_of-whole}
use Rattle.driving.proofs.states.numbers_from.Goals as goal

pub loop-k-init : goal.loop-k-init
unfolding list_of
loop-k-init c =
    (search rules, refl)

pub loop-k-preserved : goal.loop-k-preserved
loop-k-preserved c =
    let l = c.loop-k in
    let a = c.args in (
      search rules,
      rw (c.number_at.ensures, l.invariant.1) (list_of-step (λ v. get_or a.numbers.now
          (a.from + v) 0) _ l.k),
    )

pub returns : goal.returns
returns c =
    let l = c.loop-k in
    let a = c.args in
    let e : l.k ≡ 32 = omega arith in
    rw e at l.invariant.1 ∙ list_of-whole (λ v. get_or a.numbers.now (a.from + v) 0) _ 32 refl
