-- `plan_fill::fill_sizes` meets its contract. The loop's invariant: the sizes below `i` are put. Assumes nothing.
use borrow.Author.Rules.{rules}
use native.Mathlib.Omega.{arith}
use mathlib.Core.Path.{◌∙◌}
use Rattle.tables.proofs.Readers.{min-at_most}
use Rattle.plan_fill.specs.Filling.{put_size, with_sizes}
use Rattle.plan_fill.proofs.Filling.{up_none, up_turn, up-end, size-put}
use Rattle.plan_fill.proofs.fill_sizes.Goals as goal

pub loop-i-init : goal.loop-i-init
loop-i-init c =
    (search rules, up_none (put_size c.args.sizes.now) c.args.plan.now)

pub loop-i-preserved : goal.loop-i-preserved
loop-i-preserved c =
    let a = c.args in
    let l = c.loop-i in (
      omega arith,
      up_turn (put_size a.sizes.now) a.plan.now l.i l.invariant.1
          (size-put a.sizes.now l.plan l.i (c.min.ensures ∙ min-at_most _ _)),
    )

pub returns : goal.returns
unfolding with_sizes
returns c =
    up-end (put_size c.args.sizes.now) c.args.plan.now c.loop-i.invariant.1 (omega arith)
