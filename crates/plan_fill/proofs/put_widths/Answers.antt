-- `plan_fill::put_widths` meets its contract. The loop's invariant: the widths below `v` are put. Assumes nothing.
use borrow.Author.Rules.{rules}
use native.Mathlib.Omega.{arith}
use Rattle.plan_fill.specs.Filling.{put_width}
use Rattle.plan_fill.proofs.Filling.{up_none, up_turn, up-end, width-put}
use Rattle.plan_fill.proofs.put_widths.Goals as goal

pub loop-v-init : goal.loop-v-init
loop-v-init c =
    (search rules, up_none (put_width c.args.sheet.now c.args.at) c.args.plan.now)

pub loop-v-preserved : goal.loop-v-preserved
loop-v-preserved c =
    let a = c.args in
    let l = c.loop-v in (
      omega arith,
      up_turn (put_width a.sheet.now a.at) a.plan.now l.v l.invariant.1
          (width-put a.sheet.now a.at l.plan l.v c.byte_at.ensures),
    )

pub returns : goal.returns
returns c =
    up-end (put_width c.args.sheet.now c.args.at) c.args.plan.now c.loop-v.invariant.1 (omega arith)
