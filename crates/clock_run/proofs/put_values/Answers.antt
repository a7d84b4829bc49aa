-- `clock_run::put_values` meets its contract. The loop: the values so far put. Assumes nothing.
use mathlib.Core.Path.{◌≡◌}
use native.Mathlib.Omega.{arith}
use Rattle.clock_run.proofs.Turns.{values-none, values-more}
use Rattle.clock_run.proofs.put_values.Goals as goal

pub loop-v-init : goal.loop-v-init
loop-v-init c =
    let a = c.args in
    (omega arith, values-none a.value.now a.unknown.now a.first a.at _)

pub loop-v-preserved : goal.loop-v-preserved
loop-v-preserved c =
    let a = c.args in (
      omega arith,
      values-more a.value.now a.unknown.now a.first a.at _ _ c.loop-v.invariant.1 c.value_at.ensures c.store-a.ensures
          c.put_cell.ensures,
    )

pub returns : goal.returns
returns c =
    let e : c.loop-v.v ≡ c.args.n = omega arith in
    rw e at c.loop-v.invariant.1
