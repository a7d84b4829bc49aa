-- `verilog_names::numbers::number` meets its contract. The loop's invariant: what is still to be stored gives the whole.
-- Assumes nothing.
use mathlib.Core.Path.{refl, ◌∙◌}
use native.Mathlib.Omega.{arith}
use Rattle.verilog_names.proofs.Chosen.{capped-kept, min-capped}
use Rattle.verilog_names.proofs.Numbering.{numbers-all, numbers-turn, numbers-over, count_fits}
use Rattle.verilog_names.proofs.Entering.{by-id, counted-all}
use Rattle.verilog_names.proofs.numbers.number.Goals as goal

pub count_of-inputs-requires : goal.count_of-inputs-requires
count_of-inputs-requires c =
    capped-kept _ _ (c.min-n.ensures ∙ min-capped _)

pub count_of-registers-requires : goal.count_of-registers-requires
count_of-registers-requires c =
    capped-kept _ _ (c.min-n.ensures ∙ min-capped _)

pub overflow_add-all : goal.overflow_add-all
overflow_add-all c =
    let few = capped-kept _ _ (c.min-n.ensures ∙ min-capped _) in
    omega (arith, count_fits _ _ _ _ c.count_of-inputs.ensures few, count_fits _ _ _ _ c.count_of-registers.ensures few)

pub count_of-requires : goal.count_of-requires
count_of-requires c =
    capped-kept _ _ (c.min-n.ensures ∙ min-capped _)

pub overflow_add-all-2 : goal.overflow_add-all-2
overflow_add-all-2 c =
    let few = capped-kept _ _ (c.min-n.ensures ∙ min-capped _) in
    omega (
      arith,
      count_fits _ _ _ _ c.count_of-inputs.ensures few,
      count_fits _ _ _ _ c.count_of-registers.ensures few,
      count_fits _ _ _ _ c.count_of.ensures few,
    )

pub enter-requires : goal.enter-requires
enter-requires c =
    let few = capped-kept _ _ (c.min-n.ensures ∙ min-capped _) in
    (record { count_bound = few; all_value = counted-all _ _ _ _ _ c.count_of-inputs.ensures c.count_of-registers.ensures c.count_of.ensures })

pub loop-i-init : goal.loop-i-init
loop-i-init c =
    numbers-all _ _ _ _ _

pub number_at-requires : goal.number_at-requires
number_at-requires c =
    let few = capped-kept _ _ (c.min-n.ensures ∙ min-capped _) in
    let whole = counted-all _ _ _ _ _ c.count_of-inputs.ensures c.count_of-registers.ensures c.count_of.ensures in record { count_bound = few; inputs_value = c.count_of-inputs.ensures; registers_value = c.count_of-registers.ensures; table_value = by-id _ _ _ _ _ _ c.up_to-table.ensures whole c.enter.ensures; i_bound = omega (arith, few, c.loop-i-test.true) }

pub offset_bounds-out-i : goal.offset_bounds-out-i
offset_bounds-out-i c =
    omega (arith, capped-kept _ _ (c.min-n.ensures ∙ min-capped _), c.loop-i-test.true)

pub bounds-out-i : goal.bounds-out-i
bounds-out-i c =
    omega (arith, capped-kept _ _ (c.min-n.ensures ∙ min-capped _), c.loop-i-test.true)

pub loop-i-preserved : goal.loop-i-preserved
loop-i-preserved c =
    numbers-turn _ _ _ _ _ _ _ _ _ c.loop-i-test.true c.number_at.ensures refl
    c.loop-i.invariant

pub returns : goal.returns
returns c =
    numbers-over _ _ _ _ _ _ _ _ c.loop-i-test.false (c.min-n.ensures ∙ min-capped _) c.loop-i.invariant
