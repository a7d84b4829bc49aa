-- `plan_fitting::state_fits` meets its contract: the first part of 31 that fails decides. Assumes nothing.
use borrow.Author.Tests.{not-true, not-false}
use mathlib.Core.Path.{sym, ap, ◌∙◌}
use native.Mathlib.Omega.{arith}
use Rattle.plan.specs.Plan.{plan_of}
use Rattle.plan_fitting.specs.Fitting.{none_past, plan_fits}
use Rattle.plan_fitting.proofs.Judged.{values-judged, past-judged, inputs-byte, registers-byte, wires-byte}
use borrow.Author.Rules.{rules}
use Rattle.plan_fitting.proofs.state_fits.Goals as goal

pub overflow_add-n : goal.overflow_add-n
overflow_add-n c =
    let ws = c.args.plan.now in
    omega (arith, c.inputs.ensures, c.registers.ensures, inputs-byte ws, registers-byte ws)

pub overflow_add-n-2 : goal.overflow_add-n-2
overflow_add-n-2 c =
    let ws = c.args.plan.now in
    omega (arith, c.inputs.ensures, c.registers.ensures, c.wires.ensures, inputs-byte ws, registers-byte ws, wires-byte ws)

pub returns-then-not-values_fit : goal.returns-then-not-values_fit
unfolding plan_fits
returns-then-not-values_fit c =
    let p = c.args in
    rw (values-judged (plan_of p.plan.now) p.st c.inputs.ensures c.registers.ensures c.wires.ensures c.values_fit.ensures (c.if-not-values_fit.true))

pub returns-then-not-slots_fit : goal.returns-then-not-slots_fit
unfolding plan_fits
returns-then-not-slots_fit c =
    let p = c.args in
    rw (
      values-judged (plan_of p.plan.now) p.st c.inputs.ensures c.registers.ensures c.wires.ensures c.values_fit.ensures (c.if-not-values_fit.false),
      sym c.slots_fit.ensures ∙ (c.if-not-slots_fit.true),
    )

pub returns-then-not-places_fit : goal.returns-then-not-places_fit
unfolding plan_fits
returns-then-not-places_fit c =
    let p = c.args in
    rw (
      values-judged (plan_of p.plan.now) p.st c.inputs.ensures c.registers.ensures c.wires.ensures c.values_fit.ensures (c.if-not-values_fit.false),
      sym c.slots_fit.ensures ∙ (c.if-not-slots_fit.false),
      sym c.places_fit.ensures ∙ (c.if-not-places_fit.true),
    )

pub returns-then-not-none_past : goal.returns-then-not-none_past
unfolding plan_fits
returns-then-not-none_past c =
    let p = c.args in
    rw (
      values-judged (plan_of p.plan.now) p.st c.inputs.ensures c.registers.ensures c.wires.ensures c.values_fit.ensures (c.if-not-values_fit.false),
      sym c.slots_fit.ensures ∙ (c.if-not-slots_fit.false),
      sym c.places_fit.ensures ∙ (c.if-not-places_fit.false),
      past-judged p.st.due c.wires-2.ensures c.none_past.ensures (c.if-not-none_past.true),
    )

pub returns-then-not-none_past-2 : goal.returns-then-not-none_past-2
unfolding plan_fits
returns-then-not-none_past-2 c =
    let p = c.args in
    rw (
      values-judged (plan_of p.plan.now) p.st c.inputs.ensures c.registers.ensures c.wires.ensures c.values_fit.ensures (c.if-not-values_fit.false),
      sym c.slots_fit.ensures ∙ (c.if-not-slots_fit.false),
      sym c.places_fit.ensures ∙ (c.if-not-places_fit.false),
      past-judged p.st.due c.wires-2.ensures c.none_past.ensures (c.if-not-none_past.false),
      past-judged p.st.held c.registers-2.ensures c.none_past-2.ensures (c.if-not-none_past-2.true),
    )

pub returns : goal.returns
unfolding plan_fits
returns c =
    let p = c.args in
    rw (
      values-judged (plan_of p.plan.now) p.st c.inputs.ensures c.registers.ensures c.wires.ensures c.values_fit.ensures (c.if-not-values_fit.false),
      sym c.slots_fit.ensures ∙ (c.if-not-slots_fit.false),
      sym c.places_fit.ensures ∙ (c.if-not-places_fit.false),
      past-judged p.st.due c.wires-2.ensures c.none_past.ensures (c.if-not-none_past.false),
      past-judged p.st.held c.registers-2.ensures c.none_past-2.ensures (c.if-not-none_past-2.false),
    )
    c.counts_fit.ensures
