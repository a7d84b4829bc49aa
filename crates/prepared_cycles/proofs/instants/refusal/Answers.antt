-- `prepared_cycles::instants::refusal` meets its contract, number by number. Assumes nothing.
use mathlib.Core.Path.{sym, ◌∙◌}
use Rattle.prepared_cycles.proofs.Going.{refused-misfit, refused-busy, refused_full, refused_none}
use Rattle.prepared_cycles.proofs.instants.refusal.Goals as goal

pub returns-then-not-inputs_fit : goal.returns-then-not-inputs_fit
returns-then-not-inputs_fit c cs ns ps counts allowances user =
    refused-misfit _ _ _ (sym c.inputs_fit.ensures ∙ c.if-not-inputs_fit.true)

pub returns-then-busy : goal.returns-then-busy
returns-then-busy c cs ns ps counts allowances user =
    refused-busy _ _ _ (sym c.inputs_fit.ensures ∙ c.if-not-inputs_fit.false)
    (sym (c.busy.ensures cs ns ps) ∙ c.if-busy.true)

pub returns-then-time-eq-FULL : goal.returns-then-time-eq-FULL
returns-then-time-eq-FULL c cs ns ps counts allowances user =
    refused_full _ _ _ (sym c.inputs_fit.ensures ∙ c.if-not-inputs_fit.false)
    (sym (c.busy.ensures cs ns ps) ∙ c.if-busy.false) c.if-time-eq-FULL.true

pub returns-else-time-eq-FULL : goal.returns-else-time-eq-FULL
returns-else-time-eq-FULL c cs ns ps counts allowances user =
    refused_none _ _ _ (sym c.inputs_fit.ensures ∙ c.if-not-inputs_fit.false)
    (sym (c.busy.ensures cs ns ps) ∙ c.if-busy.false) c.if-time-eq-FULL.false
