-- `stimulus::take_value` meets its contract. Assumes nothing.
use native.Mathlib.Omega.{arith}
use mathlib.Core.Path.{sym, ◌∙◌}
use Rattle.stimulus.specs.declared.Class.TheVariants.{Word}
use Rattle.stimulus.proofs.Runs.{run-after, run_inside}
use Rattle.stimulus.proofs.Lines.{taken_none, taken-empty, taken_word}
use Rattle.stimulus.proofs.take_value.Goals as goal

pub no_value-requires : goal.no_value-requires
no_value-requires c =
    let g = c.well_formed in
    let h = c.requires in
    omega arith

pub returns-then-at_end : goal.returns-then-at_end
returns-then-at_end c =
    c.no_value.ensures ∙ taken_none _ _ _ (sym c.at_end.ensures ∙ c.if-at_end.true)

pub no_value-requires-then-byte_at-eq44 : goal.no_value-requires-then-byte_at-eq44
no_value-requires-then-byte_at-eq44 c =
    let g = c.well_formed in
    let h = c.requires in
    omega arith

pub returns-then-byte_at-eq44 : goal.returns-then-byte_at-eq44
returns-then-byte_at-eq44 c =
    c.no_value-then-byte_at-eq44.ensures
    ∙ taken-empty _ _ _ (sym c.at_end.ensures ∙ c.if-at_end.false) (sym c.byte_at.ensures ∙ c.if-byte_at-eq44.true)

pub slice_bounds-word-count : goal.slice_bounds-word-count
slice_bounds-word-count c =
    let h = c.run_end-to.ensures in
    let i = run-after Word c.args.line.now c.args.p in
    omega arith

pub slice_bounds-word-start : goal.slice_bounds-word-start
slice_bounds-word-start c =
    let h = c.run_end-to.ensures in
    let i = run-after Word c.args.line.now c.args.p in
    omega arith

pub slice_bounds-word-end : goal.slice_bounds-word-end
slice_bounds-word-end c =
    let h = c.run_end-to.ensures in
    let j = run_inside Word c.args.line.now c.args.p c.requires in
    omega arith

pub overflow_add-result : goal.overflow_add-result
overflow_add-result c =
    let g = c.well_formed in
    let h = c.requires in
    record { fits = omega arith }

pub returns : goal.returns
returns c =
    taken_word _ _ _ (sym c.at_end.ensures ∙ c.if-at_end.false) _ _ (λ e. c.if-byte_at-eq44.false (c.byte_at.ensures ∙ e))
    c.run_end-to.ensures c.entry_of-e.ensures
