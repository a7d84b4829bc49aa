-- `stimulus::parse_name` meets its contract. Assumes nothing.
use native.Mathlib.Omega.{arith}
use mathlib.Core.Path.{sym, ap, ◌∙◌}
use Rattle.stimulus.specs.declared.Class.TheVariants.{Blank, Word}
use Rattle.stimulus.specs.Names.{name_after, number_in}
use Rattle.stimulus.proofs.Runs.{run-after, run_inside}
use Rattle.stimulus.proofs.Naming.{after-in, line-blank, line-named}
use Rattle.stimulus.proofs.parse_name.Goals as goal

pub overflow_add-result : goal.overflow_add-result
overflow_add-result c =
    let g = c.well_formed in
    let h = c.run_end-p.ensures in
    let i = run_inside Blank c.args.line.now 0 (omega arith) in
    record { fits = omega arith }

pub returns-then-at_end : goal.returns-then-at_end
returns-then-at_end c =
    let a = c.args in
    line-blank a.line.now a.inputs a.registers a.wires _ c.run_end-p.ensures
    (sym c.at_end.ensures ∙ c.if-at_end.true)

pub slice_bounds-word-count : goal.slice_bounds-word-count
slice_bounds-word-count c =
    let h = c.run_end-to.ensures in
    let i = run-after Word c.args.line.now c.run_end-p.result in
    omega arith

pub slice_bounds-word-start : goal.slice_bounds-word-start
slice_bounds-word-start c =
    let h = c.run_end-to.ensures in
    let i = run-after Word c.args.line.now c.run_end-p.result in
    omega arith

pub slice_bounds-word-end : goal.slice_bounds-word-end
slice_bounds-word-end c =
    let h = c.run_end-to.ensures in
    let e = c.run_end-p.ensures in
    let i = run_inside Blank c.args.line.now 0 (omega arith) in
    let j = run_inside Word c.args.line.now c.run_end-p.result (omega arith) in
    omega arith

pub name_after-requires : goal.name_after-requires
name_after-requires c =
    let h = c.run_end-to.ensures in
    let e = c.run_end-p.ensures in
    let i = run_inside Blank c.args.line.now 0 (omega arith) in
    let j = run_inside Word c.args.line.now c.run_end-p.result (omega arith) in
    (omega arith, omega arith)

pub returns : goal.returns
returns c =
    let a = c.args in
    c.name_after.ensures
    ∙ ap (λ v. name_after a.line.now c.run_end-p.result c.run_end-to.result (number_in v)) c.variable_of-v.ensures
    ∙ after-in _ _ _ _
    ∙ line-named a.line.now a.inputs a.registers a.wires _ c.run_end-p.ensures _ c.run_end-to.ensures
    (sym c.at_end.ensures ∙ c.if-at_end.false)
