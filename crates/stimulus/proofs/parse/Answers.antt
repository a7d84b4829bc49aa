-- `stimulus::parse` meets its contract. Assumes nothing.
use native.Mathlib.Omega.{arith}
use mathlib.Core.Path.{sym, ap, ◌∙◌}
use Rattle.stimulus.specs.declared.Class.TheVariants.{Blank}
use Rattle.stimulus.specs.Lines.{values_of}
use Rattle.stimulus.proofs.Runs.{run_inside, ended-not}
use Rattle.stimulus.proofs.Lines.{line-none, line-some, first-inside}
use Rattle.stimulus.proofs.parse.Goals as goal

pub overflow_add-result : goal.overflow_add-result
overflow_add-result c =
    let g = c.well_formed in
    let h = c.run_end-p.ensures in
    let i = run_inside Blank c.args.line.now 0 (omega arith) in
    record { fits = omega arith }

pub returns-then-at_end : goal.returns-then-at_end
returns-then-at_end c =
    let a = c.args in
    line-none a.line.now a.widths.now a.inputs _ c.run_end-p.ensures (sym c.at_end.ensures ∙ c.if-at_end.true)

pub first_place-from-requires : goal.first_place-from-requires
first_place-from-requires c =
    let h = c.run_end-p.ensures in
    let i = run_inside Blank c.args.line.now 0 (omega arith) in
    omega arith

pub read_values-requires : goal.read_values-requires
read_values-requires c =
    let a = c.args in
    let f = c.first_place-from.ensures in
    let i =
    first-inside a.line.now a.inputs c.run_end-p.result
    (ended-not a.line.now c.run_end-p.result (sym c.at_end.ensures ∙ c.if-at_end.false)) in
    omega arith

pub returns : goal.returns
returns c =
    let a = c.args in
    c.read_values.ensures
    ∙ ap (values_of a.line.now a.widths.now a.inputs) c.first_place-from.ensures
    ∙ line-some a.line.now a.widths.now a.inputs _ c.run_end-p.ensures (sym c.at_end.ensures ∙ c.if-at_end.false)
