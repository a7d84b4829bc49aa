-- `sheet::body::wires_after` meets its contract, case by case. Assumes nothing.
use mathlib.Core.Path.{◌∙◌, ap}
use native.Mathlib.Omega.{arith}
use Rattle.sheet.specs.Parts.{wires_answer}
use Rattle.sheet.proofs.Sections.{headed, head-refused, functions-read, functions-no}
use Rattle.sheet.proofs.Stages.{widths-bound, sheet-headed, stage-head, functions-none, wires-after-no, wires-after-head}
use Rattle.sheet.proofs.body.wires_after.Goals as goal

pub returns-in-Refused : goal.returns-in-Refused
returns-in-Refused c =
    wires-after-no _ _ (functions-no c.requires.1 c.in-Refused.is)

pub overflow_add-first : goal.overflow_add-first
overflow_add-first c =
    omega (arith, widths-bound _ c.widths_at-start.ensures)

pub overflow_add-first-in-Read : goal.overflow_add-first-in-Read
overflow_add-first-in-Read c =
    omega (arith, widths-bound _ c.widths_at-start.ensures)

pub overflow_add-first-in-Read-2 : goal.overflow_add-first-in-Read-2
overflow_add-first-in-Read-2 c =
    omega (arith, widths-bound _ c.widths_at-start.ensures)

pub slice_bounds-widths-end : goal.slice_bounds-widths-end
slice_bounds-widths-end c =
    let s = c.args.sheet.now in
    omega (arith, c.widths_at-start.ensures, (headed s (sheet-headed s (stage-head s c.requires.0 c.in-Read.is)).1).inside)

pub read_wires-requires : goal.read_wires-requires
read_wires-requires c =
    let s = c.args.sheet.now in
    (headed s (sheet-headed s (stage-head s c.requires.0 c.in-Read.is)).1).wires-most

pub returns-in-Refused-head : goal.returns-in-Refused-head
returns-in-Refused-head c =
    wires-after-no _ _ (functions-none _ (head-refused c.requires.0 c.in-Refused-head.is))

pub returns-in-Read : goal.returns-in-Read
returns-in-Read c =
    let s = c.args.sheet.now in
    let h = stage-head s c.requires.0 c.in-Read.is in
    let d = functions-read c.requires.1 c.in_default.is in
    c.read_wires.ensures ∙ ap wires_answer (wires-after-head s h (headed s (sheet-headed s h).1).functions-most d.read d.same c.widths_at-start.ensures _)
