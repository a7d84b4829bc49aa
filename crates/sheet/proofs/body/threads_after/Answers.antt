-- `sheet::body::threads_after` meets its contract, case by case. Assumes nothing.
use mathlib.Core.Path.{◌∙◌, ap}
use native.Mathlib.Omega.{arith}
use Rattle.sheet.specs.Parts.{place_answer}
use Rattle.sheet.proofs.Sections.{headed, head-refused, wires-read, wires-no}
use Rattle.sheet.proofs.Stages.{widths-bound, sheet-headed, stage-head, functions-none, wires-told, definitions-same, threads-after-row, threads-after-no, threads-after-head}
use Rattle.sheet.proofs.body.threads_after.Goals as goal

pub returns-in-Refused : goal.returns-in-Refused
returns-in-Refused c =
    threads-after-row _ _ (wires-no c.requires.2 c.in-Refused.is)

pub overflow_add-first : goal.overflow_add-first
overflow_add-first c =
    omega (arith, widths-bound _ c.widths_at-start.ensures)

pub overflow_add-first-in-Read : goal.overflow_add-first-in-Read
overflow_add-first-in-Read c =
    omega (arith, widths-bound _ c.widths_at-start.ensures)

pub overflow_add-first-in-Read-2 : goal.overflow_add-first-in-Read-2
overflow_add-first-in-Read-2 c =
    omega (arith, widths-bound _ c.widths_at-start.ensures)

pub slice_bounds-widths-end : goal.slice_bounds-widths-end
slice_bounds-widths-end c =
    let s = c.args.sheet.now in
    omega (arith, c.widths_at-start.ensures, (headed s (sheet-headed s (stage-head s c.requires.0 c.in-Read.is)).1).inside)

pub returns-in-Refused-head : goal.returns-in-Refused-head
returns-in-Refused-head c =
    threads-after-no _ _ (functions-none _ (head-refused c.requires.0 c.in-Refused-head.is))

pub returns-in-Read : goal.returns-in-Read
returns-in-Read c =
    let s = c.args.sheet.now in
    let h = stage-head s c.requires.0 c.in-Read.is in
    let row = wires-read c.requires.2 c.in_default.is in
    let d = wires-told s row.read in
    c.read_threads.ensures ∙ ap place_answer (threads-after-head s h (headed s (sheet-headed s h).1).functions-most d.1 (definitions-same c.requires.1 d.1) c.widths_at-start.ensures _ row.read)
