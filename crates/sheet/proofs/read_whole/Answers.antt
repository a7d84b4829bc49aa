-- `sheet::read_whole` meets its contract: each stage of the code is a law of proofs/Stages. Assumes nothing.
use Rattle.std.proofs.Common.{◌≡◌, ◌∙◌, ◌-◌, length, arith}
use Rattle.sheet.specs.Parts.{functions_answer, wires_answer}
use Rattle.sheet.specs.Reader.{head_read, functions_read, wires_read}
use Rattle.sheet.proofs.Stages.{head-stages, functions-stage, wires-stage, stages}
use Rattle.sheet.proofs.read_whole.Goals as goal

pub functions-all-requires : goal.functions-all-requires
functions-all-requires c =
    let head : c.widths-head.result ≡ head_read c.args.sheet.now =
    c.widths-head.ensures
    ∙ simp (c.moved.ensures, c.counts-counts.ensures, c.other_widths.ensures, c.over-start.ensures) (head-stages c.args.sheet.now) in
    simp (c.moved-2.ensures, c.over-start.ensures) head

pub wires-row-requires : goal.wires-row-requires
wires-row-requires c =
    let head : c.widths-head.result ≡ head_read c.args.sheet.now =
    c.widths-head.ensures
    ∙ simp (c.moved.ensures, c.counts-counts.ensures, c.other_widths.ensures, c.over-start.ensures) (head-stages c.args.sheet.now) in
    let defs : c.functions-all.result ≡ functions_answer (functions_read c.args.sheet.now) =
    c.functions-all.ensures ∙ simp (c.moved-2.ensures, c.head_end.ensures, head, c.over-start.ensures) (functions-stage c.args.sheet.now) in
    simp (c.moved-3.ensures, c.over-start.ensures) (head, defs)

pub threads-body-requires : goal.threads-body-requires
threads-body-requires c =
    let head : c.widths-head.result ≡ head_read c.args.sheet.now =
    c.widths-head.ensures
    ∙ simp (c.moved.ensures, c.counts-counts.ensures, c.other_widths.ensures, c.over-start.ensures) (head-stages c.args.sheet.now) in
    let defs : c.functions-all.result ≡ functions_answer (functions_read c.args.sheet.now) =
    c.functions-all.ensures ∙ simp (c.moved-2.ensures, c.head_end.ensures, head, c.over-start.ensures) (functions-stage c.args.sheet.now) in
    let wires : c.wires-row.result ≡ wires_answer (wires_read c.args.sheet.now) =
    c.wires-row.ensures ∙ simp (c.moved-3.ensures, c.functions_end.ensures, defs, c.over-start.ensures) (wires-stage c.args.sheet.now) in
    simp (c.moved-behind.ensures, c.over-start.ensures) (head, defs, wires)

pub returns : goal.returns
returns c =
    let head : c.widths-head.result ≡ head_read c.args.sheet.now =
    c.widths-head.ensures
    ∙ simp (c.moved.ensures, c.counts-counts.ensures, c.other_widths.ensures, c.over-start.ensures) (head-stages c.args.sheet.now) in
    let defs : c.functions-all.result ≡ functions_answer (functions_read c.args.sheet.now) =
    c.functions-all.ensures ∙ simp (c.moved-2.ensures, c.head_end.ensures, head, c.over-start.ensures) (functions-stage c.args.sheet.now) in
    let wires : c.wires-row.result ≡ wires_answer (wires_read c.args.sheet.now) =
    c.wires-row.ensures ∙ simp (c.moved-3.ensures, c.functions_end.ensures, defs, c.over-start.ensures) (wires-stage c.args.sheet.now) in
    let left : length c.args.sheet.now - 0 ≡ length c.args.sheet.now = omega arith in
    c.finished.ensures
    ∙ simp
    (c.threads-body.ensures, c.place.ensures, c.left.ensures, c.moved-behind.ensures, c.row_end.ensures, wires, defs, head, c.over-start.ensures, left)
    (stages c.args.sheet.now)
