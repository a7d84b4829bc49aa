-- `sheet::functions::read_function` meets its contract: each way through the code is a law of proofs/Bodies. Assumes nothing.
use mathlib.Core.Path.{◌∙◌}
use native.Mathlib.Omega.{arith}
use mathlib.Core.List.{[]}
use Rattle.sheet.proofs.Reading.{within-ok}
use Rattle.sheet.proofs.Answers.{byte-read, byte-refused}
use Rattle.sheet.proofs.Sections.{widths-read, widths-no}
use Rattle.sheet.proofs.Bodies.{function-count, function-widths, widths-inside, function-made}
use Rattle.sheet.proofs.functions.read_function.Goals as goal

pub returns-in-Refused : goal.returns-in-Refused
returns-in-Refused c =
    function-count _ _ _ _ (byte-refused c.read_within.ensures c.in-Refused.is)

pub overflow_add-first : goal.overflow_add-first
overflow_add-first c =
    let w = within-ok _ _ _ _ _ (byte-read c.read_within.ensures c.in-Byte.is) in
    omega (arith, w.below)

pub overflow_add-last : goal.overflow_add-last
overflow_add-last c =
    let w = within-ok _ _ _ _ _ (byte-read c.read_within.ensures c.in-Byte.is) in
    omega (arith, w.below)

pub overflow_add-last-2 : goal.overflow_add-last-2
overflow_add-last-2 c =
    let w = within-ok _ _ _ _ _ (byte-read c.read_within.ensures c.in-Byte.is) in
    omega (arith, w.below, w.most)

pub returns-in-Refused-read_widths : goal.returns-in-Refused-read_widths
returns-in-Refused-read_widths c =
    let k = byte-read c.read_within.ensures c.in-Byte.is in
    function-widths _ _ _ _ k (widths-no c.read_widths.ensures c.in-Refused-read_widths.is)

pub slice_bounds-widths-end : goal.slice_bounds-widths-end
slice_bounds-widths-end c =
    let k = byte-read c.read_within.ensures c.in-Byte.is in
    omega (arith, widths-inside 0 [] _ _ k (widths-read c.read_widths.ensures c.in_default.is).1)

pub returns : goal.returns
returns c =
    let k = byte-read c.read_within.ensures c.in-Byte.is in
    c.read_body.ensures ∙ function-made _ _ _ _ k (widths-read c.read_widths.ensures c.in_default.is).1
