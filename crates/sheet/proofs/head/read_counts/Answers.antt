-- `sheet::head::read_counts` meets its contract: each way through the code is a law of proofs/Stages. Assumes nothing.
use mathlib.Core.Path.{◌∙◌}
use native.Mathlib.Omega.{arith}
use Rattle.sheet.proofs.Reading.{within-ok}
use Rattle.sheet.proofs.Answers.{byte-read, byte-refused}
use Rattle.sheet.proofs.Sections.{first-ok}
use Rattle.sheet.proofs.Stages.{counts-long, counts-inputs, counts-registers, counts-wires, counts-threads, counts-made}
use Rattle.sheet.proofs.head.read_counts.Goals as goal

pub returns-then-sheet-gt8192 : goal.returns-then-sheet-gt8192
returns-then-sheet-gt8192 c =
    counts-long _ _ c.if-sheet-gt8192.true

pub returns-in-Refused : goal.returns-in-Refused
returns-in-Refused c =
    counts-inputs _ _ c.if-sheet-gt8192.false (byte-refused c.read_first.ensures c.in-Refused.is)

pub overflow_add-at : goal.overflow_add-at
overflow_add-at c =
    let x = (first-ok _ _ (byte-read c.read_first.ensures c.in-Byte.is)).0 in
    omega (arith, x, c.if-sheet-gt8192.false)

pub returns-in-Refused-read_within : goal.returns-in-Refused-read_within
returns-in-Refused-read_within c =
    let i = byte-read c.read_first.ensures c.in-Byte.is in
    counts-registers _ _ c.if-sheet-gt8192.false i (byte-refused c.read_within.ensures c.in-Refused-read_within.is)

pub overflow_add-at-2 : goal.overflow_add-at-2
overflow_add-at-2 c =
    let x = (within-ok _ _ _ _ _ (byte-read c.read_within.ensures c.in-Byte-read_within.is)).below in
    omega (arith, x, c.if-sheet-gt8192.false)

pub returns-in-Refused-read_within-2 : goal.returns-in-Refused-read_within-2
returns-in-Refused-read_within-2 c =
    let i = byte-read c.read_first.ensures c.in-Byte.is in
    let r = byte-read c.read_within.ensures c.in-Byte-read_within.is in
    counts-wires _ _ c.if-sheet-gt8192.false i r (byte-refused c.read_within-2.ensures c.in-Refused-read_within-2.is)

pub overflow_add-at-3 : goal.overflow_add-at-3
overflow_add-at-3 c =
    let x = (within-ok _ _ _ _ _ (byte-read c.read_within-2.ensures c.in-Byte-read_within-2.is)).below in
    omega (arith, x, c.if-sheet-gt8192.false)

pub returns-in-Refused-read_within-3 : goal.returns-in-Refused-read_within-3
returns-in-Refused-read_within-3 c =
    let i = byte-read c.read_first.ensures c.in-Byte.is in
    let r = byte-read c.read_within.ensures c.in-Byte-read_within.is in
    let w = byte-read c.read_within-2.ensures c.in-Byte-read_within-2.is in
    counts-threads _ _ c.if-sheet-gt8192.false i r w (byte-refused c.read_within-3.ensures c.in-Refused-read_within-3.is)

pub read_clock-requires : goal.read_clock-requires
read_clock-requires c =
    let x = (first-ok _ _ (byte-read c.read_first.ensures c.in-Byte.is)).0 in
    x

pub returns : goal.returns
returns c =
    let i = byte-read c.read_first.ensures c.in-Byte.is in
    let r = byte-read c.read_within.ensures c.in-Byte-read_within.is in
    let w = byte-read c.read_within-2.ensures c.in-Byte-read_within-2.is in
    let t = byte-read c.read_within-3.ensures c.in-Byte-read_within-3.is in
    c.read_clock.ensures ∙ counts-made _ _ c.if-sheet-gt8192.false i r w t
