-- `sheet::head::read_clock` meets its contract: each way through the code is a law of proofs/Stages. Assumes nothing.
use native.Mathlib.Omega.{arith}
use Rattle.sheet.proofs.Answers.{byte-read, byte-refused}
use Rattle.sheet.proofs.Stages.{widths-bound, clock-count, clock-width, clock-made}
use Rattle.sheet.proofs.head.read_clock.Goals as goal

pub returns-in-Refused : goal.returns-in-Refused
returns-in-Refused c =
    clock-count _ _ _ _ _ _ (byte-refused c.read_function_count.ensures c.in-Refused.is)

pub overflow_add-at-2 : goal.overflow_add-at-2
overflow_add-at-2 c =
    omega (arith, widths-bound _ c.widths_at.ensures, c.requires)

pub returns-in-Refused-read_within : goal.returns-in-Refused-read_within
returns-in-Refused-read_within c =
    let f = byte-read c.read_function_count.ensures c.in-Byte.is in
    clock-width _ _ _ _ _ _ f c.widths_at.ensures (byte-refused c.read_within.ensures c.in-Refused-read_within.is)

pub returns : goal.returns
returns c =
    let f = byte-read c.read_function_count.ensures c.in-Byte.is in
    clock-made _ _ _ _ _ _ f c.widths_at.ensures (byte-read c.read_within.ensures c.in_default.is) c.inputs_of.ensures
