-- `sheet::bytes::read_name` meets its contract, test by test. Assumes nothing.
use native.Mathlib.Omega.{arith}
use borrow.Author.Tests.{lt-ltb, le-ltb}
use Rattle.sheet.specs.Expression.{variable_at}
use Rattle.sheet.specs.Parts.{byte_answer}
use Rattle.sheet.proofs.Reading.{byte-at, byte-end}
use Rattle.sheet.proofs.bytes.read_name.Goals as goal

pub returns-then-end-at : goal.returns-then-end-at
unfolding byte_answer variable_at
returns-then-end-at c =
    simp (byte-end c.args.sheet.now c.args.at c.if-end-at.true)

pub overflow_cast-v : goal.overflow_cast-v
overflow_cast-v c =
    omega (arith, c.shared_slice_known-1.given c.args.at)

pub returns-then-widths-v : goal.returns-then-widths-v
unfolding byte_answer variable_at
returns-then-widths-v c =
    simp (byte-at c.args.sheet.now c.args.at c.if-end-at.false, le-ltb _ _ c.if-widths-v.true)

pub returns : goal.returns
unfolding byte_answer variable_at
returns c =
    simp (byte-at c.args.sheet.now c.args.at c.if-end-at.false, lt-ltb _ _ c.if-widths-v.false)
