-- `sheet::bytes::read_function` meets its contract, case by case. Assumes nothing.
use borrow.Author.Tests.{lt-ltb, le-ltb}
use Rattle.sheet.specs.Expression.{function_at}
use Rattle.sheet.specs.Parts.{byte_answer}
use Rattle.sheet.proofs.Reading.{byte-at, byte-end}
use Rattle.sheet.proofs.bytes.read_function.Goals as goal

pub returns-then-end-at : goal.returns-then-end-at
unfolding byte_answer function_at
returns-then-end-at c =
    λ i g ws fs e. simp (byte-end c.args.sheet.now c.args.at c.if-end-at.true)

pub returns-then-declared-n : goal.returns-then-declared-n
unfolding byte_answer function_at
returns-then-declared-n c =
    λ i g ws fs e.
    simp (byte-at c.args.sheet.now c.args.at c.if-end-at.false, le-ltb _ _ c.if-declared-n.true)

pub returns-then-callable-n : goal.returns-then-callable-n
unfolding byte_answer function_at
returns-then-callable-n c =
    λ i g ws fs e.
    rw e (simp (byte-at c.args.sheet.now c.args.at c.if-end-at.false, lt-ltb _ _ c.if-declared-n.false, le-ltb _ _ c.if-callable-n.true))

pub returns : goal.returns
unfolding byte_answer function_at
returns c =
    λ i g ws fs e.
    rw e (simp (byte-at c.args.sheet.now c.args.at c.if-end-at.false, lt-ltb _ _ c.if-declared-n.false, lt-ltb _ _ c.if-callable-n.false))
