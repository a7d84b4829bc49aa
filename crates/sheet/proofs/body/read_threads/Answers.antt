-- `sheet::body::read_threads` meets its contract. What the threads from here on give is what all of them give. Assumes nothing.
use mathlib.Core.Path.{sym, ◌∙◌}
use native.Mathlib.Nat.{sub-zero}
use native.Mathlib.Omega.{arith}
use Rattle.sheet.specs.Expression.{located}
use Rattle.sheet.specs.Parts.{scope_of, outlines}
use Rattle.sheet.proofs.Answers.{stmt-read, stmt-refused}
use Rattle.sheet.proofs.Sections.{threads-done, threads-stmt, threads-long, threads_more}
use Rattle.sheet.proofs.body.read_threads.Goals as goal

pub loop-init : goal.loop-init
loop-init c =
    rw sub-zero

pub returns-in-Refused : goal.returns-in-Refused
returns-in-Refused c =
    threads-stmt _ _ _ _ _ _ c.loop-test.true (stmt-refused c.read_stmt-b.ensures c.in-Refused.is) ∙ sym c.loop.invariant

pub returns-then-size-ge256 : goal.returns-then-size-ge256
returns-then-size-ge256 c =
    let b = stmt-read c.read_stmt-b.ensures c.in-Read.is in
    threads-long _ _ _ _ _ _ c.loop-test.true b.read (omega arith) ∙ sym c.loop.invariant

pub loop-preserved : goal.loop-preserved
loop-preserved c =
    let b = stmt-read c.read_stmt-b.ensures c.in-Read.is in
    c.loop.invariant ∙ threads_more _ _ _ _ _ _ c.loop-test.true b.read (omega arith)

pub returns : goal.returns
returns c =
    threads-done (located c.args.sheet.now) (scope_of c.args.inputs c.args.registers c.args.widths.now c.args.declared (outlines c.args.sheet.now c.args.definitions.now c.args.declared)) c.args.sheet.now c.args.count c.loop.counter c.loop.place c.loop-test.false ∙ sym c.loop.invariant
