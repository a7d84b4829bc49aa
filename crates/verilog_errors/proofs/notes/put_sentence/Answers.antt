-- `verilog_errors::notes::put_sentence` meets its contract. The loop's invariant: the lines that are left give the sentence. Assumes nothing.
use borrow.Author.Rules.{rules}
use mathlib.Core.Path.{◌≡◌, refl, sym, ap, ◌∙◌}
use Prim.Native.Nat.{◌+◌, ◌-◌}
use native.Mathlib.Omega.{arith}
use lib.ListN.{take, drop}
use Rattle.writing.specs.Buffer.{filled, puts}
use Rattle.verilog_errors.specs.Notes.{sentence_by}
use Rattle.verilog_errors.proofs.Noting.{sentence-none, sentence-hit, sentence-miss}
use Rattle.verilog_errors.proofs.notes.put_sentence.Goals as goal

pub loop-init : goal.loop-init
loop-init c =
    refl

pub returns-then-opens : goal.returns-then-opens
returns-then-opens c =
    let w = take c.args.n c.args.word.now in
    let l = drop c.loop.from c.args.table.now in
    c.put_rest.ensures
    ∙ ap (puts (filled c.loop.out c.args.pos))
    (sentence-hit w l (64 - c.loop.counter) (omega (arith, c.loop-test.true)) (sym c.opens.ensures ∙ c.if-opens.true))
    ∙ c.loop.invariant

pub loop-preserved : goal.loop-preserved
loop-preserved c =
    let w = take c.args.n c.args.word.now in
    let l = drop c.loop.from c.args.table.now in
    let less : 64 - (c.loop.counter + 1) ≡ 64 - c.loop.counter - 1 = omega arith in
    rw less
    (ap (puts (filled c.loop.out c.args.pos))
    (sentence-miss w l (64 - c.loop.counter) (omega (arith, c.loop-test.true)) (sym c.opens.ensures ∙ c.if-opens.false) _ c.next_line-from.ensures)
    ∙ c.loop.invariant)

pub returns : goal.returns
returns c =
    let w = take c.args.n c.args.word.now in
    let l = drop c.loop.from c.args.table.now in
    sentence-none w l (64 - c.loop.counter) (filled c.loop.out c.args.pos) (omega (arith, c.loop-test.false))
    ∙ c.loop.invariant
