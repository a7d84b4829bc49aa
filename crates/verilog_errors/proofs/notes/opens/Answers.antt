-- `verilog_errors::notes::opens` meets its contract. The loop's invariant: what is left of the word decides. Assumes nothing.
use borrow.Author.Rules.{rules}
use mathlib.Core.Path.{◌≡◌, refl, sym, ◌∙◌}
use Prim.Native.Nat.{◌-◌}
use lib.ListN.{length, take, drop}
use Rattle.verilog_errors.specs.Notes.{opens}
use Rattle.verilog_errors.proofs.Noting.{opens-none, opens-past, opens-short, opens-other, opens-same}
use Rattle.verilog_errors.proofs.notes.opens.Goals as goal

pub loop-i-init : goal.loop-i-init
loop-i-init c =
    refl

pub returns-then-left-eq0 : goal.returns-then-left-eq0
returns-then-left-eq0 c =
    c.is_blank.ensures
    ∙ opens-none c.args.word.now
    c.args.table.now c.loop-i.left
    c.loop-i.i c.loop-i.j c.if-left-eq0.true
    ∙ c.loop-i.invariant

pub returns-then-table-j : goal.returns-then-table-j
returns-then-table-j c =
    opens-short c.args.word.now
    c.args.table.now c.loop-i.left
    c.loop-i.i c.loop-i.j c.loop-i-test.true c.if-left-eq0.false
    c.if-table-j.true ∙ c.loop-i.invariant

pub returns-then-word-i : goal.returns-then-word-i
returns-then-word-i c =
    opens-other c.args.word.now
    c.args.table.now
    c.loop-i.left c.loop-i.i
    c.loop-i.j c.loop-i-test.true
    c.if-left-eq0.false c.if-table-j.false c.if-word-i.true
    ∙ c.loop-i.invariant

pub loop-i-preserved : goal.loop-i-preserved
loop-i-preserved c =
    opens-same c.args.word.now
    c.args.table.now
    c.loop-i.left c.loop-i.i
    c.loop-i.j c.loop-i-test.true
    c.if-left-eq0.false c.if-table-j.false c.if-word-i.false
    ∙ c.loop-i.invariant

pub returns : goal.returns
returns c =
    c.is_blank-2.ensures
    ∙ opens-past c.args.word.now
    c.args.table.now c.loop-i.left c.loop-i.i
    c.loop-i.j c.loop-i-test.false ∙ c.loop-i.invariant
