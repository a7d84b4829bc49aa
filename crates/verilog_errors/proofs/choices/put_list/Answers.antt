-- `verilog_errors::choices::put_list` meets its contract. The loop's invariant: the rows that are left give the whole. Assumes nothing.
use borrow.Author.Rules.{rules}
use mathlib.Core.Path.{◌≡◌, refl, sym, ◌∙◌}
use mathlib.Core.Bool.{true}
use Prim.Native.Nat.{◌-◌}
use Rattle.writing.specs.Buffer.{filled, puts}
use Rattle.verilog_errors.specs.Choices.{could_row, choices_from}
use Rattle.verilog_errors.proofs.Choosing.{rows-over, rows-turn}
use Rattle.verilog_errors.proofs.choices.put_list.Goals as goal

pub loop-n-init : goal.loop-n-init
loop-n-init c =
    refl

pub loop-n-preserved : goal.loop-n-preserved
unfolding could_row
loop-n-preserved c =
    rows-turn (could_row c.args.kinds
    c.args.numbers
    c.args.count
    c.args.at)
    c.loop-n.n c.loop-n.first
    (filled c.loop-n.out
    c.loop-n.p) c.loop-n-test.true _ _
    (rw c.kind_of.ensures at c.could_stand-could.ensures)
    c.still-first.ensures _ c.put_row-p.ensures
    ∙ c.loop-n.invariant

pub returns : goal.returns
returns c =
    rows-over
    (could_row c.args.kinds c.args.numbers c.args.count
    c.args.at) c.loop-n.n c.loop-n.first (filled c.loop-n.out c.loop-n.p)
    c.loop-n-test.false ∙ c.loop-n.invariant
