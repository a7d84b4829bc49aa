-- `verilog::print_functions` meets its contract. The loop's invariant: what is still to be printed gives the whole. Assumes nothing.
use mathlib.Core.Path.{refl, ◌∙◌}
use borrow.Author.Rules.{rules}
use Rattle.writing.specs.Buffer.{filled}
use Rattle.verilog.proofs.Printing.{definitions-start, definitions-turn, definitions-end}
use Rattle.verilog.proofs.print_functions.Goals as goal

pub loop-k-init : goal.loop-k-init
loop-k-init c =
    let a = c.args in (
      search rules,
      definitions-start a.sheet.now a.definitions.now a.n a.n a.at (filled a.text.now a.pos) refl,
    )

pub loop-k-preserved : goal.loop-k-preserved
loop-k-preserved c =
    let a = c.args in
    let l = c.loop-k in (
      search rules,
      definitions-turn a.sheet.now a.definitions.now a.n l.k l.next (filled l.text l.p)
          c.loop-k-test.true c.print_function-a.ensures
          ∙ l.invariant.1,
    )

pub returns : goal.returns
returns c =
    let a = c.args in
    let l = c.loop-k in
    definitions-end a.sheet.now a.definitions.now a.n l.k l.next
    (filled l.text l.p) c.loop-k-test.false
    ∙ l.invariant.1
