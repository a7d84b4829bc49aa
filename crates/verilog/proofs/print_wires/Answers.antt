-- `verilog::print_wires` meets its contract. The loop's invariant: what is still to be printed gives the whole. Assumes nothing.
use Prim.Native.Nat.{◌+◌}
use mathlib.Core.Path.{◌∙◌}
use borrow.Author.Rules.{rules}
use Rattle.writing.specs.Buffer.{filled}
use Rattle.naming.specs.Naming.{name_of}
use Rattle.verilog.proofs.Printing.{wires-start, wires-turn, wires-end}
use Rattle.verilog.proofs.print_wires.Goals as goal

pub loop-k-init : goal.loop-k-init
loop-k-init c =
    let a = c.args in (
      search rules,
      wires-start (name_of a.names.now) a.sheet.now a.definitions.now a.n a.first a.at
          (filled a.text.now a.pos),
    )

pub loop-k-preserved : goal.loop-k-preserved
loop-k-preserved c =
    let a = c.args in
    let l = c.loop-k in (
      search rules,
      wires-turn (name_of a.names.now) a.sheet.now a.definitions.now a.n l.k a.first l.next (filled l.text l.p)
          c.loop-k-test.true c.print_wire-w.ensures
          ∙ l.invariant.1,
    )

pub returns : goal.returns
returns c =
    let a = c.args in
    let l = c.loop-k in
    wires-end (name_of a.names.now) a.sheet.now a.definitions.now a.n l.k (a.first + l.k) l.next (filled l.text l.p)
    c.loop-k-test.false
    ∙ l.invariant.1
