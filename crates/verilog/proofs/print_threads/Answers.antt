-- `verilog::print_threads` meets its contract. The loop's invariant: what is still to be printed gives the whole. Assumes nothing.
use mathlib.Core.Path.{◌∙◌}
use borrow.Author.Rules.{rules}
use Rattle.writing.specs.Buffer.{filled}
use Rattle.naming.specs.Naming.{name_of}
use Rattle.verilog.proofs.Printing.{threads-start, threads-turn, threads_end}
use Rattle.verilog.proofs.print_threads.Goals as goal

pub loop-init : goal.loop-init
loop-init c =
    let a = c.args in (
      search rules,
      threads-start (name_of a.names.now) a.sheet.now a.definitions.now a.n a.at
          (filled a.text.now a.pos),
    )

pub loop-preserved : goal.loop-preserved
loop-preserved c =
    let a = c.args in
    let l = c.loop in (
      search rules,
      threads-turn (name_of a.names.now) a.sheet.now a.definitions.now a.n l.counter l.next (filled l.text l.p)
          c.loop-test.true c.print_thread-a.ensures
          ∙ l.invariant.1,
    )

pub returns : goal.returns
returns c =
    let a = c.args in
    let l = c.loop in
    threads_end (name_of a.names.now) a.sheet.now a.definitions.now a.n l.counter l.next (filled l.text l.p) c.loop-test.false
    ∙ l.invariant.1
