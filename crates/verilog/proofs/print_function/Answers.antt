-- `verilog::print_function` meets its contract: its names are those of a module with its parameters and one register. Assumes nothing.
use mathlib.Core.Path.{refl, ◌∙◌}
use lib.ListN.{length-replicate}
use Prim.Native.Nat.{ℕ}
use Rattle.writing.specs.Ascii.{ascii}
use Rattle.naming.proofs.Naming.{plainly-whole}
use Rattle.verilog.proofs.Printing.{leaves_none, definition-end, definition-path}
use Rattle.verilog.proofs.print_function.Goals as goal

pub returns-then-sheet-at : goal.returns-then-sheet-at
returns-then-sheet-at c =
    leaves_none _ _ (definition-end _ _ _ _ c.if-sheet-at.true)

pub returns : goal.returns
unfolding ascii
returns c =
    let a = c.args in
    definition-path _ _ a.n a.at _ _ _ _ c.if-sheet-at.false c.byte_at-k.ensures
    refl c.byte_at-width.ensures
    (c.fill_plain.ensures ∙ plainly-whole _ 1 _ (length-replicate {A = ℕ} 2560 0))
    c.put_function-p.ensures c.put_declarations-q.ensures c.put_word-w.ensures
    c.print_stmt-a.ensures c.put_result-end.ensures
