-- `verilog::print_thread` meets its contract. Assumes nothing.
use mathlib.Core.Path.{sym, ap, ◌∙◌}
use Rattle.verilog.specs.Printing.{leaves}
use Rattle.verilog.proofs.Printing.{opens-below, thread-waiting, thread-block}
use Rattle.verilog.proofs.print_thread.Goals as goal

pub print_waiting-requires : goal.print_waiting-requires
print_waiting-requires c =
    opens-below _ _ (sym c.opens.ensures ∙ c.if-opens.true)

pub returns-then-opens : goal.returns-then-opens
returns-then-opens c =
    c.print_waiting.ensures
    ∙ ap (leaves _) (sym (thread-waiting _ _ _ _ (sym c.opens.ensures ∙ c.if-opens.true)))

pub returns : goal.returns
returns c =
    c.print_block.ensures ∙ ap (leaves _) (sym (thread-block _ _ _ _ (sym c.opens.ensures ∙ c.if-opens.false)))
