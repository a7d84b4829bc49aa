-- `verilog_items::names::name_list` meets its contract. The loop's invariant: the rest of the list gives the whole. Assumes nothing.
use borrow.Author.Rules.{rules}
use mathlib.Core.Path.{◌≡◌, refl, ◌∙◌}
use Prim.Native.Nat.{◌-◌}
use borrow.Author.Tests.{not-true, not-false}
use Rattle.verilog_items.specs.Notes.{marks}
use Rattle.verilog_items.specs.Items.{names, name_list}
use Rattle.verilog_items.proofs.Turns.{names-none, names-stop, names-last, names_more}
use Rattle.verilog_items.proofs.names.name_list.Given as goal

abbrev pub invariant-loop : goal.invariant-loop
invariant-loop l =
    names l.kinds l.role l.width (l.count - l.initial.p.next - l.counter) (marks l.p l.roles l.widths) ≡ name_list l.kinds l.count l.role l.width (marks l.initial.p l.initial.roles l.initial.widths)
