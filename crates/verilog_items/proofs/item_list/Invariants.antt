-- `verilog_items::item_list` meets its contract. The loop's invariant: the rest of the items gives the whole. Assumes nothing.
use borrow.Author.Rules.{rules}
use mathlib.Core.Path.{◌≡◌, refl, ◌∙◌}
use Prim.Native.Nat.{◌-◌}
use borrow.Author.Tests.{not-true, not-false}
use Rattle.verilog_exprs.specs.Rows.{wrote}
use Rattle.verilog_items.specs.Notes.{notes}
use Rattle.verilog_items.specs.Items.{items, item_list}
use Rattle.verilog_items.proofs.Turns.{items-none, items-failed, items-end, items_more}
use Rattle.verilog_items.proofs.item_list.Given as goal

abbrev pub invariant-loop : goal.invariant-loop
invariant-loop l =
    items l.kinds l.numbers l.count (l.count - l.initial.p.next - l.counter) (notes (wrote l.p l.out) l.roles l.widths)
    ≡ item_list l.kinds l.numbers l.count (notes (wrote l.initial.p l.initial.out) l.initial.roles l.initial.widths)
