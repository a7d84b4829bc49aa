-- `verilog_items::assigns` meets its contract. The loop's invariant: the rest of the list gives the whole. Assumes nothing.
use borrow.Author.Rules.{rules}
use mathlib.Core.Path.{◌≡◌, refl, ◌∙◌}
use mathlib.Core.List.{List}
use Prim.Native.Nat.{ℕ, ◌-◌}
use borrow.Author.Tests.{not-true, not-false}
use Rattle.verilog_exprs.specs.Rows.{wrote}
use Rattle.verilog_items.specs.Notes.{notes}
use Rattle.verilog_items.specs.Items.{targets}
use Rattle.verilog_items.proofs.Turns.{targets-none, targets-stop, targets-last, targets-more, assigns-whole, assigns-refused}
use Rattle.verilog_items.proofs.assigns.Given as goal

abbrev pub invariant-loop : goal.invariant-loop
invariant-loop l =
    (ws : List ℕ) → targets l.kinds l.numbers l.count (l.count - l.initial.p.next - l.counter) (notes (wrote l.p l.out) l.roles ws)
    ≡ targets l.kinds l.numbers l.count (l.count - l.initial.p.next) (notes (wrote l.initial.p l.initial.out) l.initial.roles ws)
