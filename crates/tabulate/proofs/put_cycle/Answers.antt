-- `tabulate::put_cycle` meets its contract. Assumes nothing.
use mathlib.Core.Path.{sym, ap, ◌∙◌}
use Rattle.writing.proofs.Buffer.{both}
use Prim.Native.Nat.{◌-◌}
use Rattle.tabulate.specs.Tabulate.{cycle_cell, aligned}
use borrow.Author.Rules.{rules}
use Rattle.tabulate.proofs.put_cycle.Goals as goal

pub returns-then-csv : goal.returns-then-csv
unfolding cycle_cell aligned
returns-then-csv c =
    rw c.if-csv.true c.put_decimal.ensures

pub returns : goal.returns
unfolding cycle_cell aligned
returns c =
    rw c.if-csv.false (rw (sym (c.saturating_sub.ensures ∙ ap (λ k. 8 - k) c.digit_count.ensures))
    (both _ _ _ _ _ c.put_many-p.ensures c.put_decimal-2.ensures))
