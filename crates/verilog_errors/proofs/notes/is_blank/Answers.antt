-- `verilog_errors::notes::is_blank` meets its contract. Assumes nothing.
use borrow.Author.Rules.{rules}
use borrow.Author.Tests.{le-ltb}
use Prim.Native.Nat.{ℕ}
use lib.ListN.{get_or-eq_default}
use Rattle.verilog_errors.proofs.notes.is_blank.Goals as goal

pub returns-else-at-table : goal.returns-else-at-table
returns-else-at-table c =
    rw (le-ltb _ _ c.if-at-table.false, get_or-eq_default {A = ℕ} _ 0 c.if-at-table.false)
