-- `verilog_errors::faults::first_named` meets its contract. The loop's invariant: the first from `i` on is the first of all.
-- Assumes nothing.
use borrow.Author.Rules.{rules}
use mathlib.Core.Path.{◌≡◌, sym, ◌∙◌}
use Prim.Native.Nat.{◌-◌}
use native.Mathlib.Omega.{arith}
use Rattle.verilog_names.specs.Chosen.{chosen}
use Rattle.verilog_names.specs.Order.{first_or}
use Rattle.verilog_names.proofs.Ordering.{first-here, first_on, first_done}
use Rattle.verilog_errors.specs.Faults.{is_named, first_named}
use Rattle.verilog_errors.proofs.Faulting.{named-all}
use Rattle.verilog_errors.proofs.faults.first_named.Goals as goal

pub loop-i-init : goal.loop-i-init
loop-i-init c =
    named-all _ _ _ _ _ _

pub is_named-requires : goal.is_named-requires
is_named-requires c =
    omega arith

pub returns-then-is_named : goal.returns-then-is_named
returns-then-is_named c =
    let h = c.loop-i-test.true in
    (sym (first-here _ _ _ h (sym c.is_named.ensures ∙ c.if-is_named.true)) ∙ c.loop-i.invariant, omega arith)

pub loop-i-preserved : goal.loop-i-preserved
loop-i-preserved c =
    sym (first_on _ _ _ c.loop-i-test.true (sym c.is_named.ensures ∙ c.if-is_named.false)) ∙ c.loop-i.invariant

pub returns : goal.returns
returns c =
    (sym (first_done _ _ _ c.loop-i-test.false) ∙ c.loop-i.invariant, omega arith)
