-- `verilog_errors::faults::token_at` meets its contract. The loop's invariant: the first from `i` on is the first of all.
-- Assumes nothing.
use borrow.Author.Rules.{rules}
use mathlib.Core.Path.{◌≡◌, sym, ◌∙◌, refl}
use Prim.Native.Nat.{◌-◌}
use native.Mathlib.Omega.{arith}
use Rattle.verilog_names.specs.Chosen.{chosen, has_role}
use Rattle.verilog_names.specs.Order.{first_or, next_of}
use Rattle.verilog_names.proofs.Ordering.{first-here, first_on, first_done}
use Rattle.verilog_errors.proofs.Faulting.{token-all, stands_here, stands-elsewhere}
use Rattle.verilog_errors.proofs.faults.token_at.Goals as goal

pub loop-i-init : goal.loop-i-init
loop-i-init c =
    token-all _ _ _

pub bounds-places-i : goal.bounds-places-i
bounds-places-i c =
    omega arith

pub returns-then-places-i : goal.returns-then-places-i
returns-then-places-i c = (
  sym (first-here _ _ _ c.loop-i-test.true (stands_here _ _ _ refl c.if-places-i.true))
      ∙ c.loop-i.invariant,
  omega arith,
)

pub loop-i-preserved : goal.loop-i-preserved
loop-i-preserved c =
    sym (first_on _ _ _ c.loop-i-test.true (stands-elsewhere _ _ _ refl c.if-places-i.false))
    ∙ c.loop-i.invariant

pub returns : goal.returns
returns c =
    (sym (first_done _ _ _ c.loop-i-test.false) ∙ c.loop-i.invariant, omega arith)
