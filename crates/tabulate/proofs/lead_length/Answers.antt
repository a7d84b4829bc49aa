-- `tabulate::lead_length` meets its contract. Assumes nothing.
use borrow.Author.Tests.{eq-eqb, ne_eqb}
use native.Mathlib.Omega.{arith}
use Rattle.tabulate.specs.Tabulate.{lead}
use borrow.Author.Rules.{rules}
use Rattle.tabulate.proofs.lead_length.Goals as goal

pub returns-then-base-eq2 : goal.returns-then-base-eq2
unfolding lead
returns-then-base-eq2 c =
    record { value = rw (eq-eqb _ _ c.if-base-eq2.true); upper_bound = omega arith }

pub returns-else-base-eq2 : goal.returns-else-base-eq2
unfolding lead
returns-else-base-eq2 c =
    record { value = rw (ne_eqb _ _ c.if-base-eq2.false); upper_bound = omega arith }
