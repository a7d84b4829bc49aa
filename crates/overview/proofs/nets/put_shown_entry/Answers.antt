-- `overview::nets::put_shown_entry` meets its contract. Assumes nothing.
use borrow.Author.Rules.{rules}
use borrow.Author.Tests.{eq-eqb, ne_eqb}
use Rattle.overview.specs.Shown.{shown_entry}
use Rattle.overview.proofs.nets.put_shown_entry.Goals as goal

pub returns-then-k-eq32 : goal.returns-then-k-eq32
unfolding shown_entry
returns-then-k-eq32 c =
    rw (eq-eqb _ _ c.if-k-eq32.true) c.print_place.ensures

pub returns : goal.returns
unfolding shown_entry
returns c =
    rw (ne_eqb _ _ c.if-k-eq32.false) c.put_register.ensures
