-- `tabulate::places` meets its contract. Assumes nothing.
use borrow.Author.Tests.{eq-eqb, ne_eqb}
use mathlib.Core.Path.{ap, ◌∙◌}
use lib.ListN.{length}
use Rattle.values.specs.Values.{all_unknown}
use Rattle.values.specs.Planes.{marks_of}
use Rattle.writing.specs.Numbers.{decimal}
use Rattle.tabulate.specs.Tabulate.{places}
use borrow.Author.Rules.{rules}
use Rattle.tabulate.proofs.places.Goals as goal

pub returns-then-base-eq16 : goal.returns-then-base-eq16
unfolding places
returns-then-base-eq16 c =
    rw (eq-eqb _ _ c.if-base-eq16.true) c.longer.ensures

pub returns-then-base-eq2 : goal.returns-then-base-eq2
unfolding places
returns-then-base-eq2 c =
    rw (ne_eqb _ _ c.if-base-eq16.false, eq-eqb _ _ c.if-base-eq2.true) c.longer-then-base-eq2.ensures

pub returns : goal.returns
unfolding places marks_of all_unknown
returns c =
    rw (ne_eqb _ _ c.if-base-eq16.false, ne_eqb _ _ c.if-base-eq2.false)
    (c.digit_count.ensures
    ∙ ap (λ n. length (decimal n)) (ap marks_of c.all_unknown.ensures))
