-- `rules::other_writes` meets its contract. Assumes nothing.
use mathlib.Core.Path.{refl, ap, ◌∙◌}
use mathlib.Core.Bool.{not}
use borrow.Author.Tests.{eq-eqb, ne_eqb}
use Rattle.rules.specs.Judging.{other_writes}
use Rattle.rules.proofs.other_writes.Goals as goal

pub returns-then-i-j : goal.returns-then-i-j
unfolding other_writes
returns-then-i-j c =
    rw (ne_eqb _ _ c.if-i-j.true) c.writes.ensures

pub returns-else-i-j : goal.returns-else-i-j
unfolding other_writes
returns-else-i-j c =
    let e = eq-eqb _ _ c.if-i-j.false in
    ap not e ∙ rw e refl
