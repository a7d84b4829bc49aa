-- `plan_fill::fill_widths` meets its contract. Assumes nothing.
use Rattle.tables.proofs.Readers.{min-at_most}
use Rattle.plan_fill.specs.Filling.{with_widths}
use Rattle.plan_fill.proofs.fill_widths.Goals as goal

pub returns : goal.returns
unfolding with_widths
returns c =
    rw (c.put_widths.ensures, c.min-2.ensures, c.min.ensures, min-at_most 80 _, min-at_most 5 _)
