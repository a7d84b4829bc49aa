-- `values::fires` meets its contract. Assumes nothing.
use Rattle.std.proofs.Common.{◌∙◌}
use Rattle.values.specs.Edges.{moves, fires}
use Rattle.values.proofs.Edges.{posedges-chart, negedges-chart}
use Rattle.values.proofs.fires.Goals as goal

pub returns-in-Change : goal.returns-in-Change
unfolding fires
returns-in-Change c =
    rw (c.in-Change.is, c.same.ensures)

pub returns-in-Posedge : goal.returns-in-Posedge
unfolding fires moves
returns-in-Posedge c =
    posedges-chart c.level.result c.level-in-Posedge.result c.level.ensures.upper_bound c.level-in-Posedge.ensures.upper_bound
    ∙ rw (c.in-Posedge.is, c.level.ensures.value, c.level-in-Posedge.ensures.value)

pub returns-in-Negedge : goal.returns-in-Negedge
unfolding fires moves
returns-in-Negedge c =
    negedges-chart c.level-in-Negedge.result c.level-in-Negedge-2.result c.level-in-Negedge.ensures.upper_bound c.level-in-Negedge-2.ensures.upper_bound
    ∙ rw (c.in-Negedge.is, c.level-in-Negedge.ensures.value, c.level-in-Negedge-2.ensures.value)
