-- `values::edge_number` meets its contract. Assumes nothing.
use Rattle.std.proofs.Common.{◌≡◌, refl}
use denote.Enum.Declared.{tag_of}
use Rattle.values.specs.contracts.Edge.{the_type}
use Rattle.values.specs.declared.Edge.{Edge}
use Rattle.values.specs.declared.Edge.TheVariants.{Change, Posedge, Negedge}
use Rattle.values.specs.Edges.{edge_number}
use Rattle.values.proofs.edge_number.Goals as goal

tag : (e : Edge) → tag_of the_type e ≡ edge_number e
unfolding edge_number
tag Change = refl
tag Posedge = refl
tag Negedge = refl

pub returns : goal.returns
returns c =
    tag c.args.edge
