-- `binary_text::is_x` meets its contract. Assumes nothing.
use mathlib.Core.Path.{ap}
use lib.Dec.{eqb}
use Rattle.values.specs.declared.Value.{Value}
use Rattle.values.specs.Planes.{marks_of}
use Rattle.binary_text.specs.BinaryText.{is_x}
use Rattle.binary_text.proofs.is_x.Goals as goal

pub returns : goal.returns
unfolding is_x marks_of
returns c =
    ap (λ (v : Value). eqb c.args.a.unknown (marks_of v)) c.all_unknown.ensures
