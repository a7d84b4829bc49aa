-- `prepared::accepted` meets its contract. Assumes nothing.
use mathlib.Core.Path.{◌≡◌, refl, ◌∙◌}
use mathlib.Core.Bool.{Bool, true, false}
use lib.Dec.{eqb}
use Rattle.std.specs.Int.{from_bool}
use Rattle.values.specs.Values.{pick}
use Rattle.prepared.specs.Prepared.{accepted}
use Rattle.prepared.proofs.accepted.Goals as goal

counted : (b : Bool) → from_bool b ≡ pick b 1 0
counted true = refl
counted false = refl

pub returns : goal.returns
unfolding accepted
returns c =
    c.from.ensures ∙ counted (eqb c.args.number 0)
