-- `first_values::valued` meets its contract. Assumes nothing.
use Rattle.std.proofs.Common.{refl}
use Rattle.first_values.proofs.FirstValues.{valued-wrong, valued-right}
use Rattle.first_values.proofs.valued.Goals as goal

pub returns-then-p-ne0 : goal.returns-then-p-ne0
returns-then-p-ne0 c =
    valued-wrong _ _ _ _ _ c.if-p-ne0.true _ refl _ c.told.ensures

pub returns : goal.returns
returns c =
    valued-right _ _ _ _ _ c.if-p-ne0.false _ c.with_value-state.ensures _ c.told-2.ensures
