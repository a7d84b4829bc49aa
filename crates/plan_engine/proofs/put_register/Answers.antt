-- `plan_engine::put_register` meets its contract. Assumes nothing.
use mathlib.Core.Path.{sym, ◌∙◌}
use Rattle.masks.proofs.Masks.{get_d-bits-past}
use Rattle.plan_engine.specs.Acting.{put_register}
use borrow.Author.Rules.{rules}
use Rattle.plan_engine.proofs.put_register.Goals as goal

pub returns-then-n-ge32 : goal.returns-then-n-ge32
unfolding put_register
returns-then-n-ge32 c =
    rw (get_d-bits-past _ _ c.if-n-ge32.true)

pub returns-then-has : goal.returns-then-has
unfolding put_register
returns-then-has c =
    rw (sym c.has.ensures ∙ c.if-has.true, c.put.ensures, c.inputs.ensures)

pub returns-else-has : goal.returns-else-has
unfolding put_register
returns-else-has c =
    rw (sym c.has.ensures ∙ c.if-has.false)
