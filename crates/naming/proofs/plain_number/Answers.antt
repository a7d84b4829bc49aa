-- `naming::plain_number` meets its contract. Assumes nothing.
use borrow.Author.Rules.{rules}
use mathlib.Core.Path.{sym}
use Rattle.naming.proofs.Naming.{plain_number-input, plain_number-register, plain_number-wire}
use Rattle.naming.proofs.plain_number.Goals as goal

pub returns-then-v-inputs : goal.returns-then-v-inputs
returns-then-v-inputs c =
    sym (plain_number-input _ _ _ c.if-v-inputs.true)

pub returns-then-v-inputs-2 : goal.returns-then-v-inputs-2
returns-then-v-inputs-2 c =
    sym (plain_number-register _ _ _ c.if-v-inputs.false c.if-v-inputs-2.true)

pub returns-else-v-inputs-2 : goal.returns-else-v-inputs-2
returns-else-v-inputs-2 c =
    sym (plain_number-wire _ _ _ c.if-v-inputs.false c.if-v-inputs-2.false)
