-- `naming::plain_mark` meets its contract. Assumes nothing.
use borrow.Author.Rules.{rules}
use mathlib.Core.Path.{sym}
use Rattle.naming.proofs.Naming.{plain_mark-input, plain_mark-register, plain_mark-wire}
use Rattle.naming.proofs.plain_mark.Goals as goal

pub returns-then-v-inputs : goal.returns-then-v-inputs
returns-then-v-inputs c =
    sym (plain_mark-input _ _ _ c.if-v-inputs.true)

pub returns-then-v-inputs-2 : goal.returns-then-v-inputs-2
returns-then-v-inputs-2 c =
    sym (plain_mark-register _ _ _ c.if-v-inputs.false c.if-v-inputs-2.true)

pub returns-else-v-inputs-2 : goal.returns-else-v-inputs-2
returns-else-v-inputs-2 c =
    sym (plain_mark-wire _ _ _ c.if-v-inputs.false c.if-v-inputs-2.false)
