-- The two words are stored inside the table, and nothing outside. Assumes nothing.
use mathlib.Core.Path.{sym}
use Rattle.pseudocode.specs.Filling.{kind_number}
use Rattle.bodies.proofs.Filling.{store_in, store_out}
use Rattle.bodies.proofs.store.Goals as goal

pub returns-then-place-ge4096 : goal.returns-then-place-ge4096
returns-then-place-ge4096 c =
    sym (store_out _ _ _ _ _ c.if-place-ge4096.true)

pub returns : goal.returns
returns c =
    let a = c.args in
    rw (store_in a.place (kind_number a.kind) a.at a.goal a.code.now c.if-place-ge4096.false, c.first_word.ensures)
