-- The two words are stored inside the table, and nothing outside.
use mathlib.Core.Path.{sym}
use Rattle.pseudocode.proofs.Filling.{store_in, store-outside}
use Rattle.pseudocode.specs.Filling.{kind_number}
use Rattle.pseudocode.proofs.store.Goals as goal

pub returns-then-thread-ge8 : goal.returns-then-thread-ge8
returns-then-thread-ge8 c =
    sym (store-outside _ _ _ _ _ _ c.then-thread-ge8.either)

pub returns : goal.returns
returns c =
    let a = c.args in
    rw (
      store_in a.thread a.place (kind_number a.kind) a.at a.goal a.code.now c.if-thread-ge8.false c.if-place-ge256.false,
      c.first_word.ensures,
    )
