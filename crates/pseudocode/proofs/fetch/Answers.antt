-- Inside the table the instruction of the two words, and `go 0` outside.
use mathlib.Core.Path.{sym, ◌∙◌}
use Rattle.pseudocode.proofs.Fetching.{fetch-in, fetch-outside}
use Rattle.pseudocode.proofs.fetch.Goals as goal

pub returns-then-thread-ge8 : goal.returns-then-thread-ge8
returns-then-thread-ge8 c =
    sym (fetch-outside _ _ _ _ c.then-thread-ge8.either)

pub returns : goal.returns
returns c =
    let a = c.args in
    c.decode.ensures
    ∙ sym (fetch-in a.sheet.now a.code.now a.thread a.place c.if-thread-ge8.false c.if-place-ge256.false)
