-- Inside the table the instruction of the two words, and `go 0` outside. Assumes nothing.
use mathlib.Core.Path.{sym, ◌∙◌}
use Rattle.bodies.proofs.Filling.{fetch-in, fetch-out}
use Rattle.bodies.proofs.fetch.Goals as goal

pub returns-then-place-ge4096 : goal.returns-then-place-ge4096
returns-then-place-ge4096 c =
    sym (fetch-out _ _ c.if-place-ge4096.true)

pub returns : goal.returns
returns c =
    let a = c.args in
    c.decode.ensures ∙ sym (fetch-in a.code.now a.place c.if-place-ge4096.false)
