-- `dispatch::picking::next_busy` meets its contract: the one found behind the last served, or else up to it. Assumes nothing.
use mathlib.Core.Path.{◌≡◌, sym, ap, ◌∙◌}
use Prim.Native.Nat.{◌+◌, ◌-◌}
use native.Mathlib.Omega.{arith}
use Rattle.dispatch.specs.Dispatch.{first_busy}
use Rattle.dispatch.proofs.Circle.{next-behind, next-ahead}
use Rattle.dispatch.proofs.picking.next_busy.Goals as goal

pub returns-in-Some : goal.returns-in-Some
returns-in-Some c =
    let a = c.args in
    c.in-Some.is ∙ sym (next-behind a.list a.count a.last c.requires.1 (sym c.first_busy-behind.ensures ∙ c.in-Some.is))

pub returns-in-None : goal.returns-in-None
returns-in-None c =
    let a = c.args in
    let all : a.last + 1 - 0 ≡ a.last + 1 = omega arith in
    c.first_busy.ensures ∙ ap (first_busy a.list 0) all
    ∙ sym (next-ahead a.list a.count a.last c.requires.1 (sym c.first_busy-behind.ensures ∙ c.in-None.is))
