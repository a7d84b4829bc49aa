-- `explaining::body_at` meets its contract. The loop's invariant: what is left of the threads leads to the place. Assumes nothing.
use borrow.Author.Rules.{rules}
use Prim.Native.Nat.{◌-◌}
use mathlib.Core.Path.{◌≡◌, ap, ◌∙◌}
use native.Mathlib.Omega.{arith}
use Rattle.explaining.specs.Walking.{body_at}
use Rattle.explaining.proofs.Walking.{body-turn, body_end}
use Rattle.explaining.proofs.body_at.Goals as goal

pub loop-init : goal.loop-init
loop-init c =
    let a = c.args in
    let whole : a.thread - 0 ≡ a.thread = omega arith in
    (search rules, ap (λ n. body_at a.sheet.now a.definitions.now n a.body) whole)

pub loop-preserved : goal.loop-preserved
loop-preserved c =
    let a = c.args in
    let l = c.loop in
    (search rules, body-turn a.sheet.now a.definitions.now a.thread l.counter l.at c.loop-test.true c.walk-w.ensures ∙ l.invariant.1)

pub returns : goal.returns
returns c =
    let a = c.args in
    let l = c.loop in
    body_end a.sheet.now a.definitions.now a.thread l.counter l.at c.loop-test.false ∙ l.invariant.1
