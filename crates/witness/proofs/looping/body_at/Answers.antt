-- `looping::body_at` meets its contract. The loop's invariant: `next` is the place of the counted thread's statement. Assumes nothing.
use mathlib.Core.Path.{◌≡◌, ap, ◌∙◌}
use Prim.Native.Nat.{◌-◌, ◌≤◌}
use native.Mathlib.Omega.{arith}
use Rattle.witness.specs.Seeking.{body_at}
use Rattle.witness.proofs.Bodies.{body-none, body-turn}
use borrow.Author.Rules.{rules}
use Rattle.witness.proofs.looping.body_at.Goals as goal

pub loop-init : goal.loop-init
loop-init c =
    (search rules, body-none c.args.sheet.now c.args.definitions.now c.args.body)

pub loop-preserved : goal.loop-preserved
loop-preserved c =
    let a = c.args in
    let l = c.loop in
    (omega arith, body-turn a.sheet.now a.definitions.now a.body l.counter l.invariant.1 c.walk-w.ensures)

pub returns : goal.returns
returns c =
    let a = c.args in
    let l = c.loop in
    let e : l.counter ≡ a.i = omega arith in
    l.invariant.1 ∙ ap (body_at a.sheet.now a.definitions.now a.body) e
