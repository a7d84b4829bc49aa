-- `rules::some_body` meets its contract. The loop's invariant: what is left of the threads decides. Assumes nothing.
use mathlib.Core.Path.{sym, ap, ◌∙◌}
use Prim.Native.Nat.{ℕ}
use native.Mathlib.Omega.{arith}
use borrow.Author.Rules.{rules}
use Rattle.rules.specs.Walking.{some_from}
use Rattle.rules.proofs.Walking.{some-end, some-found, some-turn}
use Rattle.rules.proofs.some_body.Goals as goal

pub loop-init : goal.loop-init
loop-init g c =
    (search rules, λ f t. ap (λ (n : ℕ). some_from f c.args.sheet.now c.args.definitions.now n c.args.body) (omega arith))

pub returns-then-holds : goal.returns-then-holds
returns-then-holds g c = λ f t.
    let a = c.args in
    let l = c.loop in
    sym (l.invariant.1 f t ∙ some-found f a.sheet.now a.definitions.now _ l.next (λ e. omega arith) c.walk-w.ensures (sym (t _ _ c.holds.ensures) ∙ c.if-holds.true))

pub loop-preserved : goal.loop-preserved
loop-preserved g c =
    let a = c.args in
    let l = c.loop in (
      omega arith,
      λ f t. l.invariant.1 f t
          ∙ some-turn f a.sheet.now a.definitions.now _ l.next (λ e. omega arith) c.walk-w.ensures (sym (t _ _ c.holds.ensures) ∙ c.if-holds.false)
          ∙ ap (λ (n : ℕ). some_from f a.sheet.now a.definitions.now n c.walk-w.result.next) (omega arith),
    )

pub returns : goal.returns
returns g c = λ f t.
    let a = c.args in
    let l = c.loop in
    sym (l.invariant.1 f t ∙ some-end f a.sheet.now a.definitions.now _ l.next (omega arith))
