-- `writing::put_many` meets its contract. The loop's invariant: what is still to be put gives the whole.
-- Assumes nothing.
use Prim.Native.Nat.{◌-◌}
use mathlib.Core.Path.{◌≡◌, sym, ◌∙◌, ap}
use native.Mathlib.Omega.{arith}
use borrow.Author.Rules.{rules}
use lib.ListN.{replicate}
use Rattle.writing.specs.Buffer.{filled, puts}
use Rattle.writing.proofs.Buffer.{puts-again, puts-nil}
use Rattle.writing.proofs.put_many.Goals as goal

pub loop-init : goal.loop-init
loop-init c =
    let a = c.args in
    let whole : a.n - 0 ≡ a.n = omega arith in
    (search rules, ap (λ k. puts (filled a.text.now a.pos) (replicate k a.b)) whole)

pub loop-preserved : goal.loop-preserved
loop-preserved c =
    let l = c.loop in
    let a = c.args in (
      search rules,
      puts-again (filled l.text l.p) _ a.b a.n l.counter c.loop-test.true c.put_byte-p.ensures
          ∙ l.invariant.1,
    )

pub returns : goal.returns
returns c =
    let l = c.loop in
    let a = c.args in
    let none : a.n - l.counter ≡ 0 = omega (arith, c.loop-test.false) in
    sym (puts-nil _) ∙ ap (λ k. puts (filled l.text l.p) (replicate k a.b)) (sym none) ∙ l.invariant.1
