-- `walk::own_node` meets its contract. Assumes nothing.
use mathlib.Core.Path.{sym, ap, ◌∙◌}
use Prim.Native.Nat.{ℕ, ◌+◌}
use native.Mathlib.Omega.{arith}
use Rattle.extraction.proofs.Walking.{own_in, own-past}
use borrow.Author.Rules.{rules}
use Rattle.extraction.proofs.walk.own_node.Goals as goal

pub returns-then-wide-r : goal.returns-then-wide-r
returns-then-wide-r c =
    sym (own-past _ _ _ (omega (arith, c.if-wide-r.true, c.wide.ensures)))

pub returns : goal.returns
returns c =
    let a = c.args in
    ap (λ (n : ℕ). n + a.r) c.wide-2.ensures ∙ sym (own_in _ _ _ (omega (arith, c.if-wide-r.false, c.wide.ensures)))
