-- `masks::without` meets its contract. Assumes nothing.
use mathlib.Core.Path.{sym, ap, ◌∙◌}
use Prim.Native.Nat.{ℕ}
use Rattle.masks.specs.Masks.{bits}
use Rattle.masks.proofs.Digits.{cleared}
use Rattle.masks.proofs.Masks.{bits-clear, set-bits-past, shifted}
use Rattle.masks.proofs.without.Goals as goal

pub returns-then-k-ge32 : goal.returns-then-k-ge32
returns-then-k-ge32 c =
    sym (set-bits-past c.args.m c.args.k _ c.if-k-ge32.true)

pub returns : goal.returns
returns c =
    let m = c.args.m in
    let k = c.args.k in
    ap (λ (x : ℕ). bits (cleared m x)) (shifted k c.if-k-ge32.false) ∙ bits-clear m k
