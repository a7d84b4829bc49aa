-- `rules::read_elsewhere` meets its contract. Assumes nothing.
use mathlib.Core.Path.{sym, ap, ◌∙◌}
use mathlib.Core.Bool.{false}
use Prim.Native.Nat.{ℕ}
use lib.ListN.{set}
use Rattle.masks.specs.Masks.{bits, any_mark}
use Rattle.rules.specs.Judging.{read_elsewhere_at}
use Rattle.rules.proofs.read_elsewhere.Goals as goal

pub returns-then-any : goal.returns-then-any
unfolding read_elsewhere_at
returns-then-any c =
    let others = c.any.ensures ∙ ap any_mark (c.without-others.ensures ∙ ap (λ (w : ℕ). set (bits w) c.args.i false) c.entry.ensures) in
    rw (sym others ∙ c.if-any.true) c.if-any.true

pub returns-else-any : goal.returns-else-any
unfolding read_elsewhere_at
returns-else-any c =
    let others = c.any.ensures ∙ ap any_mark (c.without-others.ensures ∙ ap (λ (w : ℕ). set (bits w) c.args.i false) c.entry.ensures) in
    let wires = c.any-else-any.ensures ∙ ap (λ (w : ℕ). any_mark (bits w)) c.entry-else-any.ensures in
    rw (sym others ∙ c.if-any.false) wires
