-- `rules::in_if_else` meets its contract. Assumes nothing.
use mathlib.Core.Path.{◌≡◌, refl, ◌∙◌}
use mathlib.Core.Bool.{◌&&◌}
use Rattle.rules.specs.Walking.{in_if_else}
use Rattle.rules.proofs.in_if_else.Goals.{then-a, else-a}
use Rattle.rules.proofs.in_if_else.Goals as goal

pub returns-then-a-2 : goal.returns-then-a-2
unfolding in_if_else
returns-then-a-2 c =
    let s : c.if-a.result ≡ (c.args.a.surely && c.args.b.surely) =
    elim c.if-a.branch [
      | then-a w ↦ rw w.if-a.true w.result-is
      | else-a w ↦ rw w.if-a.false (w.result-is ∙ w.if-a.false)
    ] in
    rw (c.if-a-2.true, ← s) refl

pub returns-else-a-2 : goal.returns-else-a-2
unfolding in_if_else
returns-else-a-2 c =
    let s : c.if-a.result ≡ (c.args.a.surely && c.args.b.surely) =
    elim c.if-a.branch [
      | then-a w ↦ rw w.if-a.true w.result-is
      | else-a w ↦ rw w.if-a.false (w.result-is ∙ w.if-a.false)
    ] in
    rw (c.if-a-2.false, ← s) refl
