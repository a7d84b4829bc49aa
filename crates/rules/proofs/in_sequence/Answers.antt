-- `rules::in_sequence` meets its contract. Assumes nothing.
use mathlib.Core.Path.{◌≡◌, refl, ◌∙◌}
use mathlib.Core.Bool.{◌||◌}
use Rattle.rules.specs.Walking.{in_sequence}
use Rattle.rules.proofs.in_sequence.Goals.{then-a, else-a}
use Rattle.rules.proofs.in_sequence.Goals as goal

pub returns-then-a-2 : goal.returns-then-a-2
unfolding in_sequence
returns-then-a-2 c =
    let s : c.if-a.result ≡ (c.args.a.surely || c.args.b.surely) =
    elim c.if-a.branch [
      | then-a w ↦ rw w.if-a.true (w.result-is ∙ w.if-a.true)
      | else-a w ↦ rw w.if-a.false w.result-is
    ] in
    rw (c.if-a-2.true, ← s) refl

pub returns-else-a-2 : goal.returns-else-a-2
unfolding in_sequence
returns-else-a-2 c =
    let s : c.if-a.result ≡ (c.args.a.surely || c.args.b.surely) =
    elim c.if-a.branch [
      | then-a w ↦ rw w.if-a.true (w.result-is ∙ w.if-a.true)
      | else-a w ↦ rw w.if-a.false w.result-is
    ] in
    rw (c.if-a-2.false, ← s) refl
