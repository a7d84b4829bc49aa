-- `rules::upward` meets its contract. Assumes nothing.
use mathlib.Core.Path.{refl, ap, ◌∙◌}
use mathlib.Core.Bool.{false}
use Prim.Native.Nat.{ℕ}
use borrow.Author.Tests.{le-leb, lt-leb}
use lib.ListN.{get_or}
use Rattle.masks.specs.Masks.{bits}
use Rattle.rules.specs.Judging.{upward_at}
use Rattle.rules.proofs.upward.Goals as goal

pub returns-then-k-j : goal.returns-then-k-j
unfolding upward_at
returns-then-k-j c =
    rw (le-leb _ _ c.if-k-j.true) (c.has.ensures ∙ ap (λ (w : ℕ). get_or (bits w) c.args.k false) c.entry.ensures)

pub returns-else-k-j : goal.returns-else-k-j
unfolding upward_at
returns-else-k-j c =
    let e = lt-leb _ _ c.if-k-j.false in
    e ∙ rw e refl
