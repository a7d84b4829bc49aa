-- `coded::reads_clock` meets its contract. Assumes nothing.
use mathlib.Core.Path.{ap, ◌∙◌}
use mathlib.Core.Bool.{false}
use mathlib.Core.List.{List}
use Prim.Native.Nat.{ℕ}
use lib.ListN.{get_or}
use Rattle.masks.specs.Masks.{bits}
use Rattle.witness.specs.Seeking.{reads_clock}
use borrow.Author.Rules.{rules}
use Rattle.witness.proofs.coded.reads_clock.Goals as goal

pub returns : goal.returns
unfolding reads_clock
returns c =
    c.has.ensures ∙ ap (λ (rs : List ℕ). get_or (bits (get_or rs 0 0)) 0 false) c.mark_instr.ensures
