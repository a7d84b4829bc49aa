-- The term that stands past the last one.
use mathlib.Core.Path.{refl}
use Rattle.pseudocode.specs.Instruction.{no_term}
use Rattle.pseudocode.proofs.no_term.Goals as goal

pub returns : goal.returns
unfolding no_term
returns c =
    refl
