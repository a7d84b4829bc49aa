-- `plan::no_term` meets its contract.
use mathlib.Core.Path.{refl}
use Rattle.pseudocode.specs.Instruction.{no_term}
use Rattle.plan.proofs.no_term.Goals as goal

pub returns : goal.returns
unfolding no_term
returns c =
    refl
