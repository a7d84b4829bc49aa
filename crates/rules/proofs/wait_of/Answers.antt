-- `rules::wait_of` meets its contract. Assumes nothing.
use mathlib.Core.Path.{refl}
use Rattle.rules.specs.Judging.{wait_of}
use Rattle.rules.proofs.wait_of.Goals as goal

pub returns-in-Wait : goal.returns-in-Wait
unfolding wait_of
returns-in-Wait c =
    rw c.in-Wait.is refl

pub returns-in-Act : goal.returns-in-Act
unfolding wait_of
returns-in-Act c =
    rw c.in-Act.is refl
