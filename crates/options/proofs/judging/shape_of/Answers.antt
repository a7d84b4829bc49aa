-- `options::judging::shape_of` meets its contract. Assumes nothing.
use Rattle.options.specs.Requests.{shape_of}
use Rattle.options.proofs.judging.shape_of.Goals as goal

pub returns : goal.returns
unfolding shape_of
returns c =
    cc
