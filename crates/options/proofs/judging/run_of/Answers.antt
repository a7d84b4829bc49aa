-- `options::judging::run_of` meets its contract. Assumes nothing.
use Rattle.options.specs.Requests.{run_of}
use Rattle.options.proofs.judging.run_of.Goals as goal

pub returns : goal.returns
unfolding run_of
returns c =
    cc
