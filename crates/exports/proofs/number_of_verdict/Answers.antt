-- `exports::number_of_verdict` meets its contract. Assumes nothing.
use Rattle.events.specs.Verdict.{number_of_verdict}
use Rattle.exports.proofs.number_of_verdict.Goals as goal

pub returns-in-Quiet : goal.returns-in-Quiet
unfolding number_of_verdict
returns-in-Quiet c =
    cc

pub returns-in-Spent : goal.returns-in-Spent
unfolding number_of_verdict
returns-in-Spent c =
    cc

pub returns-in-Stopped : goal.returns-in-Stopped
unfolding number_of_verdict
returns-in-Stopped c =
    cc

pub returns-in-Refused : goal.returns-in-Refused
unfolding number_of_verdict
returns-in-Refused c =
    cc
