-- `options::judging::misfit` meets its contract. The loop's invariant: the slots from `k` on have the misfit of all. Assumes nothing.
use mathlib.Core.Path.{◌≡◌}
use lib.ListN.{drop}
use Rattle.options.specs.Requests.{misfit}
use Rattle.options.proofs.judging.misfit.Given as goal

abbrev pub invariant-loop-k : goal.invariant-loop-k
invariant-loop-k l =
    misfit l.command l.k (drop l.k l.at) ≡ misfit l.command 0 l.at
