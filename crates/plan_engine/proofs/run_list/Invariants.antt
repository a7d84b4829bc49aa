-- `plan_engine::run_list` meets its contract. The loop: the choices so far accepted, and then the run over the rest, are the
-- whole run.
use Prim.Native.Nat.{◌≤◌}
use native.Mathlib.Omega.{arith}
use mathlib.Core.Path.{◌≡◌, sym, ap, ◌∙◌}
use lib.ListN.{length, drop}
use Rattle.plan.specs.Plan.{plan_of}
use Rattle.plan_engine.specs.Live.{live}
use Rattle.plan_engine.specs.Taking.{Taken, take_choice}
use Rattle.plan_engine.specs.Running.{run_list}
use Rattle.plan_engine.proofs.Taking.{choice-room}
use Rattle.plan_engine.proofs.Running.{ahead, ahead-zero, list_on, list-off, list-end}
use borrow.Author.Rules.{rules}
use Rattle.plan_engine.proofs.run_list.Given as goal

abbrev pub invariant-loop-i : goal.invariant-loop-i
invariant-loop-i l =
    (l.i ≤ length l.choices)
    × (ahead l.i (run_list (plan_of l.plan) (drop l.i l.choices) l.left (live l.cells l.pending l.places l.m))
    ≡ run_list (plan_of l.plan) l.choices l.room (live l.initial.cells l.initial.pending l.initial.places l.initial.m))
