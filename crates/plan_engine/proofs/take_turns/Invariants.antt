-- `plan_engine::take_turns` meets its contract. The loop: the turns so far, and then those that are left, are all of them.
use Prim.Native.Nat.{◌≤◌, ◌-◌}
use native.Mathlib.Omega.{arith}
use mathlib.Core.Path.{◌≡◌, sym, ap, ◌∙◌}
use borrow.Author.Tests.{not-true, not-false}
use Rattle.plan.specs.Plan.{plan_of}
use Rattle.plan_engine.specs.Live.{live}
use Rattle.plan_engine.specs.Taking.{Taken, take_choice}
use Rattle.plan_engine.specs.Running.{given, turns}
use Rattle.plan_engine.proofs.Taking.{choice-room}
use Rattle.plan_engine.proofs.Running.{ahead, turns-whole, turns-on, turns-off, turns-end, turns-quiet}
use borrow.Author.Rules.{rules}
use Rattle.plan_engine.proofs.take_turns.Given as goal

abbrev pub invariant-loop-i : goal.invariant-loop-i
invariant-loop-i l =
    (l.i ≤ l.limit)
    × (ahead l.i (turns (plan_of l.plan) (given l.c) (l.limit - l.i) l.left (live l.cells l.pending l.places l.m))
    ≡ turns (plan_of l.plan) (given l.c) l.limit l.room (live l.initial.cells l.initial.pending l.initial.places l.initial.m))
