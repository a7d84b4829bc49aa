-- `clock_steps::take_registers` meets its contract. The loop: the registers so far taken. Assumes nothing.
use mathlib.Core.Path.{◌≡◌}
use Prim.Native.Nat.{◌≤◌}
use Rattle.clock_steps.specs.Taking.{take_registers}
use Rattle.clock_steps.proofs.take_registers.Given as goal

abbrev pub invariant-loop-r : goal.invariant-loop-r
invariant-loop-r l =
    (l.r ≤ l.count) × (l.news ≡ take_registers l.table l.row l.cells l.r l.initial.news)
