-- `verilog_bytes::shift` meets its contract. The loop's invariant: moving what is left gives the whole. Assumes nothing.
use Prim.Native.Nat.{◌-◌, ◌≤◌}
use mathlib.Core.Path.{◌≡◌}
use Rattle.verilog_bytes.specs.Turning.{moved}
use Rattle.verilog_bytes.proofs.shift.Given as goal

abbrev pub invariant-loop-j : goal.invariant-loop-j
invariant-loop-j l =
    (l.from ≤ l.j) × (l.j ≤ l.end) × (moved l.k (l.j - l.from) l.from l.out ≡ moved l.k (l.end - l.from) l.from l.initial.out)

abbrev pub decreases-loop-j : goal.decreases-loop-j
decreases-loop-j l =
    l.j
