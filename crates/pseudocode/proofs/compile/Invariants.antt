-- The loop: what is filled so far, then the threads that are left, is the whole.
use Prim.Native.Nat.{◌-◌, ◌≤◌}
use mathlib.Core.Path.{◌≡◌}
use lib.ListN.{length, replicate}
use Rattle.pseudocode.specs.Compiling.{compiled, compile_from}
use Rattle.pseudocode.proofs.compile.Given as goal

abbrev pub invariant-loop-t : goal.invariant-loop-t
invariant-loop-t l =
    (l.t ≤ l.count) × (length l.sizes ≡ 8)
    × (compile_from l.sheet l.definitions (l.count - l.t) l.t (compiled l.next l.sizes l.code) ≡ compile_from l.sheet l.definitions l.count 0 (compiled l.body (replicate 8 0) l.initial.code))
