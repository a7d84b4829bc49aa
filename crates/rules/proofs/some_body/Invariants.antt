-- `rules::some_body` meets its contract. The loop's invariant: what is left of the threads decides. Assumes nothing.
use mathlib.Core.Path.{◌≡◌}
use mathlib.Core.Bool.{Bool}
use Prim.Native.Nat.{◌-◌, ◌≤◌}
use Rattle.rules.specs.declared.Waiting.{Waiting}
use Rattle.rules.specs.Walking.{some_from}
use Rattle.rules.proofs.some_body.Given as goal

abbrev pub invariant-loop : goal.invariant-loop
invariant-loop g l =
    (l.counter ≤ l.threads)
    × ((f : Waiting → Bool) → ((w : Waiting) (b : Bool) → goal.F-post g l.holds w b → b ≡ f w)
    → some_from f l.sheet l.definitions l.threads l.body ≡ some_from f l.sheet l.definitions (l.threads - l.counter) l.next)
