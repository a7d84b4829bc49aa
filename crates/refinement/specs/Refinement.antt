-- The threads of a state that stand off a wait, as 32 marks.
use Rattle.std.specs.Prelude.{ℕ, zero, suc, Bool, ◌&&◌, List, [], ◌∷◌, length, ltb}
use Rattle.sheet.specs.Expression.{Expr}
use Rattle.sheet.specs.Module.{Module}
use Rattle.state.specs.declared.State.{State}
use Rattle.events.specs.Cycle.{thread_enabled}

-- The test on each number from i on, n of them.
unfoldable pub each : ℕ → ℕ → (ℕ → Bool) → List Bool
each zero i f = []
each (suc n) i f = f i ∷ each n (suc i) f

unfoldable pub ready_in : Module Expr → State → List Bool
ready_in m st = each 32 0 (λ i. ltb i (length m.threads) && thread_enabled m st i)
