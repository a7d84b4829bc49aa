-- Wires that hold what their expressions are worth, and what the step of a wire does (document 01, "The simulation cycle").
use Rattle.std.specs.Prelude.{ℕ, ◌<◌, ◌≡◌, ◌≢◌, true, false, length}
use Rattle.values.specs.declared.Value.{Value}
use Rattle.sheet.specs.Expression.{Expr}
use Rattle.sheet.specs.Module.{Module}
use Rattle.evaluation.specs.Evaluation.{eval}
use Rattle.state.specs.declared.State.{State}
use Rattle.state.specs.State.{value_of, pending_of, place_of, is_due}
use Rattle.events.specs.Cycle.{wire_expr, wire_variable}

-- Every wire holds its expression's value.
abbrev pub Consistent : Module Expr → (ℕ → Value) → Type 0
Consistent m f = (k : ℕ) → k < length m.wires → f (wire_variable m k) ≡ eval f (wire_expr m k)

-- Every wire that isn't due does.
abbrev pub Settles : Module Expr → State → Type 0
Settles m st =
    (k : ℕ) → k < length m.wires → is_due st k ≡ false → value_of st (wire_variable m k) ≡ eval (value_of st) (wire_expr m k)

-- The step of wire k in a module that extraction accepts: one value and some marks of higher wires change, nothing else.
pub record WireStep (m : Module Expr) (old new : State) (k : ℕ) : Type 0 where
  pub due : is_due old k ≡ true
  pub value : value_of new (wire_variable m k) ≡ eval (value_of old) (wire_expr m k)
  pub others : (v : ℕ) → v ≢ wire_variable m k → value_of new v ≡ value_of old v
  pub pending : (r : ℕ) → pending_of new r ≡ pending_of old r
  pub places : (j : ℕ) → place_of new j ≡ place_of old j
  pub cleared : is_due new k ≡ false
  pub lower : (j : ℕ) → j < k → is_due new j ≡ is_due old j
