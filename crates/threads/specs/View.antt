-- What a thread sees of a state, beside others, and what it would see alone.
use Rattle.std.specs.Prelude.{ℕ, ◌+◌, ◌<◌, ◌≡◌, ◌≢◌, false}
use Rattle.sheet.specs.Expression.{Expr}
use Rattle.sheet.specs.Module.{Module}
use Rattle.state.specs.declared.State.{State}
use Rattle.state.specs.State.{value_of, pending_of, place_of}
use Rattle.events.specs.Cycle.{code_of}
use Rattle.nextstate.specs.Rules.{plain_writes, defers}
use Rattle.threads.specs.Resting.{Way}
use Rattle.threads.specs.Alone.{Local, alone}

-- Variable v is written plainly by no other thread than i; register r is assigned later by no other.
abbrev pub Sees : Module Expr → ℕ → ℕ → Type 0
Sees m i v = (j : ℕ) → j ≢ i → plain_writes m j v ≡ false

abbrev pub SeesPending : Module Expr → ℕ → ℕ → Type 0
SeesPending m i r = (j : ℕ) → j ≢ i → defers m j (m.scope.inputs + r) ≡ false

-- Thread i of a state is where it would be alone after n instructions from L on.
pub record View (m : Module Expr) (L : Local) (st : State) (i n : ℕ) : Type 0 where
  pub way : Way (code_of m i) L.place n (alone m i n L).place
  pub place : place_of st i ≡ (alone m i n L).place
  pub values : (v : ℕ) → Sees m i v → value_of st v ≡ (alone m i n L).values v
  pub pending : (r : ℕ) → r < m.scope.registers → SeesPending m i r → pending_of st r ≡ (alone m i n L).pending r
