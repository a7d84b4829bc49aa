-- What the plain run stores (document 01, "The simulation cycle": "In a module that extraction accepts, the plain run stores each
-- wire at most once after an instant's last change of inputs or registers"). proofs/Plain proves it.
use Rattle.std.specs.Prelude.{ℕ, suc, ◌+◌, ◌<◌, ◌≡◌, ◌≢◌, ◌⊎◌, length}
use Rattle.sheet.specs.Expression.{Expr}
use Rattle.sheet.specs.Module.{Module}
use Rattle.state.specs.declared.State.{State}
use Rattle.state.specs.State.{value_of}
use Rattle.events.specs.Calls.{run_by, plain_choice}

-- The plain run of user u from a state on; its choices are counted from 0.
module _ (m : Module Expr) (u : ℕ) (st : State) where
  -- The state that p choices lead to.
  unfoldable pub state_at : ℕ → State
  state_at p = (run_by m u (plain_choice m) p st).state

  -- Choice p of the run of at most n is taken, and stores wire k.
  pub record Stores (n p k : ℕ) : Type 0 where
    pub taken : p < (run_by m u (plain_choice m) n st).accepted
    pub wire : k < length m.wires
    pub choice : plain_choice m (state_at p) ≡ length m.threads + k

  -- Choice p changes an input or a register.
  pub record Changes (p : ℕ) : Type 0 where
    pub variable : ℕ
    pub not-wire : variable < m.scope.inputs + m.scope.registers
    pub differs : value_of (state_at (suc p)) variable ≢ value_of (state_at p) variable

  -- Some choice between two others does.
  abbrev pub ChangeBetween : ℕ → ℕ → Type 0
  ChangeBetween p q = (r : ℕ) × (p < r) × (r < q) × Changes r

  -- "stores each wire at most once": between two stores of one wire an input or a register changes.
  abbrev pub StoresOnce : ℕ → Type 0
  StoresOnce n = (k p q : ℕ) → p < q → Stores n p k → Stores n q k → ChangeBetween p q

  -- More than that: between two stores either wires rise, or an input or a register changes.
  abbrev pub StoresRising : ℕ → Type 0
  StoresRising n = (k j p q : ℕ) → p < q → Stores n p k → Stores n q j → (k < j) ⊎ ChangeBetween p q
