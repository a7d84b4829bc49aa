-- The two phases of a clock cycle in a module that keeps extraction's rules: the state is settling (every thread at a wait,
-- nothing pending, only wires run), or, after a rise of the clock, running (only threads run, then the commit). A phase says
-- of a state which book it will agree with at rest, and counts the choices since the last instant or the start.
-- proofs/Phases shows that every step and instant keeps it.
use Rattle.std.specs.Prelude.{ℕ, zero, suc, ◌+◌, ◌^◌, ◌≤◌, ◌<◌, ◌≡◌, true, false, length}
use Rattle.std.proofs.Math.Option.{none}
use Rattle.values.specs.declared.Value.{Value}
use Rattle.values.specs.Values.{pick, known, same}
use Rattle.sheet.specs.Expression.{Expr}
use Rattle.sheet.specs.Module.{Module}
use Rattle.state.specs.declared.State.{State}
use Rattle.state.specs.State.{value_of, pending_of, place_of, is_due}
use Rattle.events.specs.Cycle.{variables, code_of, instr_at, current, is_wait}
use Rattle.nextstate.specs.Book.{Book, settle, settled, fed}
use Rattle.threads.specs.Alone.{begin, rise_alone}
use Rattle.threads.specs.View.{View}
use Rattle.settling.specs.Settles.{Settles}
use Rattle.settling.specs.Potential.{potential}

-- ---- the bound's first part: all threads' instructions

-- Those of the threads below n.
unfoldable pub instructions_up_to : Module Expr → ℕ → ℕ
instructions_up_to m zero = 0
instructions_up_to m (suc i) = instructions_up_to m i + length (code_of m i)

unfoldable pub all_instructions : Module Expr → ℕ
all_instructions m = instructions_up_to m (length m.threads)

-- The steps of the threads below n, together.
unfoldable pub steps_up_to : (ℕ → ℕ) → ℕ → ℕ
steps_up_to steps zero = 0
steps_up_to steps (suc i) = steps_up_to steps i + steps i

-- ---- the book from one instant to the next, the rise of the clock told by the threads run alone

unfoldable pub turned_alone : Module Expr → (ℕ → Value) → Book → Book
turned_alone m a b = settled m (pick (same (a 0) (known 1)) (rise_alone m (fed m a b)) (fed m a b))

-- ---- rest, part by part

module _ (m : Module Expr) (st : State) where
  -- Every thread is at a wait.
  abbrev pub Still : Type 0
  Still = (i : ℕ) → i < length m.threads → is_wait (current m st i) ≡ true

  -- No register has a pending value.
  abbrev pub Clear : Type 0
  Clear = (r : ℕ) → r < m.scope.registers → pending_of st r ≡ none

  -- No wire is due.
  abbrev pub Dry : Type 0
  Dry = (k : ℕ) → k < length m.wires → is_due st k ≡ false

-- ---- the phases of a state, on its way to book b, n choices after the last instant or the start

module _ (m : Module Expr) (b : Book) (st : State) (n : ℕ) where
  -- Wires alone are left to run. What settling makes of the values is the book's; a due wire weighs what its store can cost.
  pub record Settling : Type 0 where
    pub still : Still m st
    pub clear : Clear m st
    pub settles : Settles m st
    pub values : (v : ℕ) → v < variables m → settle m (value_of st) v ≡ b.values v
    pub places : (i : ℕ) → i < length m.threads → place_of st i ≡ b.places i
    pub bound : n + potential (length m.wires) (is_due st) ≤ all_instructions m + 2 ^ length m.wires

  -- The clock has risen, and threads alone run: each is where it would be alone after so many steps from its wait on.
  pub record Running : Type 0 where
    -- The values just after the rise, and the waits that it fired.
    pub risen : Book
    pub waited : (i : ℕ) → i < length m.threads → is_wait (instr_at (code_of m i) (risen.places i)) ≡ true
    pub steps : ℕ → ℕ
    pub view : (i : ℕ) → i < length m.threads → View m (begin m i risen.values (risen.places i)) st i (steps i)
    pub total : steps_up_to steps (length m.threads) ≡ n
    pub dry : Dry m st
    pub settles : Settles m st
    pub values : (v : ℕ) → v < variables m → settle m (rise_alone m risen).values v ≡ b.values v
    pub places : (i : ℕ) → i < length m.threads → (rise_alone m risen).places i ≡ b.places i

  pub data Phase : Type 0 where
    settling : Settling → Phase
    running : Running → Phase
