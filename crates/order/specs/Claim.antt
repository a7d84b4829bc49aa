-- Demand 3, the whole claim (document 01, "Extraction and the cycle run", its last two paragraphs). proofs/Order proves it.
use Rattle.std.specs.Prelude.{ℕ, ◌+◌, ◌-◌, ◌^◌, ◌≤◌, ◌<◌, ◌≡◌, ◌≢◌, true, false, List, [], ◌∷◌, ◌++◌, length, get_or}
use Rattle.values.specs.Planes.{value_at}
use Rattle.sheet.specs.Reading.{ok}
use Rattle.sheet.specs.Expression.{Expr}
use Rattle.sheet.specs.Module.{Module, read}
use Rattle.state.specs.declared.State.{State}
use Rattle.state.specs.State.{users, count_of, allowance_of, value_of, place_of}
use Rattle.events.specs.declared.Inputs.{Inputs}
use Rattle.events.specs.Cycle.{variables, wire_variable, quiet}
use Rattle.events.specs.Calls.{start, choose, input_of, inputs_fit}
use Rattle.nextstate.specs.declared.Registers.{Registers}
use Rattle.nextstate.specs.declared.Clocked.{Clocked}
use Rattle.nextstate.specs.Extraction.{Tables, extracted, extract}
use Rattle.nextstate.specs.Book.{Book, book}
use Rattle.nextstate.specs.CycleRun.{cycle_run}
use Rattle.phases.specs.Phases.{all_instructions}
use Rattle.order.specs.Calls.{Call, final, instants, since, Cycles, WholeCycles}
use Rattle.order.specs.Users.{Tallied}

-- ---- "Wherever the list ends"

module _ (s : List ℕ) (m : Module Expr) (T : Tables) (allowances : List ℕ) where
  -- The state reached, and the inputs of the accepted instants.
  abbrev pub end : List Call → State
  end calls = final s calls (start s allowances).state

  abbrev pub fed : List Call → List Inputs
  fed calls = instants s calls (start s allowances).state

  -- "the count has risen since the last accepted instant, or the start, by at most P + 2^W, P being all threads' instructions and
  -- W the wires"; "demand 3's bound is on the four counts together"
  abbrev pub Bounded : List Call → Type 0
  Bounded calls = since s calls (start s allowances).state 0 ≤ all_instructions m + 2 ^ length m.wires

  -- "a state that isn't quiet has a choice that is accepted unless the count is full": "what can stop a choice .. is now its user's used
  -- allowance". So every user whose allowance isn't used up has one. A choice is a byte.
  abbrev pub Progress : List Call → Type 0
  Progress calls =
      quiet m (end calls) ≡ false → (u : ℕ) → u < users → count_of (end calls) u ≢ allowance_of (end calls) u →
      (c : ℕ) × (c < 256) × ((choose s (end calls) u c).number ≡ 0)

  -- "a quiet one has the book's inputs, registers, places (demand 3's waits) and wires"
  abbrev pub BookValues : List Call → Type 0
  BookValues calls =
      quiet m (end calls) ≡ true → (v : ℕ) → v < variables m → value_of (end calls) v ≡ (book m T (fed calls)).values v

  abbrev pub BookPlaces : List Call → Type 0
  BookPlaces calls =
      quiet m (end calls) ≡ true → (i : ℕ) → i < length m.threads → place_of (end calls) i ≡ (book m T (fed calls)).places i

  pub record AtTheEnd (calls : List Call) : Type 0 where
    -- "time and count equal the instants and choices (those in runs too) accepted", each user's count that user's choices
    pub tallied : Tallied s allowances calls
    pub bound : Bounded calls
    pub progress : Progress calls
    pub values : BookValues calls
    pub places : BookPlaces calls

-- ---- the cycle run: "handed the book's registers and places before a cycle and that cycle's inputs 1 up"

module _ (m : Module Expr) where
  pub record Handed (b : Book) (low : Inputs) (g : Registers) (a : Inputs) : Type 0 where
    pub registers : (r : ℕ) → r < m.scope.registers → value_at g.value g.unknown r ≡ b.values (m.scope.inputs + r)
    pub places : (i : ℕ) → i < length m.threads → get_or g.places i 0 ≡ b.places i
    pub inputs : a.count + 1 ≡ m.scope.inputs
    pub upper : (v : ℕ) → v + 1 < m.scope.inputs → input_of a v ≡ input_of low (v + 1)
    -- Arrays as every call has them.
    pub value-length : length g.value ≡ 32
    pub unknown-length : length g.unknown ≡ 32
    pub places-length : length g.places ≡ 8

  -- "it gives the book's registers, places and wires after it"
  pub record Gives (b : Book) (r : Clocked) : Type 0 where
    pub accepted : r.number ≡ 0
    pub registers : (n : ℕ) → n < m.scope.registers → value_at r.value r.unknown n ≡ b.values (m.scope.inputs + n)
    pub places : (i : ℕ) → i < length m.threads → get_or r.places i 0 ≡ b.places i
    pub wires : (k : ℕ) → k < length m.wires → value_at r.wire r.unsure k ≡ b.values (wire_variable m k)

-- Inputs that an instant of this sheet accepts (number 25 is not met).
unfoldable pub AllFit : Module Expr → List Inputs → Type 0
AllFit m [] = Unit {0}
AllFit m (a ∷ l) = (inputs_fit m a ≡ true) × AllFit m l

-- For every cycle: after whole cycles, a low and a high instant more.
abbrev pub EveryCycle : List ℕ → Module Expr → Tables → List ℕ → List ℕ → Type 0
EveryCycle s m T ns rs =
    (past : List Inputs) (low high : Inputs) → AllFit m past → inputs_fit m low ≡ true → inputs_fit m high ≡ true →
    WholeCycles past → WholeCycles (low ∷ high ∷ []) →
    (g : Registers) (a : Inputs) → Handed m (book m T past) low g a →
    Gives m (book m T (past ++ (low ∷ high ∷ []))) (cycle_run s ns rs g a)

-- ---- the claim, of a sheet and the tables that extraction filled for it

pub record Demand3 (s ns rs : List ℕ) : Type 0 where
  pub m : Module Expr
  pub T : Tables
  pub reads : read s ≡ ok m
  pub expressions : extracted m ≡ ok T
  -- For every four allowances and every list of calls from the start whose accepted instants form cycles.
  pub list : (allowances : List ℕ) → length allowances ≡ users → (calls : List Call) →
      Cycles (instants s calls (start s allowances).state) → AtTheEnd s m T allowances calls
  pub cycle : EveryCycle s m T ns rs

-- "In a module that extraction accepts": number 0 of the public call.
abbrev pub Order : Type 0
Order = (s ns rs : List ℕ) → (extract s ns rs).number ≡ 0 → Demand3 s (extract s ns rs).nodes (extract s ns rs).rows
