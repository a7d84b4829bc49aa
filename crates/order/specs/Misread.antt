-- The misreadings and the empty compilers that document 01 names ("Misreadings to shut out"), each as the book that it would keep. Their
-- opening and their wires are the right ones, so that each differs from `book` in its one point. proofs/ShutOut shows that demand 3 is
-- false of each.
use Rattle.std.specs.Prelude.{ℕ, zero, suc, ◌-◌, ◌<◌, ◌≡◌, ◌≢◌, true, List, [], ◌∷◌, length}
use Rattle.values.specs.declared.Value.{Value}
use Rattle.values.specs.Values.{pick, known, same}
use Rattle.sheet.specs.Reading.{ok}
use Rattle.sheet.specs.Expression.{Expr}
use Rattle.sheet.specs.Module.{Module, read}
use Rattle.state.specs.State.{value_of}
use Rattle.events.specs.declared.Inputs.{Inputs}
use Rattle.events.specs.Cycle.{variables, quiet}
use Rattle.events.specs.Calls.{start, input_of}
use Rattle.nextstate.specs.Rules.{writes}
use Rattle.nextstate.specs.Nodes.{Node, a_variable, a_constant, an_unknown, a_unary, a_binary, a_conditional, a_branch}
use Rattle.nextstate.specs.Extraction.{Tables, extracted}
use Rattle.nextstate.specs.Book.{Book, settled, fed, entry, worth, next_place, rise, opening, book}
use Rattle.order.specs.Calls.{Call, final, instants, Cycles}

-- What the book has of a module, its tables and the inputs of the accepted instants.
abbrev pub Reading : Type 0
Reading = Module Expr → Tables → List Inputs → Book

-- From instant to instant by another turn than nextstate's.
unfoldable pub turned_by : ((ℕ → Value) → Book → Book) → List Inputs → Book → Book
turned_by turn [] b = b
turned_by turn (a ∷ more) b = turned_by turn more (turn (input_of a) b)

-- The book takes the inputs and settles, whatever the clock.
unfoldable pub idle_turn : Module Expr → (ℕ → Value) → Book → Book
idle_turn m a b = settled m (fed m a b)

-- ---- "?: for a branch: on x it gives x, where the thread takes the other leg."

unfoldable pub conditional : Node → Node
conditional (a_variable v) = a_variable v
conditional (a_constant w n) = a_constant w n
conditional (an_unknown w) = an_unknown w
conditional (a_unary o a) = a_unary o a
conditional (a_binary o a b) = a_binary o a b
conditional (a_conditional c a b) = a_conditional c a b
conditional (a_branch c a b) = a_conditional c a b

unfoldable pub conditionals : List Node → List Node
conditionals [] = []
conditionals (n ∷ ns) = conditional n ∷ conditionals ns

unfoldable pub conditional_for_branch : Reading
conditional_for_branch m T = book m (record { nodes = conditionals T.nodes; rows = T.rows })

-- ---- "Later assignments committed thread by thread."

module _ (m : Module Expr) (T : Tables) where
  -- Each thread's registers, worked out on what the threads below it left.
  unfoldable pub taken_in_turn : Book → ℕ → ℕ → Value
  taken_in_turn b zero v = b.values v
  taken_in_turn b (suc i) v =
      pick (writes m i v) (worth m T (taken_in_turn b i) (entry m T i (b.places i) (v - m.scope.inputs))) (taken_in_turn b i v)

  unfoldable pub rise_in_turn : Book → Book
  rise_in_turn b = record { values = taken_in_turn b (length m.threads); places = next_place m T b }

  unfoldable pub turn_in_turn : (ℕ → Value) → Book → Book
  turn_in_turn a b = settled m (pick (same (a 0) (known 1)) (rise_in_turn (fed m a b)) (fed m a b))

unfoldable pub thread_by_thread : Reading
thread_by_thread m T l = turned_by (turn_in_turn m T) l (opening m T)

-- ---- "A wait fired by the write and not by the change." Every instant writes the clock.

unfoldable pub turn_on_write : Module Expr → Tables → (ℕ → Value) → Book → Book
turn_on_write m T a b = settled m (rise m T (fed m a b))

unfoldable pub fired_by_the_write : Reading
fired_by_the_write m T l = turned_by (turn_on_write m T) l (opening m T)

-- ---- "Wires settled after the rise only."

unfoldable pub turn_unsettled : Module Expr → Tables → (ℕ → Value) → Book → Book
turn_unsettled m T a b = pick (same (a 0) (known 1)) (settled m (rise m T (fed m a b))) (fed m a b)

unfoldable pub settled_after_the_rise : Reading
settled_after_the_rise m T l = turned_by (turn_unsettled m T) l (opening m T)

-- ---- "right in the first cycle and idle afterwards"

unfoldable pub idle_afterwards : Reading
idle_afterwards m T [] = book m T []
idle_afterwards m T (low ∷ []) = book m T (low ∷ [])
idle_afterwards m T (low ∷ high ∷ l) = turned_by (idle_turn m) l (book m T (low ∷ high ∷ []))

-- ---- "nothing run, state handed back"

unfoldable pub nothing_run : Reading
nothing_run m T l = turned_by (idle_turn m) l (opening m T)

-- ---- "the same table for each module"

unfoldable pub same_tables : Tables → Reading
same_tables same m T = book m same

-- ---- shut out: a sheet that extraction accepts and a list of calls whose accepted instants form cycles, which ends quiet, and there
-- a variable has another value than in this reading

pub record ShutOut (R : Reading) : Type 0 where
  pub s : List ℕ
  pub m : Module Expr
  pub T : Tables
  pub reads : read s ≡ ok m
  pub expressions : extracted m ≡ ok T
  pub allowances : List ℕ
  pub calls : List Call
  pub cycles : Cycles (instants s calls (start s allowances).state)
  pub rests : quiet m (final s calls (start s allowances).state) ≡ true
  pub variable : ℕ
  pub within : variable < variables m
  pub differs :
      value_of (final s calls (start s allowances).state) variable
      ≢ (R m T (instants s calls (start s allowances).state)).values variable

pub record Misreadings : Type 0 where
  pub branch : ShutOut conditional_for_branch
  pub commit : ShutOut thread_by_thread
  pub wait : ShutOut fired_by_the_write
  pub wires : ShutOut settled_after_the_rise
  pub idle : ShutOut idle_afterwards
  pub nothing : ShutOut nothing_run
  pub tables : (same : Tables) → ShutOut (same_tables same)
