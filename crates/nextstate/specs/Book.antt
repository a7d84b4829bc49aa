-- The cycle book (document 01, "Extraction and the cycle run"): what inputs, registers, places and wires are, cycle after cycle, by
-- the extracted expressions alone. "The cycle book is fed the sheet and, in turn, the inputs of the list's accepted instants, and
-- nothing from a state or a table."
use Rattle.std.specs.Prelude.{ℕ, zero, suc, ◌+◌, ◌*◌, ◌-◌, List, [], ◌∷◌, length, get_or, ltb, eqb}
use Rattle.values.specs.declared.Value.{Value}
use Rattle.values.specs.Values.{pick, known, nowhere, same}
use Rattle.values.specs.Planes.{number_of}
use Rattle.sheet.specs.Expression.{Expr}
use Rattle.sheet.specs.Module.{Module}
use Rattle.evaluation.specs.Evaluation.{eval}
use Rattle.events.specs.declared.Inputs.{Inputs}
use Rattle.events.specs.Cycle.{code_of, wire_expr, wire_variable}
use Rattle.events.specs.Calls.{unset, input_of}
use Rattle.nextstate.specs.Rules.{writes, waits_before, waits_below}
use Rattle.nextstate.specs.Nodes.{worked}
use Rattle.nextstate.specs.Extraction.{Tables}

-- "It holds inputs, registers, places and wires": a value for each variable, a place for each thread.
pub record Book : Type 0 where
  pub values : ℕ → Value
  pub places : ℕ → ℕ

-- ---- "Settling sets the wires from 0 up, each to its expression's value."

unfoldable pub put : (ℕ → Value) → ℕ → Value → ℕ → Value
put f v a u = pick (eqb u v) a (f u)

module _ (m : Module Expr) where
  -- The wires below n.
  unfoldable pub settle_below : ℕ → (ℕ → Value) → ℕ → Value
  settle_below zero f = f
  settle_below (suc k) f =
      let g = settle_below k f in
      put g (wire_variable m k) (eval g (wire_expr m k))

  unfoldable pub settle : (ℕ → Value) → ℕ → Value
  settle f = settle_below (length m.wires) f

  unfoldable pub settled : Book → Book
  settled b = record { values = settle b.values; places = b.places }

  -- ---- "it takes the inputs"

  unfoldable pub fed : (ℕ → Value) → Book → Book
  fed a b = record { values = λ v. pick (ltb v m.scope.inputs) (a v) (b.values v); places = b.places }

-- ---- the rise of the clock: "each thread's written registers and its place take the values of the nodes in its place's row, all
-- worked out on the values before"

module _ (m : Module Expr) (T : Tables) where
  -- The row of thread i's wait at p: "Rows, by thread and wait".
  unfoldable pub row_of : ℕ → ℕ → ℕ
  row_of i p = waits_below m i + waits_before (code_of m i) p

  -- Entry c of the row of thread i's wait at p: a register's node, or for 32 the place's.
  unfoldable pub entry : ℕ → ℕ → ℕ → ℕ
  entry i p c = get_or T.rows (33 * row_of i p + c) 0

  -- What a node is worth on the values f.
  unfoldable pub worth : (ℕ → Value) → ℕ → Value
  worth f n = get_or (worked m.scope.widths f T.nodes).values n nowhere

  -- Variable v as the threads below i leave it.
  unfoldable pub taken : Book → ℕ → ℕ → Value
  taken b zero v = b.values v
  taken b (suc i) v = pick (writes m i v) (worth b.values (entry i (b.places i) (v - m.scope.inputs))) (taken b i v)

  -- A thread's next place.
  unfoldable pub next_place : Book → ℕ → ℕ
  next_place b i = pick (ltb i (length m.threads)) (number_of (worth b.values (entry i (b.places i) 32))) (b.places i)

  unfoldable pub rise : Book → Book
  rise b = record { values = taken b (length m.threads); places = next_place b }

  -- ---- the book, from instant to instant

  -- "At first inputs and registers are x, places 0, and it settles."
  unfoldable pub opening : Book
  opening = settled m (record { values = unset m.scope.widths; places = λ i. 0 })

  -- "With the clock 0, it takes the inputs and settles. With the clock 1, it takes the inputs; then .. the values of the nodes ..;
  -- then it settles." A clock that is neither is as one that is 0; demand 3 can't see it.
  unfoldable pub turned : (ℕ → Value) → Book → Book
  turned a b = settled m (pick (same (a 0) (known 1)) (rise (fed m a b)) (fed m a b))

  -- After these instants, from a book on.
  unfoldable pub turned_all : List Inputs → Book → Book
  turned_all [] b = b
  turned_all (a ∷ more) b = turned_all more (turned (input_of a) b)

  unfoldable pub book : List Inputs → Book
  book fed-in = turned_all fed-in opening
