-- Many cycles on a plan and on tables that are filled, with two rows of each in words that the caller lends. Defined for plans and tables of
-- any contents.
use Rattle.std.specs.Prelude.{List, ℕ, zero, suc, ◌+◌, ◌-◌, ◌*◌, ◌/◌, ltb, eqb, length, get_or, set, replicate}
use Rattle.values.specs.Values.{pick}
use Rattle.values.specs.Cells.{cell_of, cell_at}
use Rattle.events.specs.Rows.{whole_rows}
use Rattle.plan.specs.Plan.{Node, Plan}
use Rattle.nextstate.specs.declared.Registers.{Registers}
use Rattle.nextstate.specs.declared.Clocked.{Clocked}
use Rattle.nextstate.specs.CycleRun.{refused}
use Rattle.clock_steps.specs.Taking.{Stand, stand, rise}
use Rattle.clock_run.specs.declared.Rounds.{Rounds}
use Rattle.clock_run.specs.Running.{upper_of, registers_fit_on, blank, put_values, hand_on, answer_on, settled_on}
use Rattle.clock_run.specs.Rounds.{ended_at, row_at, row_fits}

-- ---- a row of 88 words: the cells of 80 variables, of which `end` are the sheet's, then eight places. A cell is its number, and
-- 4,294,967,296 times the marks of its unknown bits more.

-- The clock as given; past the sheet's variables nothing is known.
unfoldable pub word_of : ℕ → ℕ → List ℕ → List ℕ → ℕ → ℕ
word_of end clock cs ps k =
    pick (eqb k 0) clock (pick (ltb k 80) (pick (ltb k end) (cell_of (cell_at cs k)) blank) (get_or ps (k - 80) 0))

-- The first n words of a row, from place `at` on.
unfoldable pub put_words : (ℕ → ℕ) → ℕ → ℕ → List ℕ → List ℕ
put_words word at zero ws = ws
put_words word at (suc k) ws = set (put_words word at k ws) (at + k) (word k)

-- The words of a stand, with the clock as given.
unfoldable pub row_word : Plan → ℕ → Stand → ℕ → ℕ
row_word q clock b k = word_of (q.inputs + q.registers + q.wires) clock b.cells b.places k

-- Both rows of a cycle.
unfoldable pub put_both : (ℕ → ℕ) → (ℕ → ℕ) → ℕ → List ℕ → List ℕ
put_both low high at ws = put_words high (at + 88) 88 (put_words low at 88 ws)

-- ---- a cycle on fed cells, and its rows

pub record TurnTraced : Type 0 where
  pub stood : Stand
  pub words : List ℕ

abbrev pub turn_traced : Stand → List ℕ → TurnTraced
turn_traced b ws = record { stood = b; words = ws }

module _ (q : Plan) (f : ℕ → Node) (ts numbers : List ℕ) where
  -- The wires settled after the rise.
  unfoldable pub high_on : Stand → Stand
  high_on b = settled_on q f ts numbers (rise q f ts numbers b)

  unfoldable pub trace_turn : ℕ → Stand → List ℕ → TurnTraced
  trace_turn at b ws =
      let low = settled_on q f ts numbers b in
      let high = high_on low in
      turn_traced high (put_both (row_word q 0 low) (row_word q 1 high) at ws)

-- ---- the cycles, and the words

pub record Traced : Type 0 where
  pub rounds : Rounds
  pub words : List ℕ

abbrev pub traced : Rounds → List ℕ → Traced
traced x ws = record { rounds = x; words = ws }

-- What the last of r cycles gave, whose wires have settled.
unfoldable pub taken_on : Plan → Registers → ℕ → Stand → Clocked
taken_on q g r b = pick (eqb r 0) (refused 0 g) (answer_on q g b)

module _ (q : Plan) (f : ℕ → Node) (ts numbers : List ℕ) (g : Registers) (ns us : List ℕ) where
  -- The inputs of row r put.
  abbrev pub fed_on : ℕ → Stand → Stand
  fed_on r b = stand (put_values ns us 1 (row_at r) (upper_of q) b.cells) b.places

  -- From row r on, n of them.
  unfoldable pub trace_from : ℕ → ℕ → Stand → List ℕ → Traced
  trace_from zero r b ws = traced (ended_at r 0 (taken_on q g r b)) ws
  trace_from (suc n) r b ws =
      let t = trace_turn q f ts numbers (176 * r) (fed_on r b) ws in
      pick (row_fits q f ts numbers g ns us r) (trace_from n (r + 1) t.stood t.words) (traced (ended_at r 25 (taken_on q g r b)) ws)

  unfoldable pub trace_rows : List ℕ → Traced
  trace_rows ws = trace_from (length ns / 16) 0 (stand (hand_on q g (replicate 4176 blank)) g.places) ws

  -- "23 a lent table of another length": two rows of words for each row of inputs.
  unfoldable pub trace_on : List ℕ → Traced
  trace_on ws =
      pick (ltb (length ws / 88) (2 * (length ns / 16))) (traced (ended_at 0 23 (refused 23 g)) ws)
      (pick (registers_fit_on q g)
      (pick (whole_rows ns us) (trace_rows ws) (traced (ended_at 0 25 (refused 25 g)) ws))
      (traced (ended_at 0 31 (refused 31 g)) ws))
