-- "Rows, by thread and wait": for each place of a thread the number of waits before it, in the threads before and in its own. Defined
-- for plans of any contents.
use Rattle.std.specs.Prelude.{List, ℕ, zero, suc, ◌+◌, ◌*◌, ◌%◌, get_or, set}
use Rattle.plan.specs.Plan.{Plan}
use Rattle.nextstate.specs.Rules.{one}
use Rattle.clock_nodes.specs.Rows.{fill_row}
use Rattle.clock_steps.specs.Taking.{at_most}

module _ (q : Plan) where
  -- How many of thread i's first n instructions wait.
  unfoldable pub waits_to : ℕ → ℕ → ℕ
  waits_to i zero = 0
  waits_to i (suc p) = waits_to i p + one (q.waits i p)

  -- A thread has 256 instructions at most.
  unfoldable pub waits_in : ℕ → ℕ
  waits_in i = waits_to i (at_most 256 (q.size i))

  -- The places below n; the thread's first row is `first`.
  unfoldable pub number_to : ℕ → ℕ → ℕ → List ℕ → List ℕ
  number_to i first zero ns = ns
  number_to i first (suc p) ns = set (number_to i first p ns) (256 * i + p) ((first + waits_to i p) % 256)

  unfoldable pub number_thread : ℕ → ℕ → List ℕ → List ℕ
  number_thread i first ns = number_to i first (at_most 256 (q.size i)) ns

  -- The first row of thread i.
  unfoldable pub rows_to : ℕ → ℕ
  rows_to zero = 0
  rows_to (suc i) = rows_to i + waits_in i

  -- The threads below i.
  unfoldable pub numbers_to : ℕ → List ℕ → List ℕ
  numbers_to zero ns = ns
  numbers_to (suc i) ns = number_thread i (rows_to i) (numbers_to i ns)

  unfoldable pub number_rows : List ℕ → List ℕ
  number_rows ns = numbers_to (at_most 8 q.threads) ns

-- ---- the rows of the waits, filled

module _ (ns ls rs : List ℕ) where
  -- So many rows from `first` on, of a thread that writes the registers of this mask.
  unfoldable pub fill_from : ℕ → ℕ → ℕ → List ℕ → List ℕ
  fill_from mask first zero ts = ts
  fill_from mask first (suc n) ts = fill_row ns ls rs (first + n) mask (fill_from mask first n ts)

  -- Those of the threads below i; `written` has each thread's mask.
  unfoldable pub fill_below : Plan → List ℕ → ℕ → List ℕ → List ℕ
  fill_below q written zero ts = ts
  fill_below q written (suc i) ts = fill_from (get_or written i 0) (rows_to q i) (waits_in q i) (fill_below q written i ts)

  unfoldable pub fill_rows : Plan → List ℕ → List ℕ → List ℕ
  fill_rows q written ts = fill_below q written (at_most 8 q.threads) ts
