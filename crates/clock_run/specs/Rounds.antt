-- Many cycles on a plan and on tables that are filled, on one plane of cells from row to row. Defined for plans and tables of any
-- contents.
use Rattle.std.specs.Prelude.{Bool, List, ℕ, zero, suc, ◌+◌, ◌*◌, ◌/◌, eqb, length, replicate}
use Rattle.values.specs.Values.{pick}
use Rattle.events.specs.declared.Inputs.{Inputs}
use Rattle.events.specs.Rows.{whole_rows}
use Rattle.plan.specs.Plan.{Node, Plan}
use Rattle.nextstate.specs.declared.Registers.{Registers}
use Rattle.nextstate.specs.declared.Clocked.{Clocked}
use Rattle.nextstate.specs.CycleRun.{refused}
use Rattle.clock_steps.specs.Settling.{settle}
use Rattle.clock_steps.specs.Taking.{Stand, stand}
use Rattle.clock_run.specs.declared.Rounds.{Rounds}
use Rattle.clock_run.specs.Running.{values_fit, upper_of, registers_fit_on, blank, put_values, hand_on, answer_on, turn_on}

-- After so many cycles, of which the last gave c, the next is refused by number n; or there is no next, and n is 0.
unfoldable pub ended_at : ℕ → ℕ → Clocked → Rounds
ended_at r n c = record { cycles = r; number = n; last = c }

-- What the last of r cycles gave.
unfoldable pub last_on : Plan → Registers → ℕ → Stand → Clocked
last_on q g r b = pick (eqb r 0) (refused 0 g) (answer_on q g (stand (settle q b.cells) b.places))

-- Rows of 16: item 0, the clock's, isn't looked at, item v + 1 is input v + 1.
abbrev pub row_at : ℕ → ℕ
row_at r = 16 * r + 1

module _ (q : Plan) (f : ℕ → Node) (ts numbers : List ℕ) (g : Registers) (ns us : List ℕ) where
  -- 25
  unfoldable pub row_fits : ℕ → Bool
  row_fits r = values_fit q 1 ns us (row_at r) (upper_of q)

  unfoldable pub row_on : ℕ → Stand → Stand
  row_on r b = turn_on q f ts numbers (stand (put_values ns us 1 (row_at r) (upper_of q) b.cells) b.places)

  -- From row r on, n of them.
  unfoldable pub rounds_from : ℕ → ℕ → Stand → Rounds
  rounds_from zero r b = ended_at r 0 (last_on q g r b)
  rounds_from (suc n) r b = pick (row_fits r) (rounds_from n (r + 1) (row_on r b)) (ended_at r 25 (last_on q g r b))

  unfoldable pub rounds_on : Rounds
  rounds_on = rounds_from (length ns / 16) 0 (stand (hand_on q g (replicate 4176 blank)) g.places)

  -- ".. 31, 25": rows that aren't whole are input values of wrong number, and no cycle is run.
  unfoldable pub cycles_on : Rounds
  cycles_on =
      pick (registers_fit_on q g) (pick (whole_rows ns us) rounds_on (ended_at 0 25 (refused 25 g))) (ended_at 0 31 (refused 31 g))

-- ---- cycle run after cycle run, each handed the registers and places that the last one gave back

abbrev pub registers_of : Clocked → Registers
registers_of c = record { value = c.value; unknown = c.unknown; places = c.places }

module _ (call : Registers → Inputs → Clocked) (inputs : ℕ → Inputs) where
  -- From row r on, n of them, where the cycle before gave c, up to the first that is refused.
  unfoldable pub repeat_from : ℕ → ℕ → Clocked → Rounds
  repeat_from zero r c = ended_at r 0 c
  repeat_from (suc n) r c =
      let d = call (registers_of c) (inputs r) in
      pick (eqb d.number 0) (repeat_from n (r + 1) d) (ended_at r d.number c)
