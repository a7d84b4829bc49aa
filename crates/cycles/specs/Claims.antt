-- What is claimed of `prepare`: where it answers 0, whatever the tables held before, `clock_run`'s calls on what it filled are document
-- 01's cycle run on the sheet and the lent tables. proofs/Claims shows it.
use Rattle.std.specs.Prelude.{◌≡◌, List, ℕ, ◌*◌, ◌/◌, ltb, length}
use Rattle.values.specs.Values.{pick}
use Rattle.sheet.specs.Reading.{ok}
use Rattle.sheet.specs.Expression.{Expr}
use Rattle.sheet.specs.Module.{Module}
use Rattle.events.specs.declared.Inputs.{Inputs}
use Rattle.events.specs.Rows.{whole_rows}
use Rattle.plan.specs.Plan.{plan_of, node_at}
use Rattle.nextstate.specs.declared.Registers.{Registers}
use Rattle.nextstate.specs.declared.Clocked.{Clocked}
use Rattle.nextstate.specs.CycleRun.{registers_fit, refused, extractable, cycle_run}
use Rattle.clock_run.specs.declared.Rounds.{Rounds}
use Rattle.clock_run.specs.Running.{cycle_on}
use Rattle.clock_run.specs.Rounds.{ended_at, cycles_on}
use Rattle.clock_run.specs.Traces.{Traced, traced, trace_on}
use Rattle.clock_claims.specs.Traced.{repeat_trace}
use Rattle.clock_claims.specs.Claims.{Whole}
use Rattle.cycles.specs.declared.Cycled.{Cycled}
use Rattle.cycles.specs.Many.{row_inputs, ended, cycles_run}
use Rattle.cycles.specs.Preparing.{Filled, prepared_number, prepared}

-- The tables as long as their types say, of any contents.
pub record Long (t : Filled) : Type 0 where
  pub lent : length t.lent ≡ 25212
  pub table : length t.table ≡ 1152
  pub numbers : length t.numbers ≡ 2048

-- Many cycles as `run` answers them.
unfoldable pub cycled_of : Rounds → Cycled
cycled_of x = ended x.cycles x.number x.last

-- Cycle run after cycle run, with two rows of 88 words for each cycle: 23 where not so many are lent, 31, 25.
unfoldable pub traced_run : Module Expr → (Registers → Inputs → Clocked) → Registers → List ℕ → List ℕ → List ℕ → Traced
traced_run m call g vs xs out =
    pick (ltb (length out / 88) (2 * (length vs / 16))) (traced (ended_at 0 23 (refused 23 g)) out)
    (pick (registers_fit m g)
    (pick (whole_rows vs xs) (repeat_trace m call (row_inputs m.scope.inputs vs xs) (length vs / 16) 0 (refused 0 g) out)
    (traced (ended_at 0 25 (refused 25 g)) out))
    (traced (ended_at 0 31 (refused 31 g)) out))

-- The calls on filled tables, from registers as every caller has them, are those on the sheet.
pub record Same (s ns rs : List ℕ) (t : Filled) (g : Registers) : Type 0 where
  pub cycle : (a : Inputs) → cycle_on (plan_of t.plan) (node_at t.lent) t.table t.numbers g a ≡ cycle_run s ns rs g a
  pub cycles : (vs xs : List ℕ) →
      cycled_of (cycles_on (plan_of t.plan) (node_at t.lent) t.table t.numbers g vs xs) ≡ cycles_run s ns rs g vs xs
  pub trace : (m : Module Expr) → extractable s ≡ ok m → (vs xs out : List ℕ) →
      trace_on (plan_of t.plan) (node_at t.lent) t.table t.numbers g vs xs out ≡ traced_run m (cycle_run s ns rs) g vs xs out

unfoldable pub OnTheSheet : Type 0
OnTheSheet =
    (s ns rs : List ℕ) (t : Filled) → Long t → prepared_number s ns rs ≡ 0 → (g : Registers) → Whole g →
    Same s ns rs (prepared s ns rs t) g
