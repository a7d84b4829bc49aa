-- A sheet and lent tables, judged and laid out once for `clock_run`'s calls: "Cycle run: 23, 1 to 21, 24", before registers and inputs are
-- looked at.
use Rattle.std.specs.Prelude.{List, [], ℕ, ◌+◌, length, replicate}
use Rattle.values.specs.Values.{pick}
use Rattle.sheet.specs.Reading.{Res, ok, no}
use Rattle.sheet.specs.Expression.{Expr, located}
use Rattle.sheet.specs.Module.{Module, read_sheet}
use Rattle.sheet.specs.Answers.{sheet_answer}
use Rattle.masks.specs.Masks.{mask}
use Rattle.state.specs.Rows.{list_of}
use Rattle.plan.specs.Plan.{plan_of}
use Rattle.plan_fill.specs.Filling.{filled_plan}
use Rattle.nextstate.specs.Rules.{writes}
use Rattle.nextstate.specs.Nodes.{node_at}
use Rattle.nextstate.specs.Extraction.{Tables, right_lengths}
use Rattle.nextstate.specs.CycleRun.{widths_from, tables_fit, tables_in, extractable}
use Rattle.clock_nodes.specs.Reach.{reach}
use Rattle.clock_nodes.specs.Copying.{copy_all, low_all}
use Rattle.clock_steps.specs.Numbers.{number_rows, fill_rows}

-- ---- the number: 0 where the tables are filled

unfoldable pub tables_number : Res (Module Expr) → Tables → ℕ
tables_number (ok m) T = pick (tables_fit m T) 0 24
tables_number (no n p) T = n

unfoldable pub prepared_number : List ℕ → List ℕ → List ℕ → ℕ
prepared_number s ns rs = pick (right_lengths ns rs) (tables_number (extractable s) (tables_in ns rs)) 23

-- ---- what is filled: the sheet's plan, the lent nodes in a plan's form, the rows of the waits, and the row of each place

pub record Filled : Type 0 where
  pub plan : List ℕ
  pub lent : List ℕ
  pub table : List ℕ
  pub numbers : List ℕ

abbrev pub filled : List ℕ → List ℕ → List ℕ → List ℕ → Filled
filled ws ls ts ms = record { plan = ws; lent = ls; table = ts; numbers = ms }

-- For each thread the registers that it writes.
unfoldable pub written_by : Module Expr → List ℕ
written_by m = list_of (length m.threads) (λ i. mask (list_of 32 (λ r. writes m i (m.scope.inputs + r))))

-- Lent nodes with their widths, and rows, over the words of `t`; the plan stands already.
unfoldable pub fill_lent : List ℕ → List ℕ → List ℕ → List ℕ → Filled → Filled
fill_lent ns us rs written t =
    filled t.plan (copy_all ns us (reach rs) t.lent)
    (fill_rows ns (low_all ns (reach rs) (replicate 4096 0)) rs (plan_of t.plan) written t.table)
    (number_rows (plan_of t.plan) t.numbers)

-- The sheet's plan.
abbrev pub sheet_plan : List ℕ → List ℕ
sheet_plan s = filled_plan s (sheet_answer (read_sheet (located s) s)).layout (replicate 25212 0)

module _ (s ns rs : List ℕ) (t : Filled) where
  unfoldable pub filled_in : Module Expr → Filled
  filled_in m =
      fill_lent ns (widths_from m (list_of 4096 (node_at ns)) []) rs (written_by m)
      (filled (sheet_plan s) t.lent t.table t.numbers)

  -- What is refused leaves all of them as they were.
  unfoldable pub filled_or : Res (Module Expr) → Filled
  filled_or (ok m) = pick (tables_fit m (tables_in ns rs)) (filled_in m) t
  filled_or (no n p) = t

  unfoldable pub prepared : Filled
  prepared = pick (right_lengths ns rs) (filled_or (extractable s)) t
