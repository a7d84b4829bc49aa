-- What is claimed of the judgement: on the plan of a module it is number 24 of document 01, and where it holds the nodes' widths are
-- filled in. proofs/Claims shows it.
use Rattle.std.specs.Prelude.{◌≡◌, true, false, List, [], ℕ, ◌+◌, ◌<◌, length, get_or}
use Rattle.sheet.specs.Expression.{Expr}
use Rattle.sheet.specs.Module.{Module}
use Rattle.masks.specs.Masks.{bits}
use Rattle.state.specs.Rows.{list_of}
use Rattle.soundness.specs.Soundness.{Sound}
use Rattle.plan.specs.Plan.{Plan}
use Rattle.plan_fill.specs.Holding.{Holds}
use Rattle.nextstate.specs.Rules.{writes}
use Rattle.nextstate.specs.Nodes.{node_at}
use Rattle.nextstate.specs.CycleRun.{widths_from, tables_fit, tables_in}
use Rattle.clock_check.specs.Judging.{tables_fit_on, width_table}

-- The masks of the registers that each thread of a module writes.
unfoldable pub Writers : Module Expr → List ℕ → Type 0
Writers m written =
    (i r : ℕ) → i < length m.threads → get_or (bits (get_or written i 0)) r false ≡ writes m i (m.scope.inputs + r)

unfoldable pub JudgedIsFit : Type 0
JudgedIsFit =
    (m : Module Expr) → Sound m → (q : Plan) → Holds m q → (written : List ℕ) → Writers m written → (ns rs : List ℕ) →
    tables_fit_on q written ns rs ≡ tables_fit m (tables_in ns rs)

unfoldable pub WidthsAreTheNodes : Type 0
WidthsAreTheNodes =
    (m : Module Expr) → Sound m → (q : Plan) → Holds m q → (written ns rs : List ℕ) → tables_fit_on q written ns rs ≡ true →
    width_table q ns ≡ widths_from m (list_of 4096 (node_at ns)) []
