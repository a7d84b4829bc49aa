-- The claims of specs/Claims. Assumes nothing.
use mathlib.Core.Path.{◌≡◌, refl, ◌∙◌}
use mathlib.Core.Bool.{Bool, true, false, ◌&&◌}
use mathlib.Core.List.{[]}
use Rattle.state.specs.Rows.{list_of}
use Rattle.events.proofs.Cycle.{and_left}
use Rattle.nextstate.specs.Nodes.{node_at}
use Rattle.nextstate.specs.CycleRun.{nodes_fit, rows_fit, tables_fit, tables_in}
use Rattle.clock_check.specs.Judging.{widths_below, nodes_fit_below, rows_fit_on, tables_fit_on}
use Rattle.clock_check.specs.Claims.{JudgedIsFit, WidthsAreTheNodes}
use Rattle.clock_check.proofs.Filling.{table-full}
use Rattle.clock_check.proofs.Holding.{alike, rows-is-fit}

pub judged-is-fit : JudgedIsFit
unfolding JudgedIsFit tables_fit_on tables_fit tables_in
judged-is-fit m z q h written w ns rs = by (nodes_fit_below q ns 4096) refl
  where
    by : (t : Bool) → nodes_fit_below q ns 4096 ≡ t →
        (nodes_fit_below q ns 4096 && rows_fit_on q (widths_below q ns 4096) rs written ns)
        ≡ (nodes_fit m (list_of 4096 (node_at ns)) [] && rows_fit m (tables_in ns rs))
    by true e =
        let a = alike m z q h ns 4096 in
        rw (← a.fit, e, a.widths e) (rows-is-fit m z q h ns rs written w)
    by false e = rw (← (alike m z q h ns 4096).fit, e)

pub widths-are-the-nodes : WidthsAreTheNodes
unfolding WidthsAreTheNodes tables_fit_on
widths-are-the-nodes m z q h written ns rs t =
    let e = and_left (nodes_fit_below q ns 4096) (rows_fit_on q (widths_below q ns 4096) rs written ns) t in
    table-full q ns e ∙ (alike m z q h ns 4096).widths e
