-- `clock_check::tables_fit` meets its contract: the nodes, then the rows. Assumes nothing.
use mathlib.Core.Path.{sym, ◌∙◌}
use Rattle.plan.specs.Plan.{plan_of}
use Rattle.clock_check.proofs.Filling.{tables-off, tables-on}
use Rattle.clock_check.proofs.tables_fit.Goals as goal

pub nodes_fit-requires : goal.nodes_fit-requires
nodes_fit-requires c =
    c.used_nodes-used.ensures

pub returns-then-not-nodes_fit : goal.returns-then-not-nodes_fit
returns-then-not-nodes_fit c =
    let a = c.args in record {
      value = tables-off (plan_of a.plan.now) a.nodes.now a.written.now a.rows.now
          (sym c.nodes_fit.ensures.value ∙ c.if-not-nodes_fit.true);
      sizes_after = c.nodes_fit.ensures.sizes_after;
    }

pub rows_fit-requires : goal.rows_fit-requires
rows_fit-requires c =
    c.used_nodes-used.ensures

pub returns : goal.returns
returns c =
    let a = c.args in record {
      value = tables-on (plan_of a.plan.now) a.nodes.now a.written.now a.rows.now
          (sym c.nodes_fit.ensures.value ∙ c.if-not-nodes_fit.false) c.nodes_fit.ensures.sizes_after
          c.rows_fit.ensures;
      sizes_after = c.nodes_fit.ensures.sizes_after;
    }
