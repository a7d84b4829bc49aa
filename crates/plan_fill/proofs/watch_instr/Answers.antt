-- `plan_fill::watch_instr` meets its contract. Assumes nothing.
use Rattle.plan_fill.specs.Filling.{watch_term, watch_instr}
use Rattle.plan_fill.proofs.Filling.{up-end}
use Rattle.plan_fill.proofs.watch_instr.Goals as goal

pub returns-in_default : goal.returns-in_default
unfolding watch_instr
returns-in_default c =
    rw c.in_default.is

pub returns : goal.returns
unfolding watch_instr
returns c =
    let a = c.args in
    rw c.in-Wait.is
    (up-end (watch_term a.i c.in-Wait.t) a.watchers.now c.watch_terms.ensures
    c.term_count.ensures)
