-- `verilog_names::numbers::enter_at` meets its contract. Assumes nothing.
use mathlib.Core.Path.{sym, ◌∙◌}
use Rattle.verilog_names.proofs.Entering.{enter-none, enter-room, enter_one}
use Rattle.verilog_names.proofs.numbers.enter_at.Goals as goal

pub returns-then-not-has_role : goal.returns-then-not-has_role
returns-then-not-has_role c =
    enter-none _ _ _ _ _ _ (sym c.has_role.ensures ∙ c.if-not-has_role.true)

pub overflow_sub-v : goal.overflow_sub-v
overflow_sub-v c =
    let a = c.args in
    enter-room a.numbers.now a.roles.now a.table.now a.role a.i a.above
    (sym c.has_role.ensures ∙ c.if-not-has_role.false) c.requires.i_len_bound

pub returns : goal.returns
returns c =
    let a = c.args in
    let e = sym c.has_role.ensures ∙ c.if-not-has_role.false in
    enter_one a.numbers.now a.roles.now a.table.now a.role a.i a.above _ _ e
    (enter-room a.numbers.now a.roles.now a.table.now a.role a.i a.above e c.requires.i_len_bound)
    c.up_to.ensures c.enter_id.ensures
