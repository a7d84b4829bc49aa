-- `verilog_names::numbers::enter` meets its contract: wires, registers, inputs. Assumes nothing.
use native.Mathlib.Omega.{arith}
use Rattle.verilog_names.proofs.Entering.{ordered-length, entered_all}
use Rattle.verilog_names.proofs.numbers.enter.Goals as goal

pub enter_role-a-requires : goal.enter_role-a-requires
enter_role-a-requires c =
    let a = c.args in
    (record { count_bound = c.requires.count_bound; role_bound = omega (arith, c.requires.all_value, ordered-length a.roles.now a.count) })

pub enter_role-b-requires : goal.enter_role-b-requires
enter_role-b-requires c =
    let a = c.args in
    (record { count_bound = c.requires.count_bound; role_bound = omega (arith, c.requires.all_value, c.enter_role-a.ensures.0, ordered-length a.roles.now a.count) })

pub enter_role-requires : goal.enter_role-requires
enter_role-requires c =
    let a = c.args in record {
      count_bound = c.requires.count_bound;
      role_bound = omega (
        arith,
        c.requires.all_value,
        c.enter_role-a.ensures.0,
        c.enter_role-b.ensures.0,
        ordered-length a.roles.now a.count,
      );
    }

pub returns : goal.returns
returns c =
    let a = c.args in
    entered_all a.roles.now a.count a.numbers.now a.table.now _ _ _ a.all _ _ _ c.requires.all_value
    c.enter_role-a.ensures c.enter_role-b.ensures c.enter_role.ensures
