-- `verilog_names::numbers::enter_role` meets its contract. The loop's invariant: the tokens from `i` on are entered, from `k` on.
-- Assumes nothing.
use native.Mathlib.Omega.{arith}
use Rattle.verilog_names.proofs.Entering.{entering-first, entering-room, entering-next, entering-last}
use Rattle.verilog_names.proofs.numbers.enter_role.Goals as goal

pub loop-i-init : goal.loop-i-init
loop-i-init c =
    entering-first _ _ _ _ _ _

pub enter_at-k-requires : goal.enter_at-k-requires
enter_at-k-requires c =
    let a = c.args in
    let l = c.loop-i in record {
      i_bound = omega (arith, l.invariant.0, c.requires.count_bound, c.loop-i-test.true);
      i_len_bound = entering-room a.numbers.now a.roles.now a.role a.count a.above a.table.now _ _ _ _
          (omega (arith, c.loop-i-test.true)) c.requires.role_bound l.invariant;
    }

pub loop-i-preserved : goal.loop-i-preserved
loop-i-preserved c =
    let a = c.args in
    entering-next a.numbers.now a.roles.now a.role a.count a.above a.table.now _ _ _ _ _ _
    (omega (arith, c.loop-i-test.true)) c.loop-i.invariant c.enter_at-k.ensures

pub returns : goal.returns
returns c =
    let a = c.args in
    entering-last a.numbers.now a.roles.now a.role a.count a.above a.table.now _ _ _
    (omega (arith, c.loop-i-test.false)) c.loop-i.invariant
