-- `verilog_names::tokens::count_of` meets its contract. The loop's invariant: those so far and those from `i` on are all.
-- Assumes nothing.
use mathlib.Core.Path.{sym, ◌∙◌}
use native.Mathlib.Omega.{arith}
use Rattle.verilog_names.specs.Chosen.{has_role}
use Rattle.verilog_names.proofs.Chosen.{chosen-all, chosen-few, count-in, count-out, count-done}
use Rattle.verilog_names.proofs.tokens.count_of.Goals.{else-has_role, then-has_role}
use Rattle.verilog_names.proofs.tokens.count_of.Goals as goal

pub loop-i-init : goal.loop-i-init
loop-i-init c =
    rw chosen-all (omega arith)

pub overflow_add-n : goal.overflow_add-n
overflow_add-n c =
    omega (arith, chosen-few (has_role c.args.roles.now c.args.role) c.args.count 0)

pub loop-i-preserved : goal.loop-i-preserved
loop-i-preserved c =
    let test = has_role c.args.roles.now c.args.role in
    let n = c.args.count in
    let i = c.loop-i.i in
    let step = c.loop-i-test.true in
    elim c.if-has_role.branch [
      | then-has_role w ↦ omega (arith, w.n-is, count-in test n i step (sym c.has_role.ensures ∙ w.if-has_role.true))
      | else-has_role w ↦ omega (arith, w.n-is, count-out test n i step (sym c.has_role.ensures ∙ w.if-has_role.false))
    ]

pub returns : goal.returns
returns c =
    omega (
      arith,
      count-done (has_role c.args.roles.now c.args.role)
          c.args.count c.loop-i.i c.loop-i-test.false,
    )
