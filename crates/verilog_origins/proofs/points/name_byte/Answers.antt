-- `verilog_origins::points::name_byte` meets its contract. The loop's invariant: the first from `i` on is the first of all.
-- Assumes nothing.
use mathlib.Core.Path.{refl, sym, ◌∙◌}
use native.Mathlib.Omega.{arith}
use Rattle.verilog_origins.specs.Points.{name_byte}
use Rattle.verilog_origins.proofs.Pointing.{differs-over, differs-here, differs-on}
use Rattle.verilog_origins.proofs.points.name_byte.Goals as goal

pub loop-i-init : goal.loop-i-init
loop-i-init c =
    refl

pub returns-then-zeros-i : goal.returns-then-zeros-i
unfolding name_byte
returns-then-zeros-i c =
    (sym (differs-here _ _ _ c.loop-i-test.true c.if-zeros-i.true) ∙ c.loop-i.invariant, omega arith)

pub loop-i-preserved : goal.loop-i-preserved
loop-i-preserved c =
    differs-on _ _ _ c.loop-i-test.true c.if-zeros-i.false ∙ c.loop-i.invariant

pub returns : goal.returns
unfolding name_byte
returns c =
    (sym (differs-over _ _ _ c.loop-i-test.false) ∙ c.loop-i.invariant, omega arith)
