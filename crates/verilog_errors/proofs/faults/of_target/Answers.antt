-- `verilog_errors::faults::of_target` meets its contract. Assumes nothing.
use borrow.Author.Rules.{rules}
use mathlib.Core.Path.{refl}
use Rattle.verilog_errors.proofs.Faulting.{target-other, target-again, target_none}
use Rattle.verilog_errors.proofs.faults.of_target.Goals as goal

pub returns-then-n-w : goal.returns-then-n-w
returns-then-n-w c =
    target-other _ _ _ _ _ c.first_named-w.ensures.0 c.if-n-w.true c.breaks.ensures

pub returns-then-f-t : goal.returns-then-f-t
returns-then-f-t c =
    target-again _ _ _ _ _ c.first_named-w.ensures.0 c.if-n-w.false c.first_named-f.ensures.0
    c.if-f-t.true refl c.breaks-then-f-t.ensures

pub returns : goal.returns
returns c =
    target_none _ _ _ _ _ c.first_named-w.ensures.0 c.if-n-w.false c.first_named-f.ensures.0
    c.if-f-t.false c.breaks-2.ensures
