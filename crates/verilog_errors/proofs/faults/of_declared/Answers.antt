-- `verilog_errors::faults::of_declared` meets its contract. Assumes nothing.
use borrow.Author.Rules.{rules}
use mathlib.Core.Path.{refl}
use Rattle.verilog_errors.proofs.Faulting.{declared-again, declared-other, declared-lone, declared-none}
use Rattle.verilog_errors.proofs.faults.of_declared.Goals as goal

pub returns-then-f-t : goal.returns-then-f-t
returns-then-f-t c =
    declared-again _ _ _ _ _ _ c.if-f-t.true refl c.breaks.ensures

pub returns-then-roles-t-ne3 : goal.returns-then-roles-t-ne3
returns-then-roles-t-ne3 c =
    declared-other _ _ _ _ _ _ c.if-f-t.false c.if-roles-t-ne3.true c.breaks-then-roles-t-ne3.ensures

pub returns-then-n-d : goal.returns-then-n-d
returns-then-n-d c =
    declared-lone _ _ _ _ _ _ c.if-f-t.false c.if-roles-t-ne3.false
    c.first_named-d.ensures.0 c.if-n-d.true c.breaks-then-n-d.ensures

pub returns : goal.returns
returns c =
    declared-none _ _ _ _ _ _ c.if-f-t.false c.if-roles-t-ne3.false
    c.first_named-d.ensures.0 c.if-n-d.false c.breaks-2.ensures
