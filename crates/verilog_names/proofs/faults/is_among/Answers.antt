-- `verilog_names::faults::is_among` meets its contract. The loop's invariant: the name is among the tokens from `i` on where it is among
-- all of them. Assumes nothing.
use mathlib.Core.Path.{sym, ◌∙◌}
use Rattle.verilog_names.proofs.Chosen.{chosen-all}
use Rattle.verilog_names.proofs.AtFault.{among-found, among-on, among-done}
use Rattle.verilog_names.proofs.faults.is_among.Goals as goal

pub loop-i-init : goal.loop-i-init
loop-i-init c =
    rw chosen-all

pub returns-then-is_such : goal.returns-then-is_such
returns-then-is_such c =
    sym (among-found _ _ _ _ _ c.loop-i-test.true (sym c.is_such.ensures ∙ c.if-is_such.true))
    ∙ c.loop-i.invariant

pub loop-i-preserved : goal.loop-i-preserved
loop-i-preserved c =
    sym (among-on _ _ _ _ _ c.loop-i-test.true (sym c.is_such.ensures ∙ c.if-is_such.false)) ∙ c.loop-i.invariant

pub returns : goal.returns
returns c =
    sym (among-done _ _ _ _ _ c.loop-i-test.false) ∙ c.loop-i.invariant
