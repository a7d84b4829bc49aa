-- `verilog_names::tokens::is_in` meets its contract, class by class. Assumes nothing.
use mathlib.Core.Path.{◌∙◌}
use Rattle.verilog_names.proofs.Chosen.{in-used, in-declared, in-wire, in-target}
use Rattle.verilog_names.proofs.tokens.is_in.Goals as goal

pub returns-in-Used : goal.returns-in-Used
returns-in-Used c =
    c.is_used.ensures ∙ in-used _ _ _ _ c.in-Used.is

pub returns-in-Declared : goal.returns-in-Declared
returns-in-Declared c =
    c.is_declared.ensures ∙ in-declared _ _ _ _ c.in-Declared.is

pub returns-in-Wire : goal.returns-in-Wire
returns-in-Wire c =
    c.has_role.ensures ∙ in-wire _ _ _ _ c.in-Wire.is

pub returns-in-Target : goal.returns-in-Target
returns-in-Target c =
    c.has_role-in-Target.ensures ∙ in-target _ _ _ _ c.in-Target.is
