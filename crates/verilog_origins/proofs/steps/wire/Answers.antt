-- `verilog_origins::steps::wire` meets its contract. Assumes nothing.
use mathlib.Core.Path.{refl}
use Rattle.verilog_read.proofs.Turns.{wire-not, wire-one}
use Rattle.verilog_origins.proofs.steps.wire.Goals as goal

pub returns-then-roles-i-ne3 : goal.returns-then-roles-i-ne3
returns-then-roles-i-ne3 c =
    wire-not _ _ _ _ _ _ _ c.if-roles-i-ne3.true

pub returns : goal.returns
returns c =
    wire-one _ _ _ _ _ _ _ c.if-roles-i-ne3.false refl
    c.target_of-t.ensures c.value_behind.ensures
