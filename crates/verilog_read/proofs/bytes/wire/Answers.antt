-- `verilog_read::bytes::wire` meets its contract. Assumes nothing.
use mathlib.Core.Path.{refl}
use borrow.Author.Rules.{rules}
use Rattle.verilog_read.proofs.Turns.{wire-not, wire-one}
use Rattle.verilog_read.proofs.bytes.wire.Goals as goal

pub returns-then-roles-i-ne3 : goal.returns-then-roles-i-ne3
returns-then-roles-i-ne3 c =
    wire-not _ _ _ _ _ _ _ c.if-roles-i-ne3.true

pub returns : goal.returns
returns c =
    wire-one _ _ _ _ _ _ _ c.if-roles-i-ne3.false refl c.target_of-t.ensures c.value_behind.ensures
