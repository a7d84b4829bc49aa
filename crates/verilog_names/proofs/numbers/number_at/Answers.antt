-- `verilog_names::numbers::number_at` meets its contract. Assumes nothing.
use mathlib.Core.Path.{refl}
use Rattle.verilog_names.proofs.Numbering.{number-other, number-name}
use Rattle.verilog_names.proofs.Entering.{known-number}
use Rattle.verilog_names.proofs.numbers.number_at.Goals as goal

pub returns-then-kinds-i-ne64 : goal.returns-then-kinds-i-ne64
returns-then-kinds-i-ne64 c =
    number-other _ _ _ _ _ c.if-kinds-i-ne64.true

pub returns-then-k-lt16385 : goal.returns-then-k-lt16385
returns-then-k-lt16385 c =
    let a = c.args in
    known-number a.numbers.now a.kinds.now a.roles.now a.table.now a.count a.i _ _ c.if-kinds-i-ne64.false
    c.requires.table_value refl c.if-k-lt16385.true refl

pub returns : goal.returns
returns c =
    number-name _ _ _ _ _ _ _ _ c.if-kinds-i-ne64.false c.variable_of-v.ensures c.up_to.ensures
    refl
