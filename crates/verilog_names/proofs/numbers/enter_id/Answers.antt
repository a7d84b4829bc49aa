-- `verilog_names::numbers::enter_id` meets its contract. Assumes nothing.
use mathlib.Core.Path.{refl}
use Rattle.verilog_names.proofs.Entering.{at_slot, past-slot}
use Rattle.verilog_names.proofs.numbers.enter_id.Goals as goal

pub returns-then-k-lt16385 : goal.returns-then-k-lt16385
returns-then-k-lt16385 c =
    at_slot _ _ _ _ refl c.if-k-lt16385.true

pub returns-else-k-lt16385 : goal.returns-else-k-lt16385
returns-else-k-lt16385 c =
    past-slot _ _ _ _ refl c.if-k-lt16385.false
