-- `verilog_names::faults::is_seen` meets its contract. Assumes nothing.
use mathlib.Core.Path.{refl}
use Rattle.verilog_names.proofs.Marking.{seen-known}
use Rattle.verilog_names.proofs.faults.is_seen.Goals as goal

pub returns-then-k-lt16385 : goal.returns-then-k-lt16385
returns-then-k-lt16385 c =
    seen-known _ _ _ _ _ c.requires.seen_value refl c.if-k-lt16385.true
