-- `verilog_origins::steps::statement_behind` meets its contract. Assumes nothing.
use mathlib.Core.Path.{refl}
use Rattle.verilog_read.proofs.Turns.{statement-whole}
use Rattle.verilog_origins.proofs.steps.statement_behind.Goals as goal

pub returns : goal.returns
returns c =
    statement-whole _ _ _ _ _ _ _ c.from.ensures
    c.after-at.ensures c.left-n.ensures refl
    c.statement-s.ensures
