-- `verilog::inner_level` meets its contract. Assumes nothing.
use mathlib.Core.Path.{sym, ◌∙◌}
use Rattle.verilog.specs.Printing.{inner_level}
use Rattle.verilog.proofs.inner_level.Goals as goal

pub returns-then-is_flat : goal.returns-then-is_flat
unfolding inner_level
returns-then-is_flat c =
    rw (sym c.is_flat.ensures ∙ c.if-is_flat.true)

pub returns-else-is_flat : goal.returns-else-is_flat
unfolding inner_level
returns-else-is_flat c =
    rw (sym c.is_flat.ensures ∙ c.if-is_flat.false)
