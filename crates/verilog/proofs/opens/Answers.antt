-- `verilog::opens` meets its contract. Assumes nothing.
use mathlib.Core.Path.{◌∙◌}
use Rattle.verilog.specs.Printing.{shape_of}
use Rattle.verilog.proofs.Printing.{opens-past, opens-shape}
use Rattle.verilog.proofs.opens.Goals as goal

pub returns-then-sheet-at : goal.returns-then-sheet-at
returns-then-sheet-at c =
    opens-past _ _ c.if-sheet-at.true

pub returns : goal.returns
returns c =
    opens-shape _ _ _ c.if-sheet-at.false
    (c.shape_of.ensures ∙ (λ j. shape_of (c.byte_at-map.ensures j) (c.byte_at-first.ensures j)))
