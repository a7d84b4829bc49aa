-- `stimulus::cell_at` meets its contract, row by row. Assumes nothing.
use native.Mathlib.Omega.{arith}
use mathlib.Core.Path.{sym, ◌∙◌}
use Rattle.stimulus.specs.declared.Class.TheVariants.{Blank}
use Rattle.stimulus.proofs.Runs.{run_inside}
use Rattle.stimulus.proofs.Lines.{cell-first, cell-blank, cell-comma}
use Rattle.stimulus.proofs.cell_at.Goals as goal

pub returns-then-k-lt2 : goal.returns-then-k-lt2
returns-then-k-lt2 c =
    cell-first _ _ _ _ c.run_end-p.ensures c.if-k-lt2.true

pub returns-then-byte_at-ne44 : goal.returns-then-byte_at-ne44
returns-then-byte_at-ne44 c =
    cell-blank _ _ _ _ c.run_end-p.ensures c.if-k-lt2.false (λ e. c.if-byte_at-ne44.true (c.byte_at.ensures ∙ e))

pub overflow_add-p : goal.overflow_add-p
overflow_add-p c =
    let g = c.well_formed in
    let h = c.run_end-p.ensures in
    let i = run_inside Blank c.args.line.now c.args.at c.requires in
    record { fits = omega arith }

pub returns : goal.returns
returns c =
    c.run_end.ensures
    ∙ cell-comma _ _ _ _ c.run_end-p.ensures c.if-k-lt2.false (sym c.byte_at.ensures ∙ c.if-byte_at-ne44.false)
