-- `stimulus::first_place` meets its contract, row by row. Assumes nothing.
use native.Mathlib.Omega.{arith}
use Rattle.stimulus.proofs.Lines.{first-many, first-other, first-long, first-dash}
use Rattle.stimulus.proofs.first_place.Goals as goal

pub returns-then-inputs-ge2 : goal.returns-then-inputs-ge2
returns-then-inputs-ge2 c =
    first-many _ _ _ (omega arith)

pub returns-then-byte_at-ne45 : goal.returns-then-byte_at-ne45
returns-then-byte_at-ne45 c =
    first-other _ _ _ (omega arith) (λ e. omega arith)

pub returns-then-end-next : goal.returns-then-end-next
returns-then-end-next c =
    first-long _ _ _ (omega arith) (omega arith) (λ e. omega arith)

pub returns : goal.returns
returns c =
    first-dash _ _ _ (omega arith) (omega arith) (omega arith)
