-- `evaluation::put` meets its contract, case by case. Assumes nothing.
use mathlib.Core.Path.{sym}
use native.Mathlib.Omega.{arith}
use lib.Seq.{set_out}
use Rattle.evaluation.proofs.put.Goals as goal

pub returns-else-k-lt5 : goal.returns-else-k-lt5
returns-else-k-lt5 c =
    sym (set_out _ _ _ (omega arith))
