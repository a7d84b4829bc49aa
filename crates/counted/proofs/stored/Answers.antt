-- `counted::stored` meets its contract. Assumes nothing.
use native.Mathlib.Omega.{arith}
use Rattle.counted.proofs.Counting.{stores-thread, stores-wire}
use Rattle.counted.proofs.stored.Goals as goal

pub returns-then-c-threads : goal.returns-then-c-threads
returns-then-c-threads c =
    record { value = stores-thread _ _ (omega (arith, c.threads.ensures)); upper_bound = omega arith }

pub returns-else-c-threads : goal.returns-else-c-threads
returns-else-c-threads c =
    record { value = stores-wire _ _ (omega (arith, c.threads.ensures)); upper_bound = omega arith }
