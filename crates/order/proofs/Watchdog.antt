-- The claim isn't empty: extraction accepts the watchdog of tests/data (two threads, waits in loops, two wires) and a turnstile (three
-- threads, six waits, a while and a forever, both kinds of assignment, two wires), and demand 3 is applied to each.
use mathlib.Core.Path.{◌≡◌}
use mathlib.Core.List.{List}
use Prim.Native.Nat.{ℕ}
use lib.ListN.{length, replicate, length-replicate}
use Rattle.nextstate.specs.Extraction.{extract}
use Rattle.nextstate.proofs.Watchdog.{watchdog-sheet, watchdog-accepted, turnstile-sheet, turnstile-accepted}
use Rattle.order.specs.Claim.{Demand3}
use Rattle.order.proofs.Order.{order}

-- Words to lend.
abbrev nodes : List ℕ
nodes = replicate 16384 0

abbrev rows : List ℕ
rows = replicate 1056 0

long-nodes : length nodes ≡ 16384
long-nodes = length-replicate {A = ℕ} 16384 0

long-rows : length rows ≡ 1056
long-rows = length-replicate {A = ℕ} 1056 0

pub watchdog-order :
    Demand3 watchdog-sheet (extract watchdog-sheet nodes rows).nodes (extract watchdog-sheet nodes rows).rows
watchdog-order = order watchdog-sheet nodes rows (watchdog-accepted nodes rows long-nodes long-rows)

pub turnstile-order :
    Demand3 turnstile-sheet (extract turnstile-sheet nodes rows).nodes (extract turnstile-sheet nodes rows).rows
turnstile-order = order turnstile-sheet nodes rows (turnstile-accepted nodes rows long-nodes long-rows)
