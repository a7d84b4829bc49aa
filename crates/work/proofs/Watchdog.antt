-- The claim isn't empty: extraction accepts the watchdog of tests/data and a turnstile, and the claim is applied to each.
use mathlib.Core.Path.{◌≡◌}
use mathlib.Core.List.{List}
use Prim.Native.Nat.{ℕ}
use lib.ListN.{length, replicate, length-replicate}
use Rattle.nextstate.proofs.Watchdog.{watchdog-sheet, watchdog-accepted, turnstile-sheet, turnstile-accepted}
use Rattle.work.specs.Work.{WorkOf}
use Rattle.work.proofs.Work.{work}

-- Words to lend.
abbrev nodes : List ℕ
nodes = replicate 16384 0

abbrev rows : List ℕ
rows = replicate 1056 0

long-nodes : length nodes ≡ 16384
long-nodes = length-replicate {A = ℕ} 16384 0

long-rows : length rows ≡ 1056
long-rows = length-replicate {A = ℕ} 1056 0

pub watchdog-work : WorkOf watchdog-sheet
watchdog-work = work watchdog-sheet nodes rows (watchdog-accepted nodes rows long-nodes long-rows)

pub turnstile-work : WorkOf turnstile-sheet
turnstile-work = work turnstile-sheet nodes rows (turnstile-accepted nodes rows long-nodes long-rows)
