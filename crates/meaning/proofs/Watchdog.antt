-- The claims aren't empty: both threads of the watchdog of tests/data (waits in nested loops and branches) meet rule 17, so that each
-- does what it means (watchdog-as-written), from wait to wait (watchdog-wait-to-wait). Three courses of its first thread, computed.
use mathlib.Core.Path.{◌≡◌, refl}
use mathlib.Core.Bool.{true}
use mathlib.Core.List.{List, [], ◌∷◌}
use Prim.Native.Nat.{ℕ, zero, suc, ◌<◌}
use native.Mathlib.Omega.{arith}
use lib.ListN.{length, get_or}
use Rattle.values.specs.declared.Value.{Value}
use Rattle.values.specs.Values.{known, nowhere}
use Rattle.values.specs.declared.Edge.TheVariants.{Posedge}
use Rattle.sheet.specs.declared.EdgeTerm.{EdgeTerm}
use Rattle.sheet.specs.Expression.{Expr}
use Rattle.sheet.specs.Statement.{Stmt}
use Rattle.state.specs.declared.State.{State}
use Rattle.state.specs.State.{Shaped, users, place_of}
use Rattle.events.specs.Calls.{state_fits}
use Rattle.nextstate.specs.Rules.{body_of, surely_waits, loops_wait}
use Rattle.nextstate.proofs.Samples.{turning}
use Rattle.nextstate.proofs.Watchdog.{watchdog-sheet, watchdog, watchdog-read}
use Rattle.meaning.specs.Meaning.{deferred, values_after, stops, prefixed, followed, nothing, meaning}
use Rattle.meaning.specs.Thread.{behind, whole, Stands, Goes}
use Rattle.meaning.specs.Waking.{WaitToWait}
use Rattle.meaning.proofs.Thread.{as_written}
use Rattle.meaning.proofs.Waking.{from-wait-to-wait}

-- "A thread is a forever of its statement."
abbrev thread : ℕ → Stmt Expr
thread i = whole watchdog i

watchdog-loops : (i : ℕ) → i < length watchdog.threads → loops_wait (thread i) ≡ true
unfolding watchdog body_of surely_waits loops_wait
watchdog-loops zero l = refl
watchdog-loops (suc zero) l = refl
watchdog-loops (suc (suc i)) l = absurd (omega arith)

pub watchdog-as-written : (u : ℕ) → u < users → (i : ℕ) → i < length watchdog.threads → (st : State) → Shaped st →
    state_fits watchdog st ≡ true → (what : Stmt Expr) → Stands watchdog i (place_of st i) what → Goes watchdog-sheet watchdog u i st what
watchdog-as-written u b i l = as_written watchdog-sheet watchdog watchdog-read u b i l (watchdog-loops i l)

pub watchdog-wait-to-wait : (i : ℕ) → i < length watchdog.threads → WaitToWait watchdog-sheet watchdog i
watchdog-wait-to-wait i l = from-wait-to-wait watchdog-sheet watchdog watchdog-read i l (watchdog-loops i l)

-- ---- from its first wait

abbrev clock : List EdgeTerm
clock = record { edge = Posedge; variable = 0 } ∷ []

-- Reset or not, the reading 5, which came again or not; the variables 0 to 10.
abbrev values : ℕ → ℕ → ℕ → Value
values reset again v =
    get_or
    (known 1 ∷ known reset ∷ known 5 ∷ known 2 ∷ known 0 ∷ known 5 ∷ known 0 ∷ known 0 ∷ known 0 ∷ known again ∷ known 0 ∷ [])
    v nowhere

-- A reset: three pending values in order, and back at the first wait, place 0.
pub reset-course :
    meaning (behind (thread 0) 0) (values 1 0)
    ≡ stops (deferred 5 (known 0) ∷ deferred 6 (known 0) ∷ deferred 7 (known 0) ∷ []) clock (behind (thread 0) 0)
unfolding watchdog turning behind meaning followed prefixed nothing values_after
reset-course = refl

-- A reading that came again: two pending values, and on to the wait before the loop, place 9.
pub again-course :
    meaning (behind (thread 0) 0) (values 0 1)
    ≡ stops (deferred 5 (known 5) ∷ deferred 6 (known 1) ∷ []) clock (behind (thread 0) 9)
unfolding watchdog turning behind meaning followed prefixed nothing values_after
again-course = refl

-- Once more, from the wait in the loop, place 12: the condition holds, one more is counted, and it waits there again.
pub loop-course :
    meaning (behind (thread 0) 12) (values 0 1) ≡ stops (deferred 6 (known 1) ∷ []) clock (behind (thread 0) 12)
unfolding watchdog turning behind meaning followed prefixed nothing values_after
loop-course = refl
