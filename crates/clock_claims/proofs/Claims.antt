-- The claim of specs/Claims, shown. Assumes nothing.
use mathlib.Core.Path.{◌≡◌, refl}
use mathlib.Core.Bool.{Bool, true, false}
use mathlib.Core.List.{List}
use Prim.Native.Nat.{ℕ, ◌*◌, ◌/◌}
use lib.Dec.{ltb}
use lib.ListN.{length}
use Rattle.values.specs.Values.{pick}
use Rattle.sheet.specs.Expression.{Expr}
use Rattle.sheet.specs.Module.{Module}
use Rattle.events.specs.Rows.{whole_rows}
use Rattle.nextstate.specs.declared.Clocked.{Clocked}
use Rattle.nextstate.specs.CycleRun.{registers_fit, upper_inputs_fit, clocked_in}
use Rattle.clock_run.specs.declared.Rounds.{Rounds}
use Rattle.clock_run.specs.Running.{cycle_on}
use Rattle.clock_run.specs.Rounds.{rounds_on, cycles_on}
use Rattle.clock_run.specs.Traces.{Traced, trace_rows, trace_on}
use Rattle.clock_claims.specs.Claims.{CycleIsTheRun, CyclesAreTheRuns, TraceIsTheRuns}
use Rattle.clock_claims.proofs.Holding.{registers-fit-same, inputs-fit-same}
use Rattle.clock_claims.proofs.Cycling.{cycle-given}
use Rattle.clock_claims.proofs.Repeating.{rounds-are, trace-are}

-- Where both tests hold the answers are the same.
same_answer : (s t : Bool) (x y b c : Clocked) → (s ≡ true → t ≡ true → x ≡ y) → pick s (pick t x b) c ≡ pick s (pick t y b) c
same_answer true true x y b c h = h refl refl
same_answer true false x y b c h = refl
same_answer false t x y b c h = refl

pub cycle-is-the-run : CycleIsTheRun
unfolding CycleIsTheRun cycle_on clocked_in
cycle-is-the-run m z q h ns us rs written y count k ws ls ts ms room g w a =
    rw (registers-fit-same m z q h g, inputs-fit-same m z q h a, y.fit)
    (same_answer (registers_fit m g) (upper_inputs_fit m a) _ _ _ _
    (λ e f. cycle-given m z q h ns us rs written y count k ws ls ts ms room g w a e f))

same-rounds : (s t : Bool) (x y b c : Rounds) → (s ≡ true → t ≡ true → x ≡ y) → pick s (pick t x b) c ≡ pick s (pick t y b) c
same-rounds true true x y b c h = h refl refl
same-rounds true false x y b c h = refl
same-rounds false t x y b c h = refl

pub cycles-are-the-runs : CyclesAreTheRuns
unfolding CyclesAreTheRuns cycles_on rounds_on
cycles-are-the-runs m z ruled q h ns us rs written y count k ws ls ts ms room g w vs xs inputs i =
    rw (registers-fit-same m z q h g)
    (same-rounds (registers_fit m g) (whole_rows vs xs) _ _ _ _
    (λ e f. rounds-are m z ruled q h ns us rs written y count k ws ls ts ms room g w vs xs inputs (i f) e))

same-traced : (a s t : Bool) (x y b c e : Traced) → (s ≡ true → t ≡ true → x ≡ y) → pick a e (pick s (pick t x b) c)
    ≡ pick a e (pick s (pick t y b) c)
same-traced true s t x y b c e h = refl
same-traced false true true x y b c e h = h refl refl
same-traced false true false x y b c e h = refl
same-traced false false t x y b c e h = refl

pub trace-is-the-runs : TraceIsTheRuns
unfolding TraceIsTheRuns trace_on trace_rows
trace-is-the-runs m z ruled q h ns us rs written y count k ws ls ts ms room g w vs xs inputs i out =
    rw (registers-fit-same m z q h g)
    (same-traced (ltb (length out / 88) (2 * (length vs / 16))) (registers_fit m g) (whole_rows vs xs) _ _ _ _ _
    (λ e f. trace-are m z ruled q h ns us rs written y count k ws ls ts ms room g w vs xs inputs (i f) e out))
