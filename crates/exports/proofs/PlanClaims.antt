-- The claims of specs/PlanClaims. Assumes nothing.
use mathlib.Core.Path.{◌≡◌, refl, sym, ap, ◌∙◌}
use mathlib.Core.Logic.{◌≢◌}
use mathlib.Core.Bool.{Bool, true, false}
use mathlib.Core.List.{List}
use mathlib.Core.Option.{Option, none, some}
use Prim.Native.Nat.{ℕ, ◌*◌, ◌/◌}
use borrow.Author.Tests.{eq-eqb, ne_eqb}
use lib.Dec.{ltb}
use lib.ListN.{length}
use Rattle.values.specs.Values.{pick}
use Rattle.sheet.specs.Reading.{Res, ok, no}
use Rattle.sheet.specs.Expression.{Expr}
use Rattle.sheet.specs.Module.{Module, read}
use Rattle.sheet.proofs.Reading.{no≢ok}
use Rattle.state.specs.declared.State.{State}
use Rattle.state.specs.State.{Shaped, Bounded, users}
use Rattle.saved.specs.Saved.{Bytes, saved, loaded}
use Rattle.saved.proofs.Saved.{loaded-shaped, loaded-bounded, saved-loaded}
use Rattle.events.specs.declared.Chosen.{Chosen}
use Rattle.events.specs.declared.Ran.{Ran}
use Rattle.events.specs.declared.Rested.{Rested}
use Rattle.events.specs.Calls.{start, start_of}
use Rattle.events.specs.Rows.{whole_rows}
use Rattle.batch.specs.declared.Cycled as many
use Rattle.batch.specs.Cycles.{run_cycles, told}
use Rattle.batch.proofs.Answers.{read-accepted}
use Rattle.plan.specs.Plan.{Plan, plan_of}
use Rattle.plan_fitting.specs.Fitting.{plan_fits}
use Rattle.prepared.specs.Prepared.{read_of, prepared_plan, start_at}
use Rattle.prepared.specs.Claims as single
use Rattle.prepared.proofs.Answered.{Answered, accepted, refused, answered}
use Rattle.prepared.proofs.Claims as single-proofs
use Rattle.prepared_cycles.specs.declared.Cycled.{Cycled}
use Rattle.prepared_cycles.specs.Cycles.{cycled}
use Rattle.prepared_cycles.specs.Phases.{cycles_at}
use Rattle.prepared_cycles.specs.Traces.{rounds, has_room, trace_cycles, trace_at, traced_at}
use Rattle.prepared_cycles.specs.Claims as cycles
use Rattle.prepared_cycles.proofs.Claims as cycles-proofs
use Rattle.nextstate.specs.CycleRun as run
use Rattle.nextstate.specs.CycleRun.{tables_fit, tables_in, extractable}
use Rattle.nextstate.specs.Extraction.{right_lengths}
use Rattle.clock_run.specs.Running.{registers_fit_on, cycle_on}
use Rattle.clock_run.specs.Rounds.{ended_at}
use Rattle.clock_run.specs.Traces.{traced, trace_rows, trace_on}
use Rattle.cycles.specs.Preparing.{filled_in, filled_or, tables_number, prepared_number, prepared}
use Rattle.exports.specs.Exports.{number_of}
use Rattle.exports.specs.Clocked.{after_cycle}
use Rattle.exports.specs.Saved.{started_in, unfit, number_on, bytes_on, told_on, ran, rested, verdict_on, cycled_as}
use Rattle.exports.specs.Plans.{number_at, verdict_at, cycled_at, trace_number}
use Rattle.exports.specs.PlanClaims.{Alike, Tell, Same, SameTrace, OnTheSheet, PrepareKeeps, trace_refused, TraceKeeps}
use Rattle.exports.specs.PlanClaims.{ClockPrepareKeeps, ClockCycleKeeps, clock_trace_refused, ClockTraceKeeps}

-- ---- calls that give the same on every state that bytes can be

module _ (s : List ℕ) {m : Module Expr} (e : read s ≡ ok m) (b : List ℕ) (bytes : Bytes b) where
  -- On the states that are loaded.
  abbrev Everywhere : (State → Type 0) → Type 0
  Everywhere P = (st : State) → Shaped st → Bounded st → P st

  module _ {A : Type 0} {f g : State → A} (same : Everywhere (λ st. f st ≡ g st)) where
    tell : (nothing : A) → Tell b nothing f g
    unfolding told_on
    tell nothing = by (loaded b) refl
      where
        by : (o : Option State) → loaded b ≡ o → told_on nothing o f ≡ told_on nothing o g
        by none h = refl
        by (some st) h = same st (loaded-shaped b st h) (loaded-bounded b st h bytes)

  module _ {f g : State → Chosen} (same : Everywhere (λ st. f st ≡ g st)) where
    bytes_same : bytes_on b (loaded b) f ≡ bytes_on b (loaded b) g
    unfolding bytes_on
    bytes_same = by (loaded b) refl
      where
        by : (o : Option State) → loaded b ≡ o → bytes_on b o f ≡ bytes_on b o g
        by none h = refl
        by (some st) h = ap (λ (x : Chosen). saved x.state) (same st (loaded-shaped b st h) (loaded-bounded b st h bytes))

    alike : Alike s b f g
    unfolding number_at number_on unfit
    alike = (by (loaded b) refl, bytes_same)
      where
        by : (o : Option State) → loaded b ≡ o → number_at o f ≡ number_on s o g
        by none h = rw e refl
        by (some st) h = ap (λ (x : Chosen). x.number) (same st (loaded-shaped b st h) (loaded-bounded b st h bytes))

  module _ {f g : State → Rested} (same : Everywhere (λ st. f st ≡ g st)) where
    verdict-same : verdict_at (loaded b) f ≡ verdict_on s (loaded b) g
    unfolding verdict_at verdict_on unfit
    verdict-same = by (loaded b) refl
      where
        by : (o : Option State) → loaded b ≡ o → verdict_at o f ≡ verdict_on s o g
        by none h = rw e refl
        by (some st) h = ap (λ (x : Rested). x.verdict) (same st (loaded-shaped b st h) (loaded-bounded b st h bytes))

  module _ (ns w : List ℕ) {f g : State → Cycled} (same : Everywhere (λ st. f st ≡ g st)) where
    trace-same : trace_number (loaded b) ns w f ≡ trace_number (loaded b) ns w g
    unfolding trace_number
    trace-same = by (loaded b) refl
      where
        by : (o : Option State) → loaded b ≡ o → trace_number o ns w f ≡ trace_number o ns w g
        by none h = refl
        by (some st) h = ap (λ (x : Cycled). x.number) (same st (loaded-shaped b st h) (loaded-bounded b st h bytes))

  read-zero : (read_of s).number ≡ 0
  read-zero = by (answered s)
    where
      by : Answered s → (read_of s).number ≡ 0
      by (accepted d h z) = z
      by (refused n p h z d) = let o : no n p ≡ ok m = sym h ∙ e in absurd (no≢ok o)

  module _ (ws : List ℕ) (l : length ws ≡ 25212) where
    abbrev q : Plan
    q = plan_of (prepared_plan s ws)

    calls : (st : State) → Shaped st → Bounded st → single.Same s q st
    unfolding single.OnTheSheet
    calls st h d = (single-proofs.on-the-sheet s ws m e l).calls st h d

    many-calls : (st : State) → Shaped st → Bounded st → cycles.Same s q st
    unfolding cycles.OnTheSheet
    many-calls st h d = cycles-proofs.on-the-sheet s ws m e l st h d

    batched : (u : ℕ) (ns xs : List ℕ) → Everywhere (λ st. told (cycles_at q st u ns xs) ≡ run_cycles s st u ns xs)
    batched u ns xs st h d = read-accepted s st u ns xs read-zero ws (prepared_plan s ws) l refl h d (cycles_at q st u ns xs) refl

    started : (allowances : List ℕ) → saved (start_at q allowances) ≡ started_in b (start s allowances)
    unfolding single.OnTheSheet started_in start start_of
    started allowances =
        let g = (single-proofs.on-the-sheet s ws m e l).start allowances in
        let n : (start s allowances).number ≡ 0 = rw e refl in
        rw (eq-eqb (start s allowances).number 0 n) (ap saved g)

    same : Same s q b
    unfolding ran rested cycled_at cycled_as
    same =
        record {
          start = started;
          choose = λ u c. alike (λ st h d. (calls st h d).choose u c);
          run = λ u cs. alike (λ st h d. ap ran ((calls st h d).run u cs));
          run-told = λ u cs. tell (λ st h d. ap (λ (x : Ran). x.accepted) ((calls st h d).run u cs)) 0;
          plain = λ u n. verdict-same (λ st h d. (calls st h d).plain u n);
          plain-left = λ u n. bytes_same (λ st h d. ap rested ((calls st h d).plain u n));
          plain-told = λ u n. tell (λ st h d. ap (λ (x : Rested). x.accepted) ((calls st h d).plain u n)) 0;
          instant = λ a small. alike (λ st h d. (calls st h d).instant a small);
          cycles = λ u ns xs. alike (λ st h d. ap cycled_as (batched u ns xs st h d));
          phases = λ u ns xs. tell (λ st h d. ap (λ (x : many.Cycled). x.phases) (batched u ns xs st h d)) 0;
          running = λ u ns xs. tell (λ st h d. ap (λ (x : many.Cycled). x.running) (batched u ns xs st h d)) false;
        }

    same-trace : (u : ℕ) (ns xs w : List ℕ) → SameTrace s q b u ns xs w
    same-trace u ns xs w =
        record {
          number = trace-same ns w traces;
          bytes = bytes_same (λ st h d. ap cycled_at (traces st h d));
          words = tell (λ st h d. (many-calls st h d).traced u ns xs w) w;
          phases = tell (λ st h d. ap (λ (x : Cycled). x.phases) (traces st h d)) 0;
          running = tell (λ st h d. ap (λ (x : Cycled). x.running) (traces st h d)) false;
        }
      where
        traces : Everywhere (λ st. trace_at q st u ns xs w ≡ trace_cycles s st u ns xs w)
        traces st h d = (many-calls st h d).trace u ns xs w

pub on-the-sheet : OnTheSheet
unfolding OnTheSheet
on-the-sheet s ws m e l b bytes = (same s e b bytes ws l, same-trace s e b bytes ws l)

-- ---- what is refused

pub prepare-keeps : PrepareKeeps
unfolding number_of prepared_plan
prepare-keeps s ws h = by (answered s)
  where
    by : Answered s → prepared_plan s ws ≡ ws
    by (accepted m e z) = absurd (h (rw e refl))
    by (refused n p e z d) = rw (z, ne_eqb n 0 d) refl

-- A trace is answered by four tests: is there room, does the state fit, is there such a user, are the rows whole?
abbrev traced_by : Bool → Bool → Bool → Bool → ℕ
traced_by r t v g = pick r (pick t (pick v (pick g 0 25) 46) 31) 23

module _ (b w : List ℕ) (st : State) (e : saved st ≡ b) (run : Cycled) (put : List ℕ) where
  abbrev answered_by : Bool → Bool → Bool → Bool → Cycled
  answered_by r t v g =
      pick r (pick t (pick v (pick g run (cycled 0 25 false st)) (cycled 0 46 false st)) (cycled 0 31 false st)) (cycled 0 23 false st)

  abbrev left_by : Bool → Bool → Bool → Bool → List ℕ
  left_by r t v g = pick r (pick t (pick v (pick g put w) w) w) w

  kept : (r t v g : Bool) → traced_by r t v g ≢ 0 →
      ((answered_by r t v g).number ≡ traced_by r t v g)
      × (saved (answered_by r t v g).state ≡ b)
      × (left_by r t v g ≡ w)
      × ((answered_by r t v g).phases ≡ 0)
  kept false t v g o = (refl, e, refl, refl)
  kept true false v g o = (refl, e, refl, refl)
  kept true true false g o = (refl, e, refl, refl)
  kept true true true false o = (refl, e, refl, refl)
  kept true true true true o = absurd (o refl)

pub trace-keeps : TraceKeeps
unfolding trace_refused trace_number bytes_on told_on cycled_at trace_at traced_at cycles_at
trace-keeps q b u ns xs w bytes h = by (loaded b) refl h
  where
    by : (o : Option State) → loaded b ≡ o → trace_refused q o u ns xs w ≢ 0 →
        (trace_number o ns w (λ st. trace_at q st u ns xs w) ≡ trace_refused q o u ns xs w)
        × (bytes_on b o (λ st. cycled_at (trace_at q st u ns xs w)) ≡ b)
        × (told_on w o (λ st. traced_at q st u ns xs w) ≡ w)
        × (told_on 0 o (λ st. (trace_at q st u ns xs w).phases) ≡ 0)
    by none e o = (refl, refl, refl, refl)
    by (some st) e o =
        kept b w st (saved-loaded b st e bytes) _ _ (has_room (rounds ns) w) (plan_fits q st) (ltb u users) (whole_rows ns xs) o

pub clock-prepare-keeps : ClockPrepareKeeps
unfolding prepared_number tables_number prepared filled_or
clock-prepare-keeps s ns rs t h = by (right_lengths ns rs) (extractable s) h
  where
    fit : (m : Module Expr) (f : Bool) → ◌≢◌ {A = ℕ} (pick f 0 24) 0 → pick f (filled_in s ns rs t m) t ≡ t
    fit m false d = refl
    fit m true d = absurd (d refl)

    by : (r : Bool) (x : Res (Module Expr)) → ◌≢◌ {A = ℕ} (pick r (tables_number x (tables_in ns rs)) 23) 0 → pick r (filled_or s ns rs t x) t ≡ t
    by false x o = refl
    by true (no n p) o = refl
    by true (ok m) o = fit m (tables_fit m (tables_in ns rs)) o

pub clock-cycle-keeps : ClockCycleKeeps
unfolding after_cycle
clock-cycle-keeps q f ts numbers g a lent h = rw (ne_eqb (cycle_on q f ts numbers g a).number 0 h)

-- A trace by expressions is answered by three.
abbrev clock_traced_by : Bool → Bool → Bool → ℕ
clock_traced_by r t v = pick r 23 (pick t (pick v 0 25) 31)

pub clock-trace-keeps : ClockTraceKeeps
unfolding clock_trace_refused trace_on
clock-trace-keeps q f ts numbers g ns us w h =
    by (ltb (length w / 88) (2 * (length ns / 16))) (registers_fit_on q g) (whole_rows ns us) h
  where
    by : (r t v : Bool) → clock_traced_by r t v ≢ 0 →
        pick r (traced (ended_at 0 23 (run.refused 23 g)) w)
        (pick t (pick v (trace_rows q f ts numbers g ns us w) (traced (ended_at 0 25 (run.refused 25 g)) w))
        (traced (ended_at 0 31 (run.refused 31 g)) w))
        ≡ traced (ended_at 0 (clock_traced_by r t v) (run.refused (clock_traced_by r t v) g)) w
    by true t v o = refl
    by false false v o = refl
    by false true false o = refl
    by false true true o = absurd (o refl)
