-- On a plan of a module, from a state that fits it, the phases are the single calls, each on the state that the last one left.
-- Assumes nothing.
use mathlib.Core.Path.{◌≡◌, refl, sym, ap, ◌∙◌}
use mathlib.Core.Bool.{Bool, true, false, not}
use mathlib.Core.List.{List}
use Prim.Native.Nat.{ℕ, zero, suc, ◌+◌, ◌<◌}
use native.Mathlib.Decide.{ℕ_discrete}
use native.Mathlib.Omega.{arith}
use lib.Dec.{eqb}
use borrow.Author.Tests.{ne_eqb, lt-ltb}
use Rattle.values.specs.Values.{pick}
use Rattle.values.specs.Cells.{small}
use Rattle.values.proofs.Operators.{fits-small}
use Rattle.sheet.specs.Reading.{ok}
use Rattle.sheet.specs.Expression.{Expr}
use Rattle.sheet.specs.Module.{Module, read}
use Rattle.state.specs.declared.State.{State}
use Rattle.state.specs.State.{Shaped, full, users, count_of, allowance_of, with_counters}
use Rattle.events.specs.declared.Inputs.{Inputs}
use Rattle.events.specs.declared.Rested.{Rested}
use Rattle.events.specs.Verdict.{number_of_verdict}
use Rattle.events.specs.Cycle.{quiet}
use Rattle.events.specs.Cycle as cycle
use Rattle.events.specs.Calls.{judged, spend_time, timed, width_of, input_of, inputs_fit, instant_refusal, instant_in, instant}
use Rattle.events.specs.Calls.{plain_choice, run_by}
use Rattle.events.specs.Calls as calls
use Rattle.events.proofs.Choices.{accepted-instant, instant_in-accepted, instant_in-refused, counters-feed, count-feed, allowance-feed}
use Rattle.events.proofs.Choices.{shaped-timed, shaped-feed}
use Rattle.events.proofs.Fits.{Fits, state-fits, fits-feed, fits-inputs}
use Rattle.events.proofs.Runs.{shaped-run_by, fits-run_by}
use Rattle.refinement.proofs.Kept.{Kept, fits_kept}
use Rattle.plan.specs.Plan.{Plan}
use Rattle.plan_engine.specs.Acting.{feed}
use Rattle.plan_fitting.specs.Fitting.{plan_inputs_fit}
use Rattle.plan_refinement.specs.Refinement.{Shows, Rests, Room, PlanOf}
use Rattle.plan_refinement.proofs.Choices.{busy-shows, feed-timed-shows}
use Rattle.plan_refinement.proofs.Runs.{run_plain-shows}
use Rattle.prepared.specs.Prepared.{raised, later}
use Rattle.prepared.proofs.Counting.{counters-run}
use Rattle.prepared.proofs.Unpacked.{packed-shows}
use Rattle.prepared_cycles.specs.Cycles.{cycled, phases}
use Rattle.prepared_cycles.specs.Phases.{Moment, moment, room_at, state_at, phase, refusal_at, run_after, phase_at, phases_at, ended}

-- A state that fits, and how it lies for user u.
pub record Stood (m : Module Expr) (u : ℕ) (st : State) (o : Moment) : Type 0 where
  pub shaped : Shaped st
  pub fit : Fits m st
  pub shows : Shows m st o.left
  pub counters : st.counters ≡ o.counters
  pub user : o.user ≡ u

-- It is packed again.
pub packed-stood : {m : Module Expr} {u : ℕ} {st : State} {o : Moment} → Stood m u st o → state_at o ≡ st
packed-stood {o = o} z = packed-shows z.shows o.counters z.counters

-- The room of its user.
pub room-stood : {m : Module Expr} {u : ℕ} {st : State} {o : Moment} → Stood m u st o → u < users → Room u (room_at o) st
unfolding count_of allowance_of
room-stood {u = u} z h = rw (← z.counters, z.user) (omega (arith, z.fit.counts u h))

-- What the run after an instant leaves.
abbrev pub after : Plan → Inputs → Moment → Moment
after q a o = moment (run_after q a o).left (raised (run_after q a o).accepted o.user (later o.counters)) o.user

pub later-timed : (st : State) → (timed st).counters ≡ later st.counters
unfolding timed with_counters
later-timed st = refl

module _ (s : List ℕ) {m : Module Expr} {q : Plan} (w : PlanOf m q) (inputs-fit : (a : Inputs) → plan_inputs_fit q a ≡ inputs_fit m a)
    (e : read s ≡ ok m) (u : ℕ) (user : u < users)
  where
    -- ---- the single calls on a state that fits

    pub instant-fits : (st : State) → Fits m st → (a : Inputs) → instant s st a ≡ instant_in m st a
    unfolding instant judged
    instant-fits st f a = rw (e, state-fits m st f) refl

    pub plain_fits : (st : State) → Fits m st → (n : ℕ) → calls.run_plain s st u n ≡ run_by m u (plain_choice m) n st
    unfolding calls.run_plain judged
    plain_fits st f n = rw (e, state-fits m st f, lt-ltb u users user) refl

    -- ---- a phase

    -- The state that an instant leaves, and the run from it.
    abbrev pub fed : State → Inputs → State
    fed st a = cycle.feed m (input_of a) (timed st)

    abbrev pub rested : State → Inputs → Rested
    rested st a = run_by m u (plain_choice m) 65535 (fed st a)

    module _ (st : State) (o : Moment) (z : Stood m u st o) (a : Inputs) where
      kept : Kept m st
      kept = fits_kept z.shaped z.fit

      pub refusal-stood : refusal_at q a o ≡ instant_refusal m st a
      unfolding refusal_at instant_refusal spend_time
      refusal-stood =
          rw (inputs-fit a, busy-shows w st kept o.left z.shows, ← z.counters)
          (ap (λ n. pick (inputs_fit m a) n 25) (by (quiet m st)))
        where
          spent : ℕ
          spent = pick (eqb st.counters.time full) 36 0

          by : (t : Bool) → pick (not t) 32 spent ≡ pick t spent 32
          by true = refl
          by false = refl

      module _ (x : instant_refusal m st a ≡ 0) where
        -- An input that fits its width fits 32 bits.
        small-inputs : (n : ℕ) → n < m.scope.inputs → small (input_of a n) ≡ true
        unfolding width_of
        small-inputs n h =
            fits-small (width_of m n) (input_of a n) (w.sound.widths-most n (omega (arith, w.sound.variables)))
            (fits-inputs m a (accepted-instant m st a x).0 n h)

        pub fed-shaped : Shaped (fed st a)
        fed-shaped = shaped-feed m (input_of a) (timed st) (shaped-timed st z.shaped)

        pub fed-fits : Fits m (fed st a)
        fed-fits =
            let h = accepted-instant m st a x in
            fits-feed m w.sound st z.shaped z.fit a h.0 h.1

        room : Room u (room_at o) (fed st a)
        room =
            let h = room-stood z user in
            omega (arith, count-feed m st (input_of a) u, allowance-feed m st (input_of a) u)

        pub fed-shows : Shows m (fed st a) (feed q (input_of a) o.left)
        fed-shows = feed-timed-shows w st kept o.left z.shows (input_of a) small-inputs

        pub fed-counters : (fed st a).counters ≡ later o.counters
        fed-counters = counters-feed m st (input_of a) ∙ later-timed st ∙ ap later z.counters

        rests : Rests m (rested st a) (run_after q a o)
        rests = run_plain-shows w u user 65535 (fed st a) (room_at o) (feed q (input_of a) o.left) fed-shaped fed-fits room fed-shows

        pub after-stood : Stood m u (rested st a).state (after q a o)
        after-stood =
            record {
              shaped = shaped-run_by m u (plain_choice m) w.sound 65535 (fed st a) fed-shaped;
              fit = fits-run_by m u (plain_choice m) w.sound 65535 (fed st a) fed-shaped fed-fits;
              shows = rests.left;
              counters =
                  counters-run u user m w.sound (fed st a) fed-shaped fed-fits (plain_choice m) 65535
                  ∙ (λ i. raised (sym rests.accepted i) (sym z.user i) (fed-counters i));
              user = z.user;
            }

        pub phase-accepted : phase_at q a o
            ≡ phase (number_of_verdict (rested st a).verdict) (not (eqb (number_of_verdict (rested st a).verdict) 0)) (after q a o)
        unfolding phase_at
        phase-accepted = rw (refusal-stood, x, rests.number) refl

      pub phase-refused : (instant_refusal m st a ≡ 0 → ⊥) → phase_at q a o ≡ phase (instant_refusal m st a) false o
      unfolding phase_at
      phase-refused d = rw (refusal-stood, ne_eqb (instant_refusal m st a) 0 d) refl

    -- ---- phases

    module _ (inputs : ℕ → Inputs) where
      abbrev Same : ℕ → ℕ → State → Moment → Type 0
      Same n p st o = ended (phases_at q inputs n p o) ≡ phases s u inputs n p st

      module _ (n p : ℕ) (st : State) (o : Moment) (z : Stood m u st o) where
        abbrev a : Inputs
        a = inputs p

        refused : (instant_refusal m st a ≡ 0 → ⊥) → Same (suc n) p st o
        unfolding phases_at phases ended
        refused d =
            rw (
              phase-refused st o z a d,
              instant-fits st z.fit a,
              instant_in-refused m st a d,
              ne_eqb (instant_refusal m st a) 0 d,
            )
            (ap (cycled p (instant_refusal m st a) false) (packed-stood z))

        module _ (x : instant_refusal m st a ≡ 0) where
          abbrev number : ℕ
          number = number_of_verdict (rested st a).verdict

          went_on : number ≡ 0 → Same n (p + 1) (rested st a).state (after q a o) → Same (suc n) p st o
          unfolding phases_at phases ended
          went_on y h =
              rw (
                phase-accepted st o z a x,
                instant-fits st z.fit a,
                instant_in-accepted m st a x,
                plain_fits (fed st a) (fed-fits st o z a x) 65535,
                y,
              )
              h

          halted : (number ≡ 0 → ⊥) → Same (suc n) p st o
          unfolding phases_at phases ended
          halted d =
              rw (
                phase-accepted st o z a x,
                instant-fits st z.fit a,
                instant_in-accepted m st a x,
                plain_fits (fed st a) (fed-fits st o z a x) 65535,
                ne_eqb number 0 d,
              )
              (ap (cycled p number true) (packed-stood (after-stood st o z a x)))

      pub phases-stood : (n p : ℕ) (st : State) (o : Moment) → Stood m u st o → Same n p st o
      unfolding phases_at phases ended
      phases-stood zero p st o z = ap (cycled p 0 false) (packed-stood z)
      phases-stood (suc n) p st o z =
          by (ℕ_discrete (instant_refusal m st (inputs p)) 0)
          (λ x.
          phases-stood n (p + 1) (rested st (inputs p)).state (after q (inputs p) o) (after-stood st o z (inputs p) x))
        where
          on : (x : instant_refusal m st (inputs p) ≡ 0) → Same n (p + 1) (rested st (inputs p)).state (after q (inputs p) o)
              → Dec (number_of_verdict (rested st (inputs p)).verdict ≡ 0) → Same (suc n) p st o
          on x h (yes y) = went_on n p st o z x y h
          on x h (no d) = halted n p st o z x d

          by : Dec (instant_refusal m st (inputs p) ≡ 0)
              → ((x : instant_refusal m st (inputs p) ≡ 0) → Same n (p + 1) (rested st (inputs p)).state (after q (inputs p) o))
              → Same (suc n) p st o
          by (no d) h = refused n p st o z d
          by (yes x) h = on x (h x) (ℕ_discrete (number_of_verdict (rested st (inputs p)).verdict) 0)
