-- On a plan of a module, from a state that fits it, driven cycles are those by the single calls. Assumes nothing.
use mathlib.Core.Path.{◌≡◌, refl, sym, subst, ap, ◌∙◌}
use mathlib.Core.Bool.{Bool, true, false, not}
use mathlib.Core.List.{List}
use Prim.Native.Nat.{ℕ, zero, suc, ◌+◌, ◌<◌}
use native.Mathlib.Decide.{ℕ_discrete}
use lib.Dec.{eqb}
use lib.ListN.{length}
use borrow.Author.Tests.{ne_eqb}
use Rattle.values.specs.Values.{pick}
use Rattle.sheet.specs.Reading.{ok}
use Rattle.sheet.specs.Expression.{Expr}
use Rattle.sheet.specs.Module.{Module, read}
use Rattle.state.specs.declared.State.{State}
use Rattle.state.specs.State.{users}
use Rattle.events.specs.declared.Inputs.{Inputs}
use Rattle.events.specs.declared.Rested.{Rested}
use Rattle.events.specs.Cycle.{quiet}
use Rattle.events.specs.Calls.{judged, choose_in, choose, plain_choice, run_by, input_of, inputs_fit, instant_refusal}
use Rattle.events.specs.Runs.{Ended, at_rest, spent, stopped}
use Rattle.events.proofs.Choices.{shaped-choose_in, instant_in-accepted, instant_in-refused}
use Rattle.events.proofs.Fits.{Fits, state-fits, fits-choose_in}
use Rattle.events.proofs.Runs.{ended-plain, shaped-run_by, fits-run_by}
use Rattle.refinement.proofs.Kept.{fits_kept}
use Rattle.plan.specs.Plan.{Plan}
use Rattle.plan_engine.specs.Acting.{feed}
use Rattle.plan_engine.specs.Taking.{Taken, take_choice}
use Rattle.plan_engine.specs.Running.{Run, run_plain, busy}
use Rattle.plan_fitting.specs.Fitting.{plan_inputs_fit}
use Rattle.plan_refinement.specs.Refinement.{Rests, Takes, PlanOf}
use Rattle.plan_refinement.proofs.Choices.{busy-shows, take-shows}
use Rattle.plan_refinement.proofs.Runs.{run_plain-shows}
use Rattle.prepared.specs.Prepared.{raised, accepted, later}
use Rattle.prepared.proofs.Counting.{counters-choice, counters-run}
use Rattle.prepared_cycles.specs.Phases.{Moment, moment, room_at, state_at}
use Rattle.prepared_cycles.specs.Traces.{written}
use Rattle.prepared_cycles.specs.Drives.{Going, going, Drive, driven, Calls, on_sheet, on_plan, drawn_most, is_quiet, next_seed}
use Rattle.prepared_cycles.specs.Drives.{drawn_choice, draw, drawn, plainly, to_rest, drive, drives, rows, told, arrived}
use Rattle.prepared_cycles.proofs.Courses.{Stood, packed-stood, room-stood, instant-fits, plain_fits}
use Rattle.prepared_cycles.proofs.Courses.{fed, fed-shaped, fed-fits, fed-shows, fed-counters, refusal-stood}

-- ---- the same goes on a state and on how it lies

pub data Like (m : Module Expr) (u : ℕ) : Going State → Going Moment → Type 0 where
  like : (n : ℕ) (t : Bool) (seed : ℕ) {st : State} {o : Moment} → Stood m u st o → Like m u (going n t seed st) (going n t seed o)

pub data Ends (m : Module Expr) (u : ℕ) : Drive State → Drive Moment → Type 0 where
  ends : (p : ℕ) {g : Going State} {h : Going Moment} → Like m u g h → Ends m u (driven p g) (driven p h)

pub arrived-like : {m : Module Expr} {u : ℕ} {d : Drive State} {f : Drive Moment} → Ends m u d f → arrived state_at f ≡ arrived (λ x. x) d
unfolding arrived
arrived-like (ends p (like n t seed z)) = ap (told p n t seed) (packed-stood z)

quiet_word : {m : Module Expr} {u n : ℕ} {r : Rested} → Ended m u n r → is_quiet r.verdict ≡ quiet m r.state
unfolding is_quiet
quiet_word (at_rest v q a) = rw (v, q) refl
quiet_word (spent v q a) = rw (v, q) refl
quiet_word (stopped v q a c) = rw (v, q) refl

not-not : (t : Bool) → not (not t) ≡ t
not-not true = refl
not-not false = refl

module _ (s : List ℕ) {m : Module Expr} {q : Plan} (w : PlanOf m q) (inputs-fit : (a : Inputs) → plan_inputs_fit q a ≡ inputs_fit m a)
    (e : read s ≡ ok m) (u : ℕ) (user : u < users)
  where
    abbrev S : Calls State
    S = on_sheet s m u

    abbrev P : Calls Moment
    P = on_plan q

    choose-fits : (st : State) → Fits m st → (c : ℕ) → choose s st u c ≡ choose_in m st u c
    unfolding choose judged
    choose-fits st f c = rw (e, state-fits m st f) refl

    -- ---- the calls

    module _ (st : State) (o : Moment) (z : Stood m u st o) where
      module _ (c : ℕ) where
        abbrev t : Taken
        t = take_choice q (room_at o) c o.left

        takes : Takes m (choose_in m st u c) t
        takes = take-shows w st (fits_kept z.shaped z.fit) u user (room_at o) (room-stood z user) o.left z.shows c

        choice-stood : Stood m u (choose_in m st u c).state
            (moment t.left (raised (accepted t.number) o.user o.counters) o.user)
        choice-stood =
            record {
              shaped = shaped-choose_in m st u c z.shaped;
              fit = fits-choose_in m w.sound st z.shaped z.fit u c;
              shows = takes.left;
              counters =
                  counters-choice u user m w.sound st z.shaped z.fit c
                  ∙ (λ i. raised (accepted (sym takes.number i)) (sym z.user i) (z.counters i));
              user = z.user;
            }

      abbrev r : Run
      r = run_plain q 65535 (room_at o) o.left

      abbrev ran : Rested
      ran = run_by m u (plain_choice m) 65535 st

      rests : Rests m ran r
      rests = run_plain-shows w u user 65535 st (room_at o) o.left z.shaped z.fit (room-stood z user) z.shows

      run-stood : Stood m u ran.state (moment r.left (raised r.accepted o.user o.counters) o.user)
      run-stood =
          record {
            shaped = shaped-run_by m u (plain_choice m) w.sound 65535 st z.shaped;
            fit = fits-run_by m u (plain_choice m) w.sound 65535 st z.shaped z.fit;
            shows = rests.left;
            counters =
                counters-run u user m w.sound st z.shaped z.fit (plain_choice m) 65535
                ∙ (λ i. raised (sym rests.accepted i) (sym z.user i) (z.counters i));
            user = z.user;
          }

      run-rested : is_quiet ran.verdict ≡ not (busy r.left)
      run-rested =
          quiet_word (ended-plain m u w.sound user 65535 st z.shaped z.fit)
          ∙ sym (not-not (quiet m ran.state))
          ∙ ap not (sym (busy-shows w ran.state (fits_kept run-stood.shaped run-stood.fit) r.left rests.left))

    -- ---- to rest

    draw-like : {g : Going State} {h : Going Moment} → Like m u g h → Like m u (draw S g) (draw P h)
    unfolding draw
    draw-like (like n b seed {st} {o} z) =
        subst (λ (k : ℕ). Like m u (draw S (going n b seed st)) (drawing k))
        (λ i. drawn_choice (next_seed seed) (sym w.threads i + sym w.wires i)) same
      where
        drawing : ℕ → Going Moment
        drawing k = going 0 (eqb (P.choose o k).number 35) (next_seed seed) (P.choose o k).after

        c : ℕ
        c = drawn_choice (next_seed seed) (length m.threads + length m.wires)

        same : Like m u (draw S (going n b seed st)) (drawing c)
        same =
            rw (choose-fits st z.fit c)
            (subst
            (λ (k : ℕ).
            Like m u (going 0 (eqb (choose_in m st u c).number 35) (next_seed seed) (choose_in m st u c).state)
            (going 0 (eqb k 35) (next_seed seed) (P.choose o c).after))
            (sym (takes st o z c).number)
            (like 0 (eqb (choose_in m st u c).number 35) (next_seed seed) (choice-stood st o z c)))

    over : {g g' : Going State} {h h' : Going Moment} → Like m u g h → Like m u g' h'
        → Like m u (pick g.rested g g') (pick h.rested h h')
    over (like n true seed z) y = like n true seed z
    over (like n false seed z) y = y

    drawn-like : (n : ℕ) {g : Going State} {h : Going Moment} → Like m u g h → Like m u (drawn S n g) (drawn P n h)
    unfolding drawn
    drawn-like zero l = l
    drawn-like (suc n) l = over l (drawn-like n (draw-like l))

    plainly-like : {g : Going State} {h : Going Moment} → Like m u g h → Like m u (plainly S g) (plainly P h)
    unfolding plainly
    plainly-like (like n b seed {st} {o} z) =
        rw (plain_fits s w inputs-fit e u user st z.fit 65535)
        (subst
        (λ (t : Bool). Like m u (going 0 (is_quiet (ran st o z).verdict) seed (ran st o z).state) (going 0 t seed (P.plain o).after))
        (run-rested st o z)
        (like 0 (is_quiet (ran st o z).verdict) seed (run-stood st o z)))

    pub to_rest-like : (b : Bool) {g : Going State} {h : Going Moment} → Like m u g h → Like m u (to_rest S b g) (to_rest P b h)
    unfolding to_rest
    to_rest-like true l = drawn-like drawn_most l
    to_rest-like false l = plainly-like l

    -- ---- an instant

    fed-stood : (st : State) (o : Moment) → Stood m u st o → (a : Inputs) → instant_refusal m st a ≡ 0
        → Stood m u (fed s w inputs-fit e u user st a) (moment (feed q (input_of a) o.left) (later o.counters) o.user)
    fed-stood st o z a x =
        record {
          shaped = fed-shaped s w inputs-fit e u user st o z a x;
          fit = fed-fits s w inputs-fit e u user st o z a x;
          shows = fed-shows s w inputs-fit e u user st o z a x;
          counters = fed-counters s w inputs-fit e u user st o z a x;
          user = z.user;
        }

    drive-like : (b : Bool) (a : Inputs) {g : Going State} {h : Going Moment} → Like m u g h → Like m u (drive S b a g) (drive P b a h)
    unfolding drive
    drive-like b a (like n t seed {st} {o} z) = by (ℕ_discrete (instant_refusal m st a) 0)
      where
        by : Dec (instant_refusal m st a ≡ 0) → Like m u (drive S b a (going n t seed st)) (drive P b a (going n t seed o))
        by (yes x) =
            rw (
              instant-fits s w inputs-fit e u user st z.fit a,
              instant_in-accepted m st a x,
              refusal-stood s w inputs-fit e u user st o z a,
              x,
            )
            (to_rest-like b (like 0 false seed (fed-stood st o z a x)))
        by (no d) =
            rw (
              instant-fits s w inputs-fit e u user st z.fit a,
              instant_in-refused m st a d,
              refusal-stood s w inputs-fit e u user st o z a,
              ne_eqb (instant_refusal m st a) 0 d,
            )
            (like (instant_refusal m st a) false seed z)

    -- ---- instants

    module _ (b : Bool) (inputs : ℕ → Inputs) where
      onward : {g : Going State} {h : Going Moment} {d : Drive State} {f : Drive Moment} → Like m u g h → Ends m u d f → (p : ℕ)
          → Ends m u (pick g.rested d (driven p g)) (pick h.rested f (driven p h))
      onward (like n true seed z) y p = y
      onward (like n false seed z) y p = ends p (like n false seed z)

      pub drives-like : (n p : ℕ) {g : Going State} {h : Going Moment} → Like m u g h
          → Ends m u (drives S b inputs n p g) (drives P b inputs n p h)
      unfolding drives
      drives-like zero p l = ends p l
      drives-like (suc n) p l =
          let k = drive-like b (inputs p) l in
          onward k (drives-like n (p + 1) k) p

      row_on : (n p : ℕ) {g : Going State} {h : Going Moment} → Like m u g h
          → ((v : List ℕ) → rows P b inputs n (p + 1) h v ≡ rows S b inputs n (p + 1) g v) → (v : List ℕ)
          → pick h.rested (rows P b inputs n (p + 1) h (written p (state_at h.after) v)) v
          ≡ pick g.rested (rows S b inputs n (p + 1) g (written p g.after v)) v
      row_on n p (like k true seed {st} {o} z) y v =
          ap (λ (x : State). rows P b inputs n (p + 1) (going k true seed o) (written p x v)) (packed-stood z) ∙ y (written p st v)
      row_on n p (like k false seed z) y v = refl

      pub rows-like : (n p : ℕ) {g : Going State} {h : Going Moment} → Like m u g h → (v : List ℕ)
          → rows P b inputs n p h v ≡ rows S b inputs n p g v
      unfolding rows
      rows-like zero p l v = refl
      rows-like (suc n) p l v =
          let k = drive-like b (inputs p) l in
          row_on n p k (rows-like n (p + 1) k) v
