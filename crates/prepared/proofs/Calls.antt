-- On a plan that holds a module the calls of specs/Prepared are document 01's calls. Assumes nothing.
use mathlib.Core.Path.{◌≡◌, refl, sym, ap, ◌∙◌}
use mathlib.Core.Bool.{Bool, true, false, not}
use mathlib.Core.List.{List}
use Prim.Native.Nat.{ℕ, ◌+◌, ◌≤◌, ◌<◌}
use native.Mathlib.Omega.{arith}
use lib.Dec.{ltb, eqb}
use borrow.Author.Tests.{ltb-true, ltb-false, le-ltb}
use Rattle.values.specs.Values.{pick}
use Rattle.values.specs.Cells.{small}
use Rattle.sheet.specs.Expression.{Expr}
use Rattle.sheet.specs.Module.{Module}
use Rattle.state.specs.declared.State.{State}
use Rattle.state.specs.State.{Shaped, Bounded, users, count_of, allowance_of, with_counters}
use Rattle.events.specs.declared.Inputs.{Inputs}
use Rattle.events.specs.declared.Chosen.{Chosen}
use Rattle.events.specs.declared.Ran.{Ran}
use Rattle.events.specs.declared.Verdict.TheVariants.{Refused}
use Rattle.events.specs.declared.Rested.{Rested}
use Rattle.events.specs.Verdict.{number_of_verdict}
use Rattle.events.specs.Cycle.{items, quiet, feed}
use Rattle.events.specs.Calls.{state_fits, input_of, inputs_fit, spend_time, answer, timed, by_user, refusal}
use Rattle.events.specs.Calls.{choose_in, run_in, run_by, plain_choice}
use Rattle.events.specs.Calls.{instant_refusal, instant_in}
use Rattle.events.proofs.Choices.{choose_in-refused, counters-feed}
use Rattle.events.proofs.Fits.{Fits, fits-state}
use Rattle.events.proofs.Runs.{shaped-run_by, fits-run_by, Ended, at_rest, spent, stopped, ended-plain}
use Rattle.refinement.proofs.Kept.{Kept, fits_kept}
use Rattle.plan.specs.Plan.{Plan}
use Rattle.plan_engine.specs.Live.{Live}
use Rattle.plan_engine.specs.Taking.{take_choice}
use Rattle.plan_engine.specs.Running.{run_list, run_plain, busy}
use Rattle.plan_state.specs.Packing.{unpacked, packed}
use Rattle.plan_fitting.specs.Fitting.{plan_fits, plan_inputs_fit}
use Rattle.plan_refinement.specs.Refinement.{Shows, Room, PlanOf}
use Rattle.plan_refinement.proofs.Choices.{busy-shows, take-shows, feed-timed-shows}
use Rattle.plan_refinement.proofs.Runs.{run_list-shows, run_plain-shows}
use Rattle.prepared.specs.Prepared.{room_in, raised, accepted, userless, verdict_of, choose_at, run_at, plain_at}
use Rattle.prepared.specs.Prepared.{later, instant_number, fed_at, instant_at}
use Rattle.prepared.proofs.Counting.{counters-choice, counters-list, counters-run}
use Rattle.prepared.proofs.Unpacked.{unpacked-shows, packed-shows}

module _ {m : Module Expr} {q : Plan} (w : PlanOf m q) where
  -- ---- a plain run's verdict, by the number that stopped it and the marks that are left

  verdict-same : (u n : ℕ) (r : Rested) (l : Live) → Kept m r.state → Shows m r.state l → Ended m u n r
      → verdict_of (number_of_verdict r.verdict) l ≡ r.verdict
  unfolding verdict_of number_of_verdict
  verdict-same u n r l k z (at_rest v h a) = rw (v, busy-shows w r.state k l z, h) refl
  verdict-same u n r l k z (spent v h a) = rw (v, busy-shows w r.state k l z, h) refl
  verdict-same u n r l k z (stopped v h a c) = rw v refl

  -- ---- the number of a choice whose user is above 3

  userless-same : (st : State) (u c : ℕ) → users ≤ u → userless q c ≡ refusal m st u c
  unfolding userless refusal by_user items
  userless-same st u c h = rw (w.threads, w.wires, le-ltb u users h) refl

  userless-some : (c : ℕ) → userless q c ≡ 0 → ⊥
  unfolding userless
  userless-some c = by (ltb c (q.threads + q.wires)) (eqb c 255)
    where
      by : (a b : Bool) → ◌≡◌ {A = ℕ} (pick a 46 (pick b 46 22)) 0 → ⊥
      by true b e = omega arith
      by false true e = omega arith
      by false false e = omega arith

  userless-choice : (st : State) (u c : ℕ) → users ≤ u → record { number = userless q c; state = st } ≡ choose_in m st u c
  userless-choice st u c h =
      let e = userless-same st u c h in
      ap (λ (n : ℕ). record { number = n; state = st }) e ∙ sym (choose_in-refused m st u c (λ z. userless-some c (e ∙ z)))

  module _ (st : State) (same : plan_fits q st ≡ state_fits m st) (h : Shaped st) (b : Bounded st) where
    fit : state_fits m st ≡ true → Fits m st
    fit f = fits-state m st h f

    kept : state_fits m st ≡ true → Kept m st
    kept f = fits_kept h (fit f)

    shown : state_fits m st ≡ true → Shows m st (unpacked q st)
    shown f = unpacked-shows w (kept f) b

    module _ (u : ℕ) where
      room : u < users → state_fits m st ≡ true → Room u (room_in st.counters u) st
      unfolding count_of allowance_of
      room l f = omega (arith, (fit f).counts u l)

      -- ---- a choice

      pub choose-at : (c : ℕ) → choose_at q st u c ≡ pick (state_fits m st) (choose_in m st u c) (record { number = 31; state = st })
      unfolding choose_at
      choose-at c = rw same (by (state_fits m st) refl (ltb u users) refl)
        where
          by : (t : Bool) → state_fits m st ≡ t → (s : Bool) → ltb u users ≡ s →
              let x = take_choice q (room_in st.counters u) c (unpacked q st) in
              pick {A = Chosen} t
              (pick s (record { number = x.number; state = packed x.left (raised (accepted x.number) u st.counters) })
              (record { number = userless q c; state = st }))
              (record { number = 31; state = st })
              ≡ pick t (choose_in m st u c) (record { number = 31; state = st })
          by false f s l = refl
          by true f false l = userless-choice st u c (ltb-false u users l)
          by true f true l =
              let v = ltb-true u users l in
              let t = take-shows w st (kept f) u v (room_in st.counters u) (room v f) (unpacked q st) (shown f) c in
              let p = packed-shows t.left
              (raised (accepted (take_choice q (room_in st.counters u) c (unpacked q st)).number) u st.counters)
              (counters-choice u v m w.sound st h (fit f) c
              ∙ ap (λ (n : ℕ). raised (accepted n) u st.counters) (sym t.number)) in
              λ i. record { number = t.number i; state = p i }

      -- ---- a run over a list

      pub run-at : (cs : List ℕ)
          → run_at q st u cs
          ≡ pick (state_fits m st) (pick (ltb u users) (run_in m u cs st) (record { accepted = 0; number = 46; state = st }))
          (record { accepted = 0; number = 31; state = st })
      unfolding run_at
      run-at cs = rw same (by (state_fits m st) refl (ltb u users) refl)
        where
          by : (t : Bool) → state_fits m st ≡ t → (s : Bool) → ltb u users ≡ s →
              let x = run_list q cs (room_in st.counters u) (unpacked q st) in
              pick {A = Ran} t
              (pick s
              (record { accepted = x.accepted; number = x.number; state = packed x.left (raised x.accepted u st.counters) })
              (record { accepted = 0; number = 46; state = st }))
              (record { accepted = 0; number = 31; state = st })
              ≡ pick t (pick s (run_in m u cs st) (record { accepted = 0; number = 46; state = st }))
              (record { accepted = 0; number = 31; state = st })
          by false f s l = refl
          by true f false l = refl
          by true f true l =
              let v = ltb-true u users l in
              let t = run_list-shows w u v cs st (room_in st.counters u) (unpacked q st) h (fit f) (room v f) (shown f) in
              let p = packed-shows t.left (raised (run_list q cs (room_in st.counters u) (unpacked q st)).accepted u st.counters)
              (counters-list u v m w.sound st h (fit f) cs
              ∙ ap (λ (n : ℕ). raised n u st.counters) (sym t.accepted)) in
              λ i. record { accepted = t.accepted i; number = t.number i; state = p i }

      -- ---- the plain run

      kept-rested : (n : ℕ) → state_fits m st ≡ true → Kept m (run_by m u (plain_choice m) n st).state
      kept-rested n f =
          fits_kept (shaped-run_by m u (plain_choice m) w.sound n st h) (fits-run_by m u (plain_choice m) w.sound n st h (fit f))

      pub plain-at : (n : ℕ)
          → plain_at q st u n
          ≡ pick (state_fits m st)
          (pick (ltb u users) (run_by m u (plain_choice m) n st) (record { accepted = 0; verdict = Refused 46; state = st }))
          (record { accepted = 0; verdict = Refused 31; state = st })
      unfolding plain_at
      plain-at n = rw same (by (state_fits m st) refl (ltb u users) refl)
        where
          by : (t : Bool) → state_fits m st ≡ t → (s : Bool) → ltb u users ≡ s →
              let x = run_plain q n (room_in st.counters u) (unpacked q st) in
              pick {A = Rested} t
              (pick s
              (record {
                accepted = x.accepted;
                verdict = verdict_of x.number x.left;
                state = packed x.left (raised x.accepted u st.counters);
              })
              (record { accepted = 0; verdict = Refused 46; state = st }))
              (record { accepted = 0; verdict = Refused 31; state = st })
              ≡ pick t (pick s (run_by m u (plain_choice m) n st) (record { accepted = 0; verdict = Refused 46; state = st }))
              (record { accepted = 0; verdict = Refused 31; state = st })
          by false f s l = refl
          by true f false l = refl
          by true f true l =
              let r = run_by m u (plain_choice m) n st in
              let x = run_plain q n (room_in st.counters u) (unpacked q st) in
              let v = ltb-true u users l in
              let t = run_plain-shows w u v n st (room_in st.counters u) (unpacked q st) h (fit f) (room v f) (shown f) in
              let y = ap (λ (k : ℕ). verdict_of k x.left) t.number
              ∙ verdict-same u n r x.left (kept-rested n f) t.left (ended-plain m u w.sound v n st h (fit f)) in
              let p = packed-shows t.left (raised x.accepted u st.counters)
              (counters-run u v m w.sound st h (fit f) (plain_choice m) n
              ∙ ap (λ (k : ℕ). raised k u st.counters) (sym t.accepted)) in
              λ i. record { accepted = t.accepted i; verdict = y i; state = p i }

    -- ---- an instant

    module _ (a : Inputs) (inputs-same : plan_inputs_fit q a ≡ inputs_fit m a)
        (fitting : (n : ℕ) → n < m.scope.inputs → small (input_of a n) ≡ true) where
      busy-at : state_fits m st ≡ true → busy (unpacked q st) ≡ not (quiet m st)
      busy-at f = busy-shows w st (kept f) (unpacked q st) (shown f)

      instant-number : state_fits m st ≡ true → instant_number q st a ≡ instant_refusal m st a
      unfolding instant_number instant_refusal
      instant-number f = rw (inputs-same, busy-at f) (ap (λ n. pick (inputs_fit m a) n 25) (by (quiet m st)))
        where
          by : (t : Bool) → pick (not t) 32 (spend_time st) ≡ pick t (spend_time st) 32
          by true = refl
          by false = refl

      later-timed : (timed st).counters ≡ later st.counters
      unfolding timed with_counters
      later-timed = refl

      fed-at : state_fits m st ≡ true → fed_at q st a ≡ feed m (input_of a) (timed st)
      unfolding fed_at
      fed-at f =
          packed-shows (feed-timed-shows w st (kept f) (unpacked q st) (shown f) (input_of a) fitting) (later st.counters)
          (counters-feed m st (input_of a) ∙ later-timed)

      pub instant-at : instant_at q st a ≡ pick (state_fits m st) (instant_in m st a) (record { number = 31; state = st })
      unfolding instant_at instant_in
      instant-at = rw same (by (state_fits m st) refl)
        where
          by : (t : Bool) → state_fits m st ≡ t →
              pick t (answer (instant_number q st a) st (fed_at q st a)) (record { number = 31; state = st })
              ≡ pick t (answer (instant_refusal m st a) st (feed m (input_of a) (timed st))) (record { number = 31; state = st })
          by false f = refl
          by true f = rw (instant-number f, fed-at f) refl
