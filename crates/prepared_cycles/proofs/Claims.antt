-- The claim of many cycles on a plan. Assumes nothing.
use mathlib.Core.Path.{◌≡◌, refl, ap, ◌∙◌}
use mathlib.Core.Bool.{Bool, true, false}
use mathlib.Core.List.{List}
use Prim.Native.Nat.{ℕ, ◌*◌, ◌/◌}
use lib.Dec.{ltb}
use lib.ListN.{length}
use borrow.Author.Tests.{ltb-true}
use Rattle.values.specs.Values.{pick}
use Rattle.sheet.specs.Reading.{ok}
use Rattle.sheet.specs.Expression.{Expr}
use Rattle.sheet.specs.Module.{Module, read}
use Rattle.state.specs.declared.State.{State}
use Rattle.state.specs.State.{Shaped, Bounded, users}
use Rattle.soundness.proofs.Soundness.{sound}
use Rattle.events.specs.declared.Inputs.{Inputs}
use Rattle.events.specs.Calls.{judged, state_fits, inputs_fit}
use Rattle.events.specs.Rows.{whole_rows}
use Rattle.events.proofs.Fits.{fits-state}
use Rattle.refinement.proofs.Kept.{fits_kept}
use Rattle.plan.specs.Plan.{Plan}
use Rattle.plan_fitting.specs.Fitting.{plan_fits, plan_inputs_fit}
use Rattle.plan_fitting.proofs.Fitting.{plan-fits, plan-inputs-fit}
use Rattle.plan_refinement.specs.Refinement.{PlanOf}
use Rattle.prepared.specs.Prepared.{prepared_plan}
use Rattle.prepared.proofs.Held.{plan-of}
use Rattle.prepared.proofs.Unpacked.{unpacked-shows}
use Rattle.prepared.proofs.Sheets.{prepared-holds}
use Rattle.prepared_cycles.specs.declared.Cycled.{Cycled}
use Rattle.prepared_cycles.specs.Cycles.{cycled, row_inputs, phases, run_cycles}
use Rattle.prepared_cycles.specs.Phases.{state_at, phases_at, ended, laid_out, cycles_at}
use Rattle.prepared_cycles.specs.Traces.{has_room, rounds, trace_from, trace_cycles, traced_cycles, trace_from_at, trace_at, traced_at}
use Rattle.prepared_cycles.specs.Drives.{going, driven, on_sheet, on_plan, to_rest, drives, rows, told, arrived}
use Rattle.prepared_cycles.specs.Drives.{settled, drive_cycles, driven_cycles, settled_at, drive_at, driven_at}
use Rattle.prepared_cycles.specs.Claims.{OnTheSheet}
use Rattle.prepared_cycles.proofs.Courses.{Stood, phases-stood}
use Rattle.prepared_cycles.proofs.Traced.{trace-stood}
use Rattle.prepared_cycles.proofs.Alike.{like, ends, arrived-like, to_rest-like, drives-like, rows-like}

module _ (s : List ℕ) {m : Module Expr} {q : Plan} (k : PlanOf m q) (inputs-fit : (a : Inputs) → plan_inputs_fit q a ≡ inputs_fit m a)
    (e : read s ≡ ok m) (st : State) (same : plan_fits q st ≡ state_fits m st) (h : Shaped st) (b : Bounded st)
  where
    -- A state that fits, laid out.
    pub stood : (u : ℕ) → state_fits m st ≡ true → Stood m u st (laid_out q st u)
    unfolding laid_out
    stood u f =
        let g = fits-state m st h f in
        record { shaped = h; fit = g; shows = unpacked-shows k (fits_kept h g) b; counters = refl; user = refl }

    module _ (u : ℕ) where
      cycles-of : (ns xs : List ℕ) → cycles_at q st u ns xs ≡ run_cycles s st u ns xs
      unfolding cycles_at run_cycles judged
      cycles-of ns xs = rw (e, same) (by (state_fits m st) refl (ltb u users) refl (whole_rows ns xs))
        where
          rounds : ℕ
          rounds = 2 * (length ns / 16)

          by : (t : Bool) → state_fits m st ≡ t → (v : Bool) → ltb u users ≡ v → (g : Bool)
              → pick t
              (pick v (pick g (ended (phases_at q (row_inputs q.inputs ns xs) rounds 0 (laid_out q st u))) (cycled 0 25 false st))
              (cycled 0 46 false st))
              (cycled 0 31 false st)
              ≡ pick t
              (pick v (pick g (phases s u (row_inputs m.scope.inputs ns xs) rounds 0 st) (cycled 0 25 false st))
              (cycled 0 46 false st))
              (cycled 0 31 false st)
          by false f v l g = refl
          by true f false l g = refl
          by true f true l false = refl
          by true f true l true =
              ap (λ (n : ℕ). ended (phases_at q (row_inputs n ns xs) rounds 0 (laid_out q st u))) k.inputs
              ∙ phases-stood s k inputs-fit e u (ltb-true u users l) (row_inputs m.scope.inputs ns xs) rounds 0 st (laid_out q st u)
              (stood u f)

      trace-of : (ns xs w : List ℕ) → trace_at q st u ns xs w ≡ trace_cycles s st u ns xs w
      unfolding trace_at trace_cycles
      trace-of ns xs w = ap (λ (r : Cycled). pick (has_room (rounds ns) w) r (cycled 0 23 false st)) (cycles-of ns xs)

      traced-of : (ns xs w : List ℕ) → traced_at q st u ns xs w ≡ traced_cycles s st u ns xs w
      unfolding traced_at traced_cycles judged
      traced-of ns xs w =
          rw (e, same) (by (has_room (rounds ns) w) (state_fits m st) refl (ltb u users) refl (whole_rows ns xs))
        where
          by : (r t : Bool) → state_fits m st ≡ t → (v : Bool) → ltb u users ≡ v → (g : Bool)
              → pick r
              (pick t (pick v (pick g (trace_from_at q (row_inputs q.inputs ns xs) (rounds ns) 0 (laid_out q st u) w) w) w) w)
              w
              ≡ pick r (pick t (pick v (pick g (trace_from s u (row_inputs m.scope.inputs ns xs) (rounds ns) 0 st w) w) w) w) w
          by false t f v l g = refl
          by true false f v l g = refl
          by true true f false l g = refl
          by true true f true l false = refl
          by true true f true l true =
              ap (λ (n : ℕ). trace_from_at q (row_inputs n ns xs) (rounds ns) 0 (laid_out q st u) w) k.inputs
              ∙ trace-stood s k inputs-fit e u (ltb-true u users l) (row_inputs m.scope.inputs ns xs) (rounds ns) 0 st
              (laid_out q st u) w (stood u f)

    -- ---- driven cycles

    module _ (draws : Bool) (seed u : ℕ) where
      settle-of : settled_at q draws seed st u ≡ settled s draws seed st u
      unfolding settled_at settled judged
      settle-of = rw (e, same) (by (state_fits m st) refl (ltb u users) refl)
        where
          by : (t : Bool) → state_fits m st ≡ t → (v : Bool) → ltb u users ≡ v
              → pick t
              (pick v (arrived state_at (driven 0 (to_rest (on_plan q) draws (going 0 false seed (laid_out q st u)))))
              (told 0 46 false seed st))
              (told 0 31 false seed st)
              ≡ pick t
              (pick v (arrived (λ x. x) (driven 0 (to_rest (on_sheet s m u) draws (going 0 false seed st)))) (told 0 46 false seed st))
              (told 0 31 false seed st)
          by false f v l = refl
          by true f false l = refl
          by true f true l =
              arrived-like (ends 0 (to_rest-like s k inputs-fit e u (ltb-true u users l) draws (like 0 false seed (stood u f))))

      module _ (ns xs w : List ℕ) where
        drive-of : drive_at q draws seed st u ns xs w ≡ drive_cycles s draws seed st u ns xs w
        unfolding drive_at drive_cycles judged
        drive-of = rw (e, same) (by (has_room (rounds ns) w) (state_fits m st) refl (ltb u users) refl (whole_rows ns xs))
          where
            by : (r t : Bool) → state_fits m st ≡ t → (v : Bool) → ltb u users ≡ v → (g : Bool)
                → pick r
                (pick t
                (pick v
                (pick g
                (arrived state_at (drives (on_plan q) draws (row_inputs q.inputs ns xs) (rounds ns) 0 (going 0 true seed (laid_out q st u))))
                (told 0 25 false seed st))
                (told 0 46 false seed st))
                (told 0 31 false seed st))
                (told 0 23 false seed st)
                ≡ pick r
                (pick t
                (pick v
                (pick g
                (arrived (λ x. x) (drives (on_sheet s m u) draws (row_inputs m.scope.inputs ns xs) (rounds ns) 0 (going 0 true seed st)))
                (told 0 25 false seed st))
                (told 0 46 false seed st))
                (told 0 31 false seed st))
                (told 0 23 false seed st)
            by false t f v l g = refl
            by true false f v l g = refl
            by true true f false l g = refl
            by true true f true l false = refl
            by true true f true l true =
                ap
                (λ (n : ℕ).
                arrived state_at (drives (on_plan q) draws (row_inputs n ns xs) (rounds ns) 0 (going 0 true seed (laid_out q st u))))
                k.inputs
                ∙ arrived-like
                (drives-like s k inputs-fit e u (ltb-true u users l) draws (row_inputs m.scope.inputs ns xs) (rounds ns) 0
                (like 0 true seed (stood u f)))

        driven-of : driven_at q draws seed st u ns xs w ≡ driven_cycles s draws seed st u ns xs w
        unfolding driven_at driven_cycles judged
        driven-of = rw (e, same) (by (has_room (rounds ns) w) (state_fits m st) refl (ltb u users) refl (whole_rows ns xs))
          where
            by : (r t : Bool) → state_fits m st ≡ t → (v : Bool) → ltb u users ≡ v → (g : Bool)
                → pick r
                (pick t
                (pick v
                (pick g (rows (on_plan q) draws (row_inputs q.inputs ns xs) (rounds ns) 0 (going 0 true seed (laid_out q st u)) w) w)
                w)
                w)
                w
                ≡ pick r
                (pick t
                (pick v
                (pick g (rows (on_sheet s m u) draws (row_inputs m.scope.inputs ns xs) (rounds ns) 0 (going 0 true seed st) w) w)
                w)
                w)
                w
            by false t f v l g = refl
            by true false f v l g = refl
            by true true f false l g = refl
            by true true f true l false = refl
            by true true f true l true =
                ap (λ (n : ℕ). rows (on_plan q) draws (row_inputs n ns xs) (rounds ns) 0 (going 0 true seed (laid_out q st u)) w) k.inputs
                ∙ rows-like s k inputs-fit e u (ltb-true u users l) draws (row_inputs m.scope.inputs ns xs) (rounds ns) 0
                (like 0 true seed (stood u f)) w

pub on-the-sheet : OnTheSheet
unfolding OnTheSheet
on-the-sheet s ws m e l st h b =
    let y = prepared-holds s m e ws l in
    let k = plan-of (prepared_plan s ws) (sound s e) y in
    record {
      cycles = cycles-of s k (plan-inputs-fit (sound s e) y) e st (plan-fits (sound s e) y st) h b;
      trace = trace-of s k (plan-inputs-fit (sound s e) y) e st (plan-fits (sound s e) y st) h b;
      traced = traced-of s k (plan-inputs-fit (sound s e) y) e st (plan-fits (sound s e) y st) h b;
      settle = settle-of s k (plan-inputs-fit (sound s e) y) e st (plan-fits (sound s e) y st) h b;
      drive = drive-of s k (plan-inputs-fit (sound s e) y) e st (plan-fits (sound s e) y st) h b;
      driven = driven-of s k (plan-inputs-fit (sound s e) y) e st (plan-fits (sound s e) y st) h b;
    }
