-- A state that is laid out is shown by it, and a state that is shown is packed again. Assumes nothing.
use mathlib.Core.Path.{◌≡◌, refl, sym, ap, ◌∙◌}
use mathlib.Core.Bool.{Bool, true, false, not}
use Prim.Native.Nat.{ℕ, ◌≤◌, ◌<◌}
use native.Mathlib.Omega.{arith}
use lib.Dec.{ltb}
use lib.ListN.{length, get_or, replicate, length-replicate}
use borrow.Author.Tests.{ltb-true, ltb-false}
use Rattle.sheet.specs.Expression.{Expr}
use Rattle.sheet.specs.Module.{Module}
use Rattle.masks.proofs.Masks.{flags-same}
use Rattle.state.specs.declared.Counters.{Counters}
use Rattle.state.specs.declared.State.{State}
use Rattle.state.specs.State.{Bounded, place_of}
use Rattle.events.specs.Cycle.{current, thread_enabled}
use Rattle.refinement.specs.Refinement.{ready_in}
use Rattle.refinement.proofs.Kept.{Kept}
use Rattle.refinement.proofs.Ready.{length-ready, ready-thread, ready-past}
use Rattle.plan.specs.Plan.{Plan}
use Rattle.plan_changes.specs.Changes.{eight}
use Rattle.plan_engine.specs.Live.{Live}
use Rattle.plan_state.specs.Packing.{ready_below, unpacked_in, unpacked, packed}
use Rattle.plan_state.proofs.Planes.{length-cells}
use Rattle.plan_state.proofs.Packing.{length-ready_below, ready-above, ready-below, cells-of, slots-of, packed-planes}
use Rattle.plan_refinement.specs.Refinement.{Shows, PlanOf}
use Rattle.plan_refinement.proofs.Waking.{eight-same}

module _ {m : Module Expr} {q : Plan} (w : PlanOf m q) {st : State} (k : Kept m st) where
  abbrev few : length m.threads ≤ 8
  few = w.sound.threads-most

  ready_at : (i : ℕ) → i < length m.threads → not (q.waits i (get_or st.places i 0)) ≡ thread_enabled m st i
  unfolding thread_enabled current place_of
  ready_at i h = ap not (w.waits i (place_of st i) h (k.places i h))

  ready-unpacked : ready_below q st.places (eight q.threads) ≡ ready_in m st
  ready-unpacked =
      ap (ready_below q st.places) (ap eight w.threads ∙ eight-same (length m.threads) few)
      ∙ flags-same (ready_below q st.places (length m.threads)) (ready_in m st)
      (length-ready_below q st.places (length m.threads) ∙ sym (length-ready m st))
      (λ i. by i (ltb i (length m.threads)) refl)
    where
      by : (i : ℕ) (t : Bool) → ltb i (length m.threads) ≡ t →
          get_or (ready_below q st.places (length m.threads)) i false ≡ get_or (ready_in m st) i false
      by i true e =
          let h = ltb-true i (length m.threads) e in
          ready-below q st.places (length m.threads) i (omega (arith, few)) h
          ∙ ready_at i h
          ∙ sym (ready-thread m st few i h)
      by i false e =
          let h = ltb-false i (length m.threads) e in
          ready-above q st.places (length m.threads) i h ∙ sym (ready-past m st i h)

  pub unpacked-shows : Bounded st → Shows m st (unpacked q st)
  unfolding unpacked_in
  unpacked-shows b =
      let l = length-replicate {A = ℕ} 4176 0 in
      record {
        scene =
            record {
              long = length-cells st.value st.unknown (replicate 4176 0) 80 ∙ l;
              planes = cells-of st k.shaped b (replicate 4176 0) (omega arith);
              places = refl;
              due = refl;
              ready = ready-unpacked;
            };
        slots =
            record {
              long = length-cells st.pending st.unsure (replicate 32 0) 32 ∙ length-replicate {A = ℕ} 32 0;
              planes = slots-of st k.shaped b;
              held = refl;
            };
      }

pub packed-shows : {m : Module Expr} {st : State} {l : Live} → Shows m st l → (c : Counters) → st.counters ≡ c → packed l c ≡ st
packed-shows {m} {st} {l} z c e =
    ap (packed l) (sym e)
    ∙ packed-planes st l z.scene.planes z.slots.planes z.scene.places z.scene.due z.slots.held
