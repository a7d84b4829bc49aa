-- The woken threads, moved on, stand where the simulation cycle puts them. Assumes nothing.
use mathlib.Core.Path.{◌≡◌, refl, sym, ap, ◌∙◌}
use mathlib.Core.Bool.{Bool, true, false}
use mathlib.Core.List.{List}
use Prim.Native.Nat.{ℕ, zero, suc, ◌+◌, ◌≤◌, ◌<◌}
use native.Mathlib.Omega.{arith}
use lib.ListN.{length, get_or}
use borrow.Author.Tests.{lt-ltb}
use Rattle.values.specs.declared.Value.{Value}
use Rattle.values.specs.Values.{pick}
use Rattle.sheet.specs.Expression.{Expr}
use Rattle.sheet.specs.Module.{Module}
use Rattle.masks.specs.Masks.{any_mark}
use Rattle.masks.proofs.Masks.{any_none}
use Rattle.state.specs.declared.State.{State}
use Rattle.state.specs.State.{Shaped, place_of, with_place, with_places}
use Rattle.events.specs.Cycle.{code_of, instr_at, current, wait_fires, fire_below}
use Rattle.events.proofs.Cycle.{place-fire_below-above, shaped-fire_below}
use Rattle.refinement.specs.Refinement.{ready_in}
use Rattle.refinement.proofs.Kept.{Kept, wait-goes-on}
use Rattle.refinement.proofs.Ready.{ready-with_place}
use Rattle.plan.specs.Plan.{Plan}
use Rattle.plan_changes.specs.Scene.{Stand, stand}
use Rattle.plan_changes.specs.Changes.{eight, after, placed, move_thread, move_below, move}
use Rattle.plan_refinement.specs.Refinement.{PlanOf}
use Rattle.plan_refinement.proofs.Waking.{eight-same}

-- Where the threads of a state stand.
abbrev pub stand_in : Module Expr → State → Stand
stand_in m st = stand st.places (ready_in m st)

-- ---- no thread woken

move-none : (q : Plan) (ws : List Bool) → ((i : ℕ) → get_or ws i false ≡ false) → (n : ℕ) (s : Stand) → move_below q ws n s ≡ s
unfolding move_below move_thread
move-none q ws h zero s = refl
move-none q ws h (suc n) s = rw (h n) (move-none q ws h n s)

move_all : (q : Plan) (ws : List Bool) (s : Stand) → move q ws s ≡ move_below q ws (eight q.threads) s
unfolding move
move_all q ws s = by (any_mark ws) refl
  where
    by : (t : Bool) → any_mark ws ≡ t
        → pick t (move_below q ws (eight q.threads) s) s ≡ move_below q ws (eight q.threads) s
    by true e = refl
    by false e = sym (move-none q ws (any_none ws e) (eight q.threads) s)

module _ {m : Module Expr} {q : Plan} (w : PlanOf m q) where
  -- ---- a thread put at a place

  pub after-at : (i p : ℕ) → i < length m.threads → p + 1 < length (code_of m i) → after p ≡ p + 1
  unfolding after code_of
  after-at i p h l = rw (lt-ltb p 255 (omega (arith, (w.sound.code i h).most)))

  pub placed-stand : (st : State) (i p : ℕ) → Shaped st → i < length m.threads → p < length (code_of m i)
      → placed q i p (stand_in m st) ≡ stand_in m (with_place st i p)
  unfolding placed with_place with_places
  placed-stand st i p k h l =
      rw (
        lt-ltb i 8 (omega (arith, w.sound.threads-most)),
        w.waits i p h l,
        ready-with_place m st i p w.sound.threads-most k h,
      )

  -- ---- the woken threads

  module _ (f g : ℕ → Value) (ws : List Bool) where
    thread-stand : (st : State) (i : ℕ) → Shaped st → i < length m.threads → place_of st i < length (code_of m i)
        → get_or ws i false ≡ wait_fires (current m st i) f g
        → move_thread q ws i (stand_in m st)
        ≡ stand_in m (pick (wait_fires (current m st i) f g) (with_place st i (place_of st i + 1)) st)
    unfolding move_thread place_of current
    thread-stand st i k h l e = rw e (by (wait_fires (instr_at (code_of m i) (place_of st i)) f g) refl)
      where
        by : (t : Bool) → wait_fires (instr_at (code_of m i) (place_of st i)) f g ≡ t
            → pick t (placed q i (after (place_of st i)) (stand_in m st)) (stand_in m st)
            ≡ stand_in m (pick t (with_place st i (place_of st i + 1)) st)
        by true u =
            let b = wait-goes-on w.sound i h (place_of st i) l f g u in
            rw (after-at i (place_of st i) h b) (placed-stand st i (place_of st i + 1) k h b)
        by false u = refl

    current-above : (n : ℕ) (st : State) → current m (fire_below m f g n st) n ≡ current m st n
    unfolding current
    current-above n st = rw (place-fire_below-above m f g n st n (omega arith))

    below-stand : (st : State) → Kept m st
        → ((i : ℕ) → i < length m.threads → get_or ws i false ≡ wait_fires (current m st i) f g)
        → (n : ℕ) → n ≤ length m.threads → move_below q ws n (stand_in m st) ≡ stand_in m (fire_below m f g n st)
    unfolding move_below fire_below
    below-stand st k e zero b = refl
    below-stand st k e (suc n) b =
        ap (move_thread q ws n) (below-stand st k e n (omega arith))
        ∙ thread-stand (fire_below m f g n st) n (shaped-fire_below m f g n st k.shaped) b
        (rw (place-fire_below-above m f g n st n (omega arith)) (k.places n b))
        (e n b ∙ ap (λ x. wait_fires x f g) (sym (current-above n st)))

    pub move-stand : (st : State) → Kept m st
        → ((i : ℕ) → i < length m.threads → get_or ws i false ≡ wait_fires (current m st i) f g)
        → move q ws (stand_in m st) ≡ stand_in m (fire_below m f g (length m.threads) st)
    move-stand st k e =
        move_all q ws (stand_in m st)
        ∙ ap (λ (n : ℕ). move_below q ws n (stand_in m st))
        (ap eight w.threads ∙ eight-same (length m.threads) w.sound.threads-most)
        ∙ below-stand st k e (length m.threads) (omega arith)
