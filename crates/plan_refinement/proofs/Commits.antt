-- The commit and the inputs of an instant on a plan are the simulation cycle's: all cells put, and then one change. Assumes nothing.
use mathlib.Core.Path.{◌≡◌, refl, sym, ap, ◌∙◌, subst}
use mathlib.Core.Bool.{Bool, true, false}
use mathlib.Core.List.{List}
use mathlib.Core.Option.{Option, none, some}
use Prim.Native.Nat.{ℕ, zero, suc, ◌+◌, ◌≤◌, ◌<◌}
use native.Mathlib.Omega.{arith}
use lib.ListN.{get_or}
use lib.Dec.{ltb}
use borrow.Author.Tests.{ltb-true, ltb-false}
use Rattle.values.specs.declared.Value.{Value}
use Rattle.values.specs.Values.{pick}
use Rattle.sheet.specs.Expression.{Expr}
use Rattle.sheet.specs.Module.{Module}
use Rattle.masks.specs.Masks.{bits}
use Rattle.masks.proofs.Masks.{flags-same, length-bits, any_none, any-bits}
use Rattle.state.specs.declared.State.{State}
use Rattle.state.specs.State.{with_planes, with_slots, value_of, with_value, pending_of, without_pending, place_of, is_due}
use Rattle.events.specs.Cycle.{variables, current, store_one, store_pending, store_inputs, react}
use Rattle.events.specs.Cycle as cycle
use Rattle.events.proofs.Cycle.{kept-store_pending, shaped-store_pending, pending-store_pending}
use Rattle.events.proofs.Cycle.{pending-store_pending-above, value-store_pending-other}
use Rattle.events.proofs.Cycle.{kept-store_inputs, value-store_inputs-above}
use Rattle.refinement.proofs.Kept.{Kept, flag-none, kept-without_pending}
use Rattle.refinement.proofs.Ready.{ready-places}
use Rattle.values.specs.Cells as cell
use Rattle.values.specs.Cells.{small, cell_of, cell_at}
use Rattle.values.proofs.Cells.{value_cell}
use Rattle.plan.specs.Plan.{Plan}
use Rattle.plan_changes.specs.Scene.{Changing}
use Rattle.plan_changes.specs.Changes.{put, opened, finish}
use Rattle.plan_engine.specs.Live.{Live}
use Rattle.plan_engine.specs.Acting.{put_register, put_pending, committed, commit, put_inputs, feed}
use Rattle.plan_state.proofs.Planes.{planes-value}
use Rattle.plan_refinement.specs.Refinement.{Seen, Slots, Shows, PlanOf}
use Rattle.plan_refinement.proofs.Changing.{Midway, midway_start, midway-put, midway-finish}
use Rattle.plan_refinement.proofs.Steps.{SameSlots, slots_same, slots-react}

-- ---- a change does not look at the slots

midway-slots : (m : Module Expr) (f : ℕ → Value) (u : State) (r : ℕ) {k : Changing} → r < m.scope.registers → Midway m f u k
    → Midway m f (without_pending u r) k
unfolding without_pending with_slots value_of is_due current place_of
midway-slots m f u r l g =
    record {
      kept = kept-without_pending g.kept r l;
      long = g.long;
      planes = g.planes;
      length-due = g.length-due;
      due = g.due;
      length-woken = g.length-woken;
      woken = g.woken;
    }

-- The end of a change on the parts of a state that is shown.
module _ {m : Module Expr} {q : Plan} (w : PlanOf m q) (st u : State) (l : Live) (z : Shows m st l) (same : u.places ≡ st.places) where
  pub finish-seen : (f : ℕ → Value) (k : Changing) → Midway m f u k
      → Seen m (react m f u) (finish q k (record { places = l.places; ready = l.ready }))
  finish-seen f k g =
      rw (z.scene.places ∙ sym same, z.scene.ready ∙ sym (ready-places m u st same)) (midway-finish w f u k g)

module _ {m : Module Expr} {q : Plan} (w : PlanOf m q) (st : State) (k : Kept m st) (l : Live) (z : Shows m st l) where
  -- ---- commit

  register-inside : (r : ℕ) → r < m.scope.registers → m.scope.inputs + r < variables m
  unfolding variables
  register-inside r h = omega (arith, w.sound.variables)

  abbrev pending-change : ℕ → Changing
  pending-change n = put_pending q st.places st.held l.pending n (opened l.cells st.due)

  abbrev stored : ℕ → State
  stored n = store_pending m n st

  stored-places : (n : ℕ) → (stored n).places ≡ st.places
  unfolding with_value with_planes without_pending with_slots
  stored-places n = kept-store_pending m (λ t. t.places) (λ t v a. refl) (λ t r. refl) n st

  -- One register's cell, if it holds one.
  register-put : (u : State) (g : Changing) (n c : ℕ) (t : Bool) (v : ℕ) (ps : List ℕ) → v ≡ m.scope.inputs + n → ps ≡ u.places
      → n < m.scope.registers → value_of u (m.scope.inputs + n) ≡ value_of st (m.scope.inputs + n) → Midway m (value_of st) u g
      → Midway m (value_of st) (store_one (m.scope.inputs + n) n (pick t (some (cell.value_of c)) none) u)
      (pick t (put q ps v c g) g)
  unfolding store_one
  register-put u g n c true v ps a b h e y =
      rw (a, b)
      (midway-slots m (value_of st) (with_value u (m.scope.inputs + n) (cell.value_of c)) n h
      (midway-put w (value_of st) u (m.scope.inputs + n) c g y (register-inside n h) e))
  register-put u g n c false v ps a b h e y = y

  pending-at : (n : ℕ) → n < 32
      → pending_of st n ≡ pick (get_or st.held n false) (some (cell.value_of (get_or l.pending n 0))) none
  unfolding pending_of cell_at
  pending-at n h = ap (λ a. pick (get_or st.held n false) (some a) none) (sym (planes-value z.slots.planes n h))

  pending_next : (n : ℕ) → n < m.scope.registers → Midway m (value_of st) (stored n) (pending-change n)
      → Midway m (value_of st) (stored (suc n)) (pending-change (suc n))
  unfolding store_pending put_pending put_register
  pending_next n h y =
      subst
      (λ (o : Option Value). Midway m (value_of st) (store_one (m.scope.inputs + n) n o (stored n)) (pending-change (suc n)))
      (sym (pending-store_pending-above m n st n (omega arith) ∙ pending-at n (omega (arith, w.sound.registers-most))))
      (register-put (stored n) (pending-change n) n (get_or l.pending n 0) (get_or st.held n false) (q.inputs + n) st.places
      (ap (λ (x : ℕ). x + n) w.inputs) (sym (stored-places n)) h
      (value-store_pending-other m n st (m.scope.inputs + n) (λ r b e. omega arith)) y)

  pending-midway : (n : ℕ) → n ≤ m.scope.registers → Midway m (value_of st) (stored n) (pending-change n)
  unfolding store_pending put_pending
  pending-midway zero b = midway_start m (value_of st) st l.cells k (λ v. refl) z.scene.long z.scene.planes
  pending-midway (suc n) b = pending_next n b (pending-midway n (omega arith))

  abbrev all : State
  all = stored m.scope.registers

  committed-is : committed q l ≡ pending-change m.scope.registers
  committed-is =
      λ i. put_pending q (z.scene.places i) (z.slots.held i) l.pending (w.registers i) (opened l.cells (z.scene.due i))

  -- No flag is left.
  none-held : bits 0 ≡ all.held
  none-held =
      flags-same (bits 0) all.held
      (length-bits 0 ∙ sym (shaped-store_pending m m.scope.registers st k.shaped).held)
      (λ r. any_none (bits 0) (any-bits 0 (omega arith)) r ∙ sym (flag-none all r (empty r (ltb r m.scope.registers) refl)))
    where
      empty : (r : ℕ) (t : Bool) → ltb r m.scope.registers ≡ t → pending_of all r ≡ none
      empty r true e =
          pending-store_pending m m.scope.registers st k.shaped w.sound.registers-most r
          (ltb-true r m.scope.registers e)
      empty r false e =
          let b = ltb-false r m.scope.registers e in
          pending-store_pending-above m m.scope.registers st r b ∙ k.pending r b

  commit-slots : Slots (react m (value_of st) all) l.pending (bits 0)
  unfolding with_value with_planes without_pending with_slots
  commit-slots =
      slots_same (react m (value_of st) all) all l.pending (bits 0) (slots-react m (value_of st) all)
      (record {
        long = z.slots.long;
        planes =
            rw (
              kept-store_pending m (λ t. t.pending) (λ t v a. refl) (λ t r. refl) m.scope.registers st,
              kept-store_pending m (λ t. t.unsure) (λ t v a. refl) (λ t r. refl) m.scope.registers st,
            )
            z.slots.planes;
        held = none-held;
      })

  pub commit-shows : Shows m (cycle.commit m st) (commit q l)
  unfolding commit cycle.commit
  commit-shows =
      record {
        scene =
            subst
            (λ (g : Changing). Seen m (react m (value_of st) all) (finish q g (record { places = l.places; ready = l.ready })))
            (sym committed-is)
            (finish-seen w st all l z (stored-places m.scope.registers) (value_of st) (pending-change m.scope.registers)
            (pending-midway m.scope.registers (omega arith)));
        slots = commit-slots;
      }

  -- ---- feed

  module _ (a : ℕ → Value) (fit : (n : ℕ) → n < m.scope.inputs → small (a n) ≡ true) where
    abbrev fed : ℕ → State
    fed n = store_inputs a n st

    abbrev input-change : ℕ → Changing
    input-change n = put_inputs q st.places a n (opened l.cells st.due)

    fed-places : (n : ℕ) → (fed n).places ≡ st.places
    unfolding with_value with_planes
    fed-places n = kept-store_inputs a (λ t. t.places) (λ t v b. refl) n st

    input-inside : (v : ℕ) → v < m.scope.inputs → v < variables m
    unfolding variables
    input-inside v h = omega (arith, w.sound.variables)

    input-put : (u : State) (g : Changing) (n : ℕ) (ps : List ℕ) → ps ≡ u.places → n < m.scope.inputs
        → value_of u n ≡ value_of st n → Midway m (value_of st) u g
        → Midway m (value_of st) (with_value u n (a n)) (put q ps n (cell_of (a n)) g)
    input-put u g n ps b h e y =
        rw b
        (subst (λ (x : Value). Midway m (value_of st) (with_value u n x) (put q u.places n (cell_of (a n)) g))
        (value_cell (a n) (fit n h)) (midway-put w (value_of st) u n (cell_of (a n)) g y (input-inside n h) e))

    inputs-midway : (n : ℕ) → n ≤ m.scope.inputs → Midway m (value_of st) (fed n) (input-change n)
    unfolding store_inputs put_inputs
    inputs-midway zero b = midway_start m (value_of st) st l.cells k (λ v. refl) z.scene.long z.scene.planes
    inputs-midway (suc n) b =
        input-put (fed n) (input-change n) n st.places (sym (fed-places n)) b
        (value-store_inputs-above a n st n (omega arith)) (inputs-midway n (omega arith))

    fed-is : put_inputs q l.places a q.inputs (opened l.cells l.due) ≡ input-change m.scope.inputs
    fed-is = λ i. put_inputs q (z.scene.places i) a (w.inputs i) (opened l.cells (z.scene.due i))

    fed-slots : SameSlots (fed m.scope.inputs) st
    unfolding with_value with_planes
    fed-slots =
        record {
          held = kept-store_inputs a (λ t. t.held) (λ t v b. refl) m.scope.inputs st;
          pending = kept-store_inputs a (λ t. t.pending) (λ t v b. refl) m.scope.inputs st;
          unsure = kept-store_inputs a (λ t. t.unsure) (λ t v b. refl) m.scope.inputs st;
        }

    pub feed-shows : Shows m (cycle.feed m a st) (feed q a l)
    unfolding feed cycle.feed
    feed-shows =
        let u = fed m.scope.inputs in
        record {
          scene =
              subst
              (λ (g : Changing). Seen m (react m (value_of st) u) (finish q g (record { places = l.places; ready = l.ready })))
              (sym fed-is)
              (finish-seen w st u l z (fed-places m.scope.inputs) (value_of st) (input-change m.scope.inputs)
              (inputs-midway m.scope.inputs (omega arith)));
          slots =
              slots_same (react m (value_of st) u) u l.pending l.held (slots-react m (value_of st) u)
              (slots_same u st l.pending l.held fed-slots z.slots);
        }
