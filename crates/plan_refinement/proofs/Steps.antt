-- The steps on a plan are the steps of the simulation cycle: one instruction, one due wire, the commit, the inputs of an instant.
-- Assumes nothing.
use mathlib.Core.Path.{◌≡◌, refl, sym, ap, ◌∙◌}
use mathlib.Core.Bool.{Bool, true, false}
use mathlib.Core.List.{List}
use Prim.Native.Nat.{ℕ, ◌+◌, ◌-◌, ◌<◌}
use native.Mathlib.Omega.{arith}
use lib.ListN.{length, set, length-set}
use borrow.Author.Tests.{lt-ltb}
use Rattle.values.specs.declared.Value.{Value}
use Rattle.values.specs.Values.{pick, holds}
use Rattle.sheet.specs.Expression.{Expr}
use Rattle.sheet.specs.Module.{Module}
use Rattle.evaluation.specs.Evaluation.{eval}
use Rattle.pseudocode.specs.Translation.{Instr}
use Rattle.state.specs.declared.State.{State}
use Rattle.state.specs.State.{Shaped, with_planes, with_slots, with_places, with_marks, value_of, with_value}
use Rattle.state.specs.State.{with_pending, place_of, with_place, with_due}
use Rattle.state.proofs.Accessors.{shaped-with_value, shaped-with_pending}
use Rattle.soundness.specs.Soundness.{SoundInstr, SoundTarget, sound-set, sound-later, sound-go, sound-ifnot}
use Rattle.events.specs.Cycle.{variables, code_of, current, wire_variable, react}
use Rattle.events.specs.Cycle.{run_instr, run_thread, run_wire}
use Rattle.events.proofs.Cycle.{kept-react, shaped-react}
use Rattle.refinement.proofs.Kept.{Kept, kept-unmarked, sound-at}
use Rattle.refinement.proofs.Ready.{ready-places}
use Rattle.values.specs.Cells as cell
use Rattle.values.specs.Cells.{cell_of}
use Rattle.values.proofs.Cells.{value-small}
use Rattle.plan.specs.declared.Expression.{Expression}
use Rattle.plan.specs.declared.Action.{Action}
use Rattle.plan.specs.declared.Instruction.TheVariants.{Act}
use Rattle.plan.specs.Plan.{Plan}
use Rattle.plan_changes.specs.Scene.{stand, Scene, scene}
use Rattle.plan_changes.specs.Changes.{placed, store}
use Rattle.plan_engine.specs.Live.{Live, alive, scene_of, with_scene, with_cells, evaluate, worth}
use Rattle.plan_engine.specs.Acting.{goes, pending_with, held_with, defer, leg, act, settle}
use Rattle.plan_state.proofs.Planes.{planes-kept, planes-set}
use Rattle.plan_refinement.specs.Refinement.{Seen, Slots, Shows, Stands, PlanOf}
use Rattle.plan_refinement.specs.Refinement.{Fetched, a-set, a-later, a-go, an-ifnot}
use Rattle.plan_refinement.proofs.Moving.{stand_in, after-at, placed-stand}
use Rattle.plan_refinement.proofs.Changing.{planes-values, store-seen}

-- ---- slots: the pending cells

-- States that share them.
pub record SameSlots (s t : State) : Type 0 where
  pub held : s.held ≡ t.held
  pub pending : s.pending ≡ t.pending
  pub unsure : s.unsure ≡ t.unsure

pub slots_same : (s t : State) (ns : List ℕ) (hs : List Bool) → SameSlots s t → Slots t ns hs → Slots s ns hs
slots_same s t ns hs e z =
    record {
      long = z.long;
      planes = rw (e.pending, e.unsure) z.planes;
      held = z.held ∙ sym e.held;
    }

-- A change fires waits and marks wires, and keeps them.
pub slots-react : (m : Module Expr) (f : ℕ → Value) (st : State) → SameSlots (react m f st) st
unfolding with_place with_places with_due with_marks
slots-react m f st =
    record {
      held = kept-react m f (λ u. u.held) (λ u i p. refl) (λ u k. refl) st;
      pending = kept-react m f (λ u. u.pending) (λ u i p. refl) (λ u k. refl) st;
      unsure = kept-react m f (λ u. u.unsure) (λ u i p. refl) (λ u k. refl) st;
    }

slots-with_value : (st : State) (v : ℕ) (a : Value) → SameSlots (with_value st v a) st
unfolding with_value with_planes
slots-with_value st v a = record { held = refl; pending = refl; unsure = refl }

slots-with_due : (st : State) (k : ℕ) (b : Bool) → SameSlots (with_due st k b) st
unfolding with_due with_marks
slots-with_due st k b = record { held = refl; pending = refl; unsure = refl }

slots-with_pending : (st : State) (ns : List ℕ) (hs : List Bool) (r c : ℕ) → r < 32 → Slots st ns hs
    → Slots (with_pending st r (cell.value_of c)) (set ns r (cell_of (cell.value_of c))) (set hs r true)
unfolding with_pending with_slots
slots-with_pending st ns hs r c h z =
    record {
      long = length-set ns r (cell_of (cell.value_of c)) ∙ z.long;
      planes = planes-set z.planes r (cell.value_of c) h (omega (arith, z.long)) (value-small c);
      held = ap (λ bs. set bs r true) z.held;
    }

-- ---- scenes of states that differ in what a scene does not look at

seen-with_pending : (m : Module Expr) (st : State) (r : ℕ) (a : Value) (s : Scene) → Seen m st s → Seen m (with_pending st r a) s
unfolding with_pending with_slots value_of
seen-with_pending m st r a s z =
    record {
      long = z.long;
      planes = z.planes;
      places = z.places;
      due = z.due;
      ready = z.ready ∙ ready-places m st (with_pending st r a) refl;
    }

seen-unmarked : (m : Module Expr) (st : State) (j : ℕ) (cs ps : List ℕ) (ds rs : List Bool) → Seen m st (scene cs ps ds rs)
    → Seen m (with_due st j false) (scene cs ps (set ds j false) rs)
unfolding with_due with_marks value_of
seen-unmarked m st j cs ps ds rs z =
    record {
      long = z.long;
      planes = z.planes;
      places = z.places;
      due = ap (λ bs. set bs j false) z.due;
      ready = z.ready ∙ ready-places m st (with_due st j false) refl;
    }

-- ---- an expression worked out

module _ {m : Module Expr} {q : Plan} {st : State} {e : Expr} {x : Expression} (h : Stands q e x) where
  seen-evaluated : (s : Scene) → Seen m st s → Seen m st (scene (evaluate q x s.cells) s.places s.due s.ready)
  seen-evaluated s z =
      let d = h s.cells (value_of st) z.long (planes-values st z.planes) in
      record {
        long = d.long;
        planes = planes-kept z.planes (evaluate q x s.cells) d.kept;
        places = z.places;
        due = z.due;
        ready = z.ready;
      }

  shows-evaluated : (l : Live) → Shows m st l → Shows m st (with_cells (evaluate q x l.cells) l)
  shows-evaluated l z = record { scene = seen-evaluated (scene_of l) z.scene; slots = z.slots }

  worth-seen : (s : Scene) → Seen m st s → cell.value_of (worth q x s.cells) ≡ eval (value_of st) e
  worth-seen s z = (h s.cells (value_of st) z.long (planes-values st z.planes)).value

module _ {m : Module Expr} {q : Plan} (w : PlanOf m q) where
  -- ---- goes: a thread put at a place of its code

  goes-shows : (i p : ℕ) (st : State) (l : Live) → Shaped st → i < length m.threads → p < length (code_of m i) → Shows m st l
      → Shows m (with_place st i p) (goes q i p l)
  unfolding goes with_place with_places value_of
  goes-shows i p st l k h b z =
      record {
        scene =
            record {
              long = z.scene.long;
              planes = z.scene.planes;
              places = ap (λ s. s.places) stood;
              due = z.scene.due;
              ready = ap (λ s. s.ready) stood;
            };
        slots = record { long = z.slots.long; planes = z.slots.planes; held = z.slots.held };
      }
    where
      stood : placed q i p (stand l.places l.ready) ≡ stand_in m (with_place st i p)
      stood = rw (z.scene.places, z.scene.ready) (placed-stand w st i p k h b)

  -- ---- act: an instruction of thread i at place p

  target-variable : {t : ℕ} {e : Expr} → SoundTarget m.scope t e → t < variables m
  unfolding variables
  target-variable y = omega (arith, w.sound.variables, y.register)

  target-slot : {t : ℕ} {e : Expr} → SoundTarget m.scope t e → t - m.scope.inputs < 32
  target-slot y = omega (arith, w.sound.registers-most, y.not-input, y.register)

  either-inside : {a b n : ℕ} (t : Bool) → a < n → b < n → pick t a b < n
  either-inside true h l = h
  either-inside false h l = l

  stored-shows : (t c : ℕ) (st : State) (l : Live) → Kept m st → t < variables m → Shows m st l
      → Shows m (react m (value_of st) (with_value st t (cell.value_of c))) (with_scene (store q t c (scene_of l)) l)
  stored-shows t c st l k h z =
      let u = with_value st t (cell.value_of c) in
      record {
        scene = store-seen w t c st (scene_of l) k h z.scene;
        slots =
            slots_same (react m (value_of st) u) u l.pending l.held (slots-react m (value_of st) u)
            (slots_same u st l.pending l.held (slots-with_value st t (cell.value_of c)) z.slots);
      }

  defer-shows : (t c : ℕ) (st : State) (l : Live) → Shaped st → t - m.scope.inputs < 32 → Shows m st l
      → Shows m (with_pending st (t - m.scope.inputs) (cell.value_of c)) (defer q t c l)
  unfolding pending_with held_with
  defer-shows t c st l k h z =
      rw (w.inputs, lt-ltb (t - m.scope.inputs) 32 h)
      (record {
        scene = seen-with_pending m st (t - m.scope.inputs) (cell.value_of c) (scene_of l) z.scene;
        slots = slots-with_pending st l.pending l.held (t - m.scope.inputs) c h z.slots;
      })

  module _ (i p : ℕ) (h : i < length m.threads) (st : State) (k : Kept m st) (l : Live) (z : Shows m st l) where
    pub act-fetched : {x : Instr Expr} {a : Action} → Fetched q x (Act a) → SoundInstr m.scope (length (code_of m i)) p x
        → Shows m (run_instr m i p x st) (act q i p a l)
    unfolding act run_instr leg
    act-fetched (a-set {t = t} {e = e} {x = x} s) (sound-set b y) =
        let c = worth q x l.cells in
        let n = with_cells (evaluate q x l.cells) l in
        rw (after-at w i p h b, ← worth-seen s (scene_of l) z.scene)
        (goes-shows i (p + 1) (react m (value_of st) (with_value st t (cell.value_of c))) (with_scene (store q t c (scene_of n)) n)
        (shaped-react m (value_of st) (with_value st t (cell.value_of c)) (shaped-with_value st t (cell.value_of c) k.shaped)) h b
        (stored-shows t c st n k (target-variable y) (shows-evaluated s l z)))
    act-fetched (a-later {t = t} {e = e} {x = x} s) (sound-later b y) =
        let c = worth q x l.cells in
        let n = with_cells (evaluate q x l.cells) l in
        rw (after-at w i p h b, ← worth-seen s (scene_of l) z.scene)
        (goes-shows i (p + 1) (with_pending st (t - m.scope.inputs) (cell.value_of c)) (defer q t c n)
        (shaped-with_pending st (t - m.scope.inputs) (cell.value_of c) k.shaped) h b
        (defer-shows t c st n k.shaped (target-slot y) (shows-evaluated s l z)))
    act-fetched (a-go {g = g}) (sound-go b) = goes-shows i g st l k.shaped h b z
    act-fetched (an-ifnot {g = g} {e = e} {x = x} s) (sound-ifnot u b d v) =
        let n = with_cells (evaluate q x l.cells) l in
        rw (after-at w i p h b, worth-seen s (scene_of l) z.scene)
        (goes-shows i (pick (holds (eval (value_of st) e)) (p + 1) g) st n k.shaped h
        (either-inside (holds (eval (value_of st) e)) b d) (shows-evaluated s l z))

  -- The instruction at which a thread stands.
  pub act-shows : (i : ℕ) (st : State) (l : Live) → i < length m.threads → Kept m st → Shows m st l → (a : Action)
      → q.instruction i (place_of st i) ≡ Act a → Shows m (run_thread m i st) (act q i (place_of st i) a l)
  unfolding run_thread current
  act-shows i st l h k z a e =
      let b = k.places i h in
      act-fetched i (place_of st i) h st k l z (rw e at (w.instruction i (place_of st i) h b))
      (sound-at w.sound i h (place_of st i) b)

  -- ---- settle: a due wire

  wire-variable : (j : ℕ) → q.inputs + q.registers + j ≡ wire_variable m j
  unfolding wire_variable
  wire-variable j = rw (w.inputs, w.registers)

  wire-inside : (j : ℕ) → j < length m.wires → wire_variable m j < variables m
  unfolding wire_variable variables
  wire-inside j h = omega (arith, w.sound.variables)

  pub settle-shows : (j : ℕ) (st : State) (l : Live) → j < length m.wires → Kept m st → Shows m st l
      → Shows m (run_wire m j st) (with_scene (settle q j (scene_of l)) l)
  unfolding run_wire settle value_of with_due with_marks
  settle-shows j st l h k z =
      let c = worth q (q.wire j) l.cells in
      let u = with_due st j false in
      let n = alive (evaluate q (q.wire j) l.cells) l.pending l.places (set l.due j false) l.ready l.held in
      rw (wire-variable j, ← worth-seen (w.wire j h) (scene_of l) z.scene)
      (stored-shows (wire_variable m j) c u n (kept-unmarked k j h) (wire-inside j h)
      (record {
        scene = seen-unmarked m st j _ _ _ _ (seen-evaluated (w.wire j h) (scene_of l) z.scene);
        slots = slots_same u st l.pending l.held (slots-with_due st j false) z.slots;
      }))
