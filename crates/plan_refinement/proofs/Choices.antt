-- A choice on a plan: what the marks say of what is enabled and pending, the plain run's choice, and each choice with its number and
-- what it leaves. Assumes nothing.
use mathlib.Core.Path.{◌≡◌, refl, sym, ap, ◌∙◌, subst}
use mathlib.Core.Bool.{Bool, true, false, not, ◌||◌, not-not}
use mathlib.Core.List.{List}
use Prim.Native.Nat.{ℕ, ◌+◌, ◌-◌, ◌≤◌, ◌<◌}
use native.Mathlib.Omega.{arith}
use lib.ListN.{length, get_or, set}
use lib.Dec.{ltb, eqb}
use borrow.Author.Tests.{lt-ltb, le-ltb, ltb-true, ltb-false, eqb-true, eqb-false, ne_eqb}
use Rattle.values.specs.declared.Value.{Value}
use Rattle.values.specs.Values.{pick}
use Rattle.values.specs.Cells.{small}
use Rattle.sheet.specs.Expression.{Expr}
use Rattle.sheet.specs.Module.{Module}
use Rattle.pseudocode.specs.Translation.{Instr}
use Rattle.pseudocode.specs.declared.EdgeTerms.{EdgeTerms}
use Rattle.masks.specs.Masks.{first, any_mark}
use Rattle.masks.proofs.Masks.{any_none, any_some, first-lowest}
use Rattle.state.specs.declared.Counters.{Counters}
use Rattle.state.specs.declared.State.{State}
use Rattle.state.specs.State.{counters_of, users, count_of, allowance_of, with_counters, value_of, pending_of, place_of, is_due}
use Rattle.events.specs.Cycle.{current, any_below, is_wait, thread_enabled, items, enabled, any_enabled, is_some, any_pending}
use Rattle.events.specs.Cycle.{quiet, run_thread, run_wire}
use Rattle.events.specs.Cycle as cycle
use Rattle.events.specs.Calls.{answer, spend, counted_by, counted, timed, by_user, refusal, performed, choose_in}
use Rattle.events.specs.Calls as calls
use Rattle.events.proofs.Cycle.{absurd-bool, any-below, below_none}
use Rattle.events.proofs.Choices.{enabled-wire}
use Rattle.events.proofs.Runs.{plain-lowest, plain-commit}
use Rattle.refinement.specs.Refinement.{ready_in}
use Rattle.refinement.proofs.Kept.{Kept, flag-none, pending-flag, kept-counted, kept-timed}
use Rattle.refinement.proofs.Ready.{ready-thread, ready-past, ready-places}
use Rattle.plan.specs.declared.Action.{Action}
use Rattle.plan.specs.declared.Instruction.{Instruction}
use Rattle.plan.specs.declared.Instruction.TheVariants.{Wait, Act}
use Rattle.plan.specs.Plan.{Plan}
use Rattle.plan_engine.specs.Live.{Live, scene_of, with_scene}
use Rattle.plan_engine.specs.Acting.{act, settle, commit, feed}
use Rattle.plan_engine.specs.Taking.{Taken, taken, unless, take_instruction, take_thread, take_wire, take_commit, take_choice}
use Rattle.plan_engine.specs.Running.{busy, plain_choice}
use Rattle.plan_refinement.specs.Refinement.{Shows, Takes, Room, PlanOf}
use Rattle.plan_refinement.specs.Refinement.{Fetched, a-wait, a-set, a-later, a-go, an-ifnot}
use Rattle.plan_refinement.proofs.Steps.{act-shows, settle-shows}
use Rattle.plan_refinement.proofs.Commits.{commit-shows, feed-shows}

-- ---- numbers and tests

-- Where no number from n on passes, one that passes lies below n.
passes-below : (f : ℕ → Bool) (n : ℕ) → ((k : ℕ) → n ≤ k → f k ≡ false) → (k : ℕ) → f k ≡ true → k < n
passes-below f n h k e = by (ltb k n) refl
  where
    by : (t : Bool) → ltb k n ≡ t → k < n
    by true q = ltb-true k n q
    by false q = absurd-bool e (h k (ltb-false k n q))

-- There is one lowest number that passes.
lowest-one :
    (f : ℕ → Bool) (a b : ℕ) → f a ≡ true → ((j : ℕ) → j < a → f j ≡ false) → f b ≡ true →
    ((j : ℕ) → j < b → f j ≡ false) → a ≡ b
lowest-one f a b p low q down = by (ltb a b) refl (ltb b a) refl
  where
    by : (s : Bool) → ltb a b ≡ s → (t : Bool) → ltb b a ≡ t → a ≡ b
    by true e t d = absurd-bool p (down a (ltb-true a b e))
    by false e true d = absurd-bool q (low b (ltb-true b a d))
    by false e false d = let l = ltb-false a b e in let r = ltb-false b a d in omega arith

-- ---- marks: what is enabled, pending, quiet

module _ {m : Module Expr} {q : Plan} (w : PlanOf m q) (st : State) (k : Kept m st) where
  ready-inside : (i : ℕ) → get_or (ready_in m st) i false ≡ true → i < length m.threads
  ready-inside i e = passes-below (λ i. get_or (ready_in m st) i false) (length m.threads) (ready-past m st) i e

  due-inside : (j : ℕ) → get_or st.due j false ≡ true → j < length m.wires
  unfolding is_due
  due-inside j e = passes-below (λ j. get_or st.due j false) (length m.wires) k.marks j e

  held-inside : (r : ℕ) → get_or st.held r false ≡ true → r < m.scope.registers
  held-inside r e =
      passes-below (λ r. get_or st.held r false) m.scope.registers (λ r l. flag-none st r (k.pending r l)) r e

  -- The marks of the enabled items: those of the threads, and then those of the wires.
  enabled-mark : (i : ℕ) → i < length m.threads → enabled m st i ≡ get_or (ready_in m st) i false
  unfolding enabled
  enabled-mark i h = rw (lt-ltb i (length m.threads) h) (sym (ready-thread m st w.sound.threads-most i h))

  enabled-due : (c : ℕ) → length m.threads ≤ c → enabled m st c ≡ get_or st.due (c - length m.threads) false
  unfolding enabled is_due
  enabled-due c h = rw (le-ltb c (length m.threads) h)

  none-enabled : any_mark (ready_in m st) ≡ false → (c : ℕ) →
      (length m.threads ≤ c → get_or st.due (c - length m.threads) false ≡ false) → enabled m st c ≡ false
  none-enabled e c d = by (ltb c (length m.threads)) refl
    where
      by : (t : Bool) → ltb c (length m.threads) ≡ t → enabled m st c ≡ false
      by true l = enabled-mark c (ltb-true c (length m.threads) l) ∙ any_none (ready_in m st) e c
      by false l =
          let b = ltb-false c (length m.threads) l in
          enabled-due c b ∙ d b

  thread-item : (i : ℕ) → i < length m.threads → i < items m
  unfolding items
  thread-item i h = omega arith

  -- The first due wire as an item.
  due-item : ℕ
  due-item = length m.threads + first st.due

  due-enabled : any_mark st.due ≡ true → (enabled m st due-item ≡ true) × (due-item < items m)
  unfolding due-item items is_due
  due-enabled e =
      let up = any_some st.due e in
      (enabled-wire m st (first st.due) ∙ up, omega (arith, due-inside (first st.due) up))

  ready-enabled :
      any_mark (ready_in m st) ≡ true →
      (enabled m st (first (ready_in m st)) ≡ true) × (first (ready_in m st) < length m.threads)
  ready-enabled e =
      let up = any_some (ready_in m st) e in
      let l = ready-inside (first (ready_in m st)) up in
      (enabled-mark (first (ready_in m st)) l ∙ up, l)

  pub any-enabled : (any_mark (ready_in m st) || any_mark st.due) ≡ any_enabled m st
  unfolding any_enabled
  any-enabled = by (any_mark (ready_in m st)) refl (any_mark st.due) refl
    where
      by : (a : Bool) → any_mark (ready_in m st) ≡ a → (b : Bool) → any_mark st.due ≡ b →
          (a || b) ≡ any_below (items m) (enabled m st)
      by true e b d =
          let r = ready-enabled e in
          let i = first (ready_in m st) in
          sym (any-below (enabled m st) (items m) i (thread-item i r.1) r.0)
      by false e true d =
          let r = due-enabled d in
          sym (any-below (enabled m st) (items m) due-item r.1 r.0)
      by false e false d =
          sym
          (below_none (enabled m st) (items m)
          (λ c l. none-enabled e c (λ b. any_none st.due d (c - length m.threads))))

  pub any-pending : any_mark st.held ≡ any_pending m st
  unfolding any_pending
  any-pending = by (any_mark st.held) refl
    where
      by : (t : Bool) → any_mark st.held ≡ t → t ≡ any_below m.scope.registers (λ r. is_some (pending_of st r))
      by true e =
          let i = first st.held in
          let up = any_some st.held e in
          sym
          (any-below (λ r. is_some (pending_of st r)) m.scope.registers i (held-inside i up) (pending-flag st i ∙ up))
      by false e =
          sym
          (below_none (λ r. is_some (pending_of st r)) m.scope.registers
          (λ r l. pending-flag st r ∙ any_none st.held e r))

  -- ---- the plain run's choice

  below-due :
      (j : ℕ) → j < due-item → length m.threads ≤ j → get_or st.due (j - length m.threads) false ≡ false
  unfolding due-item
  below-due j l b = first-lowest st.due (j - length m.threads) (omega arith)

  -- The lowest enabled item is the choice.
  plain-item :
      (c : ℕ) → enabled m st c ≡ true → c < items m → ((j : ℕ) → j < c → enabled m st j ≡ false) →
      c ≡ calls.plain_choice m st
  unfolding any_enabled
  plain-item c up l low =
      let r = plain-lowest m st (any-below (enabled m st) (items m) c l up) in
      lowest-one (enabled m st) c (calls.plain_choice m st) up low r.1 r.2

  plain-number : ℕ → ℕ
  plain-number n = pick (any_mark (ready_in m st)) (first (ready_in m st)) (pick (any_mark st.due) (n + first st.due) 255)

  plain-marks : plain-number (length m.threads) ≡ calls.plain_choice m st
  unfolding plain-number due-item
  plain-marks = by (any_mark (ready_in m st)) refl (any_mark st.due) refl
    where
      by : (a : Bool) → any_mark (ready_in m st) ≡ a → (b : Bool) → any_mark st.due ≡ b →
          pick a (first (ready_in m st)) (pick b (length m.threads + first st.due) 255) ≡ calls.plain_choice m st
      by true e b d =
          let r = ready-enabled e in
          let i = first (ready_in m st) in
          plain-item i r.0 (thread-item i r.1)
          (λ j l. enabled-mark j (omega (arith, r.1)) ∙ first-lowest (ready_in m st) j l)
      by false e true d =
          let r = due-enabled d in
          plain-item due-item r.0 r.1 (λ j l. none-enabled e j (below-due j l))
      by false e false d = sym (plain-commit m st (sym any-enabled ∙ rw (e, d)))

  module _ (l : Live) (z : Shows m st l) where
    pub any-ready : (any_mark l.ready || any_mark l.due) ≡ any_enabled m st
    any-ready = (λ i. any_mark (z.scene.ready i) || any_mark (z.scene.due i)) ∙ any-enabled

    pub any_held : any_mark l.held ≡ any_pending m st
    any_held = ap any_mark z.slots.held ∙ any-pending

    pub busy-shows : busy l ≡ not (quiet m st)
    unfolding busy quiet
    busy-shows =
        (λ i. any-ready i || any_held i) ∙ sym (not-not (any_enabled m st || any_pending m st))

    pub plain-shows : plain_choice q l ≡ calls.plain_choice m st
    unfolding plain_choice plain-number
    plain-shows =
        (λ i. pick (any_mark (z.scene.ready i)) (first (z.scene.ready i))
        (pick (any_mark (z.scene.due i)) (w.threads i + first (z.scene.due i)) 255))
        ∙ plain-marks

-- ---- a thread at a wait

waits-fetched : {q : Plan} {x : Instr Expr} {t : EdgeTerms} → Fetched q x (Wait t) → is_wait x ≡ true
unfolding is_wait
waits-fetched (a-wait h) = refl

acts-fetched : {q : Plan} {x : Instr Expr} {a : Action} → Fetched q x (Act a) → is_wait x ≡ false
unfolding is_wait
acts-fetched (a-set h) = refl
acts-fetched (a-later h) = refl
acts-fetched a-go = refl
acts-fetched (an-ifnot h) = refl

-- ---- a state does not show its counters

pub shows-with_counters : (m : Module Expr) (st : State) (c : Counters) (l : Live) → Shows m st l → Shows m (with_counters st c) l
unfolding with_counters value_of
shows-with_counters m st c l z =
    record {
      scene =
          record {
            long = z.scene.long;
            planes = z.scene.planes;
            places = z.scene.places;
            due = z.scene.due;
            ready = z.scene.ready ∙ ready-places m st (with_counters st c) refl;
          };
      slots = record { long = z.slots.long; planes = z.slots.planes; held = z.slots.held };
    }

-- ---- a refused choice, and one that finds room

refused : {m : Module Expr} (st new : State) (l : Live) (n : ℕ) → (n ≡ 0 → ⊥) → Shows m st l
    → Takes m (answer n st new) (taken n l)
unfolding answer
refused st new l n h z = rw (ne_eqb n 0 h) (record { number = refl; left = z })

unless-shows : {m : Module Expr} (st new : State) (u room : ℕ) (l d : Live) → Room u room st → Shows m st l → Shows m new d
    → Takes m (answer (spend st u) st new) (unless room l d)
unfolding answer spend unless
unless-shows {m} st new u room l d e z y = by (eqb room 0) refl (ltb (count_of st u) (allowance_of st u)) refl
  where
    by : (t : Bool) → eqb room 0 ≡ t → (s : Bool) → ltb (count_of st u) (allowance_of st u) ≡ s
        → Takes m
        (pick (eqb (pick s 0 47) 0) (record { number = 0; state = new }) (record { number = pick s 0 47; state = st }))
        (pick t (taken 47 l) (taken 0 d))
    by true p true r =
        let a = eqb-true room 0 p in
        let b = ltb-true (count_of st u) (allowance_of st u) r in
        absurd (omega arith)
    by true p false r = record { number = refl; left = z }
    by false p true r = record { number = refl; left = y }
    by false p false r =
        let a = eqb-false room 0 p in
        let b = ltb-false (count_of st u) (allowance_of st u) r in
        absurd (a (omega arith))

-- ---- take: a choice

module _ {m : Module Expr} {q : Plan} (w : PlanOf m q) (st : State) (k : Kept m st) (u : ℕ) (user : u < users) (room : ℕ)
    (some : Room u room st) (l : Live) (z : Shows m st l) where
  -- A choice is made on the state with one more in its user's count.
  shows-counted : Shows m (counted u st) l
  unfolding counted counted_by
  shows-counted =
      shows-with_counters m st
      (counters_of st.counters.time (set st.counters.counts u (count_of st u + 1)) st.counters.allowances) l z

  thread-at : (i : ℕ) → i < length m.threads → (y : Instruction) → q.instruction i (place_of st i) ≡ y
      → Takes m (answer (pick (not (is_wait (current m st i))) (spend st u) 33) st (run_thread m i (counted u st)))
      (take_instruction q room i (place_of st i) y l)
  unfolding take_instruction current place_of counted counted_by with_counters
  thread-at i h (Wait t) e =
      rw (waits-fetched (rw e at (w.instruction i (place_of st i) h (k.places i h))))
      (refused st (run_thread m i (counted u st)) l 33 (λ n. omega arith) z)
  thread-at i h (Act a) e =
      rw (acts-fetched (rw e at (w.instruction i (place_of st i) h (k.places i h))))
      (unless-shows st (run_thread m i (counted u st)) u room l (act q i (place_of st i) a l) some z
      (act-shows w i (counted u st) l h (kept-counted k u) shows-counted a e))

  thread-takes : (i : ℕ) → i < length m.threads
      → Takes m (answer (pick (thread_enabled m st i) (spend st u) 33) st (run_thread m i (counted u st)))
      (take_thread q room i l)
  unfolding take_thread thread_enabled place_of
  thread-takes i h =
      rw (lt-ltb i 8 (omega (arith, w.sound.threads-most)))
      (subst
      (λ (p : ℕ). Takes m (answer (pick (not (is_wait (current m st i))) (spend st u) 33) st (run_thread m i (counted u st)))
      (take_instruction q room i p (q.instruction i p) l))
      (ap (λ (ps : List ℕ). get_or ps i 0) (sym z.scene.places))
      (thread-at i h (q.instruction i (place_of st i)) refl))

  wire-takes : (j : ℕ) → j < length m.wires
      → Takes m (answer (pick (is_due st j) (spend st u) 33) st (run_wire m j (counted u st))) (take_wire q room j l)
  unfolding take_wire is_due
  wire-takes j h =
      subst
      (λ (t : Bool). Takes m (answer (pick (is_due st j) (spend st u) 33) st (run_wire m j (counted u st)))
      (pick t (unless room l (with_scene (settle q j (scene_of l)) l)) (taken 33 l)))
      (ap (λ (ds : List Bool). get_or ds j false) (sym z.scene.due))
      (by (is_due st j))
    where
      by : (t : Bool) → Takes m (answer (pick t (spend st u) 33) st (run_wire m j (counted u st)))
          (pick t (unless room l (with_scene (settle q j (scene_of l)) l)) (taken 33 l))
      by true =
          unless-shows st (run_wire m j (counted u st)) u room l (with_scene (settle q j (scene_of l)) l) some z
          (settle-shows w j (counted u st) l h (kept-counted k u) shows-counted)
      by false = refused st (run_wire m j (counted u st)) l 33 (λ n. omega arith) z

  abbrev commit-number : Bool → Bool → ℕ
  commit-number a b = pick a 34 (pick b (spend st u) 35)

  abbrev commit-choice : Bool → Bool → Taken
  commit-choice a b = pick a (taken 34 l) (pick b (unless room l (commit q l)) (taken 35 l))

  commit-takes : Takes m (answer (commit-number (any_enabled m st) (any_pending m st)) st (cycle.commit m (counted u st)))
      (take_commit q room l)
  unfolding take_commit
  commit-takes =
      subst (Takes m (answer (commit-number (any_enabled m st) (any_pending m st)) st (cycle.commit m (counted u st))))
      (λ i. commit-choice (sym (any-ready w st k l z) i) (sym (any_held w st k l z) i))
      (by (any_enabled m st) (any_pending m st))
    where
      by : (a b : Bool) → Takes m (answer (commit-number a b) st (cycle.commit m (counted u st))) (commit-choice a b)
      by true b = refused st (cycle.commit m (counted u st)) l 34 (λ n. omega arith) z
      by false true =
          unless-shows st (cycle.commit m (counted u st)) u room l (commit q l) some z
          (commit-shows w (counted u st) (kept-counted k u) l shows-counted)
      by false false = refused st (cycle.commit m (counted u st)) l 35 (λ n. omega arith) z

  -- A choice has the number that it has in the simulation cycle, and leaves the state that it leaves there.
  pub take-shows : (c : ℕ) → Takes m (choose_in m st u c) (take_choice q room c l)
  unfolding take_choice choose_in refusal by_user performed items enabled
  take-shows c =
      subst (Takes m (choose_in m st u c)) (λ i. tests (sym w.threads i) (sym w.wires i))
      (rw (lt-ltb u users user) (by (ltb c (length m.threads)) refl (ltb c (length m.threads + length m.wires)) refl (eqb c 255)))
    where
      tests : ℕ → ℕ → Taken
      tests threads wires =
          pick (ltb c threads) (take_thread q room c l)
          (pick (ltb c (threads + wires)) (take_wire q room (c - threads) l)
          (pick (eqb c 255) (take_commit q room l)
          (taken 22 l)))

      by : (a : Bool) → ltb c (length m.threads) ≡ a →
          (b : Bool) → ltb c (length m.threads + length m.wires) ≡ b → (d : Bool) →
          Takes m
          (answer
          (pick b (pick (pick a (thread_enabled m st c) (is_due st (c - length m.threads))) (spend st u) 33)
          (pick d (pick (any_enabled m st) 34 (pick (any_pending m st) (spend st u) 35))
          22))
          st
          (pick a (run_thread m c (counted u st))
          (pick b (run_wire m (c - length m.threads) (counted u st))
          (cycle.commit m (counted u st)))))
          (pick a (take_thread q room c l)
          (pick b (take_wire q room (c - length m.threads) l)
          (pick d (take_commit q room l)
          (taken 22 l))))
      by true e true f d = thread-takes c (ltb-true c (length m.threads) e)
      by true e false f d =
          let x = ltb-true c (length m.threads) e in
          let g = ltb-false c (length m.threads + length m.wires) f in
          absurd (omega arith)
      by false e true f d =
          let x = ltb-false c (length m.threads) e in
          let g = ltb-true c (length m.threads + length m.wires) f in
          wire-takes (c - length m.threads) (omega arith)
      by false e false f true = commit-takes
      by false e false f false = refused st (cycle.commit m (counted u st)) l 22 (λ n. omega arith) z

-- ---- the inputs of an instant

-- An instant is made on the state with one more in time.
pub feed-timed-shows : {m : Module Expr} {q : Plan} (w : PlanOf m q) (st : State) → Kept m st → (l : Live) → Shows m st l
    → (a : ℕ → Value) → ((n : ℕ) → n < m.scope.inputs → small (a n) ≡ true) → Shows m (cycle.feed m a (timed st)) (feed q a l)
unfolding timed
feed-timed-shows {m} w st k l z a fit =
    feed-shows w (timed st) (kept-timed k) l
    (shows-with_counters m st (counters_of (st.counters.time + 1) st.counters.counts st.counters.allowances) l z) a fit
