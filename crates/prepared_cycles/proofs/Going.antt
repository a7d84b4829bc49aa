-- Laws of a phase and of phases by which the code goes: for plans of any contents. Assumes nothing.
use mathlib.Core.Path.{◌≡◌, refl, ap, ◌∙◌}
use mathlib.Core.Bool.{Bool, true, false, not}
use mathlib.Core.List.{List}
use Prim.Native.Nat.{ℕ, suc, ◌+◌, ◌-◌, ◌*◌, ◌/◌, ◌≤◌, ◌<◌}
use native.Mathlib.Omega.{arith}
use lib.Dec.{eqb}
use lib.ListN.{length}
use borrow.Author.Tests.{ne_eqb, eq-eqb, lt-ltb, le-ltb}
use Rattle.values.specs.Values.{pick}
use Rattle.state.specs.declared.Counters.{Counters}
use Rattle.state.specs.declared.State.{State}
use Rattle.state.specs.State.{full, users}
use Rattle.events.specs.declared.Inputs.{Inputs}
use Rattle.events.specs.Calls.{input_of}
use Rattle.events.specs.Rows.{whole_rows}
use Rattle.plan.specs.Plan.{Plan}
use Rattle.plan_changes.specs.declared.Marks.{Marks}
use Rattle.plan_engine.specs.Live.{Live, live}
use Rattle.plan_engine.specs.Acting.{feed}
use Rattle.plan_engine.specs.Running.{Run, run_plain, busy}
use Rattle.plan_state.specs.Packing.{slots_of, unpacked}
use Rattle.plan_fitting.specs.Fitting.{plan_fits, plan_inputs_fit}
use Rattle.prepared.specs.Prepared.{raised, later}
use Rattle.prepared_cycles.specs.declared.Cycled.{Cycled}
use Rattle.prepared_cycles.specs.Cycles.{cycled, row_inputs}
use Rattle.prepared_cycles.specs.Phases.{Moment, moment, room_at, state_at, Phase, phase, refusal_at, phase_at}
use Rattle.prepared_cycles.specs.Phases.{Course, course, phases_at, ended, laid_out, cycles_at}

-- ---- the number of an instant

module _ (q : Plan) (a : Inputs) (o : Moment) where
  pub refused-misfit : plan_inputs_fit q a ≡ false → 25 ≡ refusal_at q a o
  unfolding refusal_at
  refused-misfit f = rw f refl

  module _ (f : plan_inputs_fit q a ≡ true) where
    pub refused-busy : busy o.left ≡ true → 32 ≡ refusal_at q a o
    unfolding refusal_at
    refused-busy b = rw (f, b) refl

    pub refused_full : busy o.left ≡ false → o.counters.time ≡ full → 36 ≡ refusal_at q a o
    unfolding refusal_at
    refused_full b e = rw (f, b, eq-eqb o.counters.time full e) refl

    pub refused_none : busy o.left ≡ false → (o.counters.time ≡ full → ⊥) → 0 ≡ refusal_at q a o
    unfolding refusal_at
    refused_none b d = rw (f, b, ne_eqb o.counters.time full d) refl

  -- An instant that is accepted finds room for one more in time.
  pub time-room : refusal_at q a o ≡ 0 → o.counters.time ≡ full → ⊥
  unfolding refusal_at
  time-room h t = by (plan_inputs_fit q a) (busy o.left) (rw (eq-eqb o.counters.time full t) at h)
    where
      by : (f b : Bool) → ◌≡◌ {A = ℕ} (pick f (pick b 32 36) 25) 0 → ⊥
      by true true e = omega arith
      by true false e = omega arith
      by false b e = omega arith

-- ---- a phase

module _ (q : Plan) (a : Inputs) (o : Moment) (n : ℕ) (e : n ≡ refusal_at q a o) where
  pub phase-off : (n ≡ 0 → ⊥) → phase n false o ≡ phase_at q a o
  unfolding phase_at
  phase-off d = rw (← e, ne_eqb n 0 d) refl

  pub phase-on : n ≡ 0 → (l : Live) → l ≡ feed q (input_of a) o.left → (room : ℕ) → room ≡ room_at o
      → (r : Run) → r ≡ run_plain q 65535 room l → (c d : Counters) → c ≡ later o.counters → d ≡ raised r.accepted o.user c
      → phase r.number (not (eqb r.number 0)) (moment r.left d o.user) ≡ phase_at q a o
  unfolding phase_at
  phase-on z l f room k r h c d x y = rw (← e, z, ← f, ← k, ← h, y, x) refl

-- ---- phases

module _ (q : Plan) (inputs : ℕ → Inputs) (n p : ℕ) (o : Moment) where
  pub phases-whole : phases_at q inputs (n - 0) p o ≡ phases_at q inputs n p o
  phases-whole =
      let e : n - 0 ≡ n = omega arith in
      ap (λ (k : ℕ). phases_at q inputs k p o) e

  pub phases-end : n ≤ p → phases_at q inputs (n - p) p o ≡ course p 0 false o
  unfolding phases_at
  phases-end h =
      let e : n - p ≡ 0 = omega arith in
      rw e refl

  module _ (h : p < n) (f : Phase) (e : f ≡ phase_at q (inputs p) o) where
    left : n - p ≡ suc (n - (p + 1))
    left = omega arith

    pub phases-on : f.number ≡ 0 → phases_at q inputs (n - p) p o ≡ phases_at q inputs (n - (p + 1)) (p + 1) f.after
    unfolding phases_at
    phases-on z = rw (left, ← e, z) refl

    pub phases-off : (f.number ≡ 0 → ⊥) → phases_at q inputs (n - p) p o ≡ course p f.number f.running f.after
    unfolding phases_at
    phases-off d = rw (left, ← e, ne_eqb f.number 0 d) refl

-- ---- the call

pub laid-out : (q : Plan) (st : State) (u : ℕ) (k : Marks) (cs ns : List ℕ) → ns ≡ slots_of st
    → live cs (slots_of st) st.places k ≡ unpacked q st → moment (live cs ns st.places k) st.counters u ≡ laid_out q st u
unfolding laid_out
laid-out q st u k cs ns e h =
    ap (λ (l : Live). moment l st.counters u) (ap (λ (xs : List ℕ). live cs xs st.places k) e ∙ h)

pub ended-course : (o : Moment) (c : Course) (p n : ℕ) (running : Bool) (st : State) → course p n running o ≡ c → st ≡ state_at o
    → cycled p n running st ≡ ended c
unfolding ended
ended-course o c p n running st h e = rw (← h, e) refl

module _ (q : Plan) (st : State) (u : ℕ) (ns xs : List ℕ) where
  pub cycles-unfit : plan_fits q st ≡ false → cycled 0 31 false st ≡ cycles_at q st u ns xs
  unfolding cycles_at
  cycles-unfit f = rw f refl

  module _ (f : plan_fits q st ≡ true) where
    pub cycles-userless : users ≤ u → cycled 0 46 false st ≡ cycles_at q st u ns xs
    unfolding cycles_at
    cycles-userless h = rw (f, le-ltb u users h) refl

    module _ (h : u < users) where
      pub cycles-ragged : whole_rows ns xs ≡ false → cycled 0 25 false st ≡ cycles_at q st u ns xs
      unfolding cycles_at
      cycles-ragged g = rw (f, lt-ltb u users h, g) refl

      pub cycles-run : whole_rows ns xs ≡ true → (r : Cycled)
          → r ≡ ended (phases_at q (row_inputs q.inputs ns xs) (2 * (length ns / 16)) 0 (laid_out q st u)) → r ≡ cycles_at q st u ns xs
      unfolding cycles_at
      cycles-run g r e = rw (f, lt-ltb u users h, g) e
