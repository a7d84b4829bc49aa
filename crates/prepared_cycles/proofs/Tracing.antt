-- Laws of a trace by which the code goes: for plans of any contents. Assumes nothing.
use mathlib.Core.Path.{◌≡◌, refl, ap, ◌∙◌}
use mathlib.Core.Bool.{true, false}
use mathlib.Core.List.{List}
use Prim.Native.Nat.{ℕ, suc, ◌+◌, ◌-◌, ◌*◌, ◌/◌, ◌≤◌, ◌<◌}
use native.Mathlib.Omega.{arith}
use lib.ListN.{length}
use lib.Seq.{length-sets}
use borrow.Author.Tests.{ne_eqb, le-leb, lt-leb, lt-ltb, le-ltb}
use Rattle.state.specs.declared.State.{State}
use Rattle.state.specs.State.{users}
use Rattle.events.specs.declared.Inputs.{Inputs}
use Rattle.events.specs.Rows.{whole_rows}
use Rattle.plan.specs.Plan.{Plan}
use Rattle.plan_fitting.specs.Fitting.{plan_fits}
use Rattle.prepared_cycles.specs.declared.Cycled.{Cycled}
use Rattle.prepared_cycles.specs.Cycles.{cycled, row_inputs}
use Rattle.prepared_cycles.specs.Phases.{Moment, state_at, Phase, phase_at, phases_at, ended, laid_out, cycles_at}
use Rattle.prepared_cycles.specs.Traces.{row_of, written, has_room, rounds, trace_from_at, trace_at, traced_at}

-- ---- phases

module _ (q : Plan) (inputs : ℕ → Inputs) (n p : ℕ) (o : Moment) (w : List ℕ) where
  pub trace-whole : trace_from_at q inputs (n - 0) p o w ≡ trace_from_at q inputs n p o w
  trace-whole =
      let e : n - 0 ≡ n = omega arith in
      ap (λ (k : ℕ). trace_from_at q inputs k p o w) e

  pub trace-end : n ≤ p → trace_from_at q inputs (n - p) p o w ≡ w
  unfolding trace_from_at
  trace-end h =
      let e : n - p ≡ 0 = omega arith in
      rw e refl

  module _ (h : p < n) (f : Phase) (e : f ≡ phase_at q (inputs p) o) where
    left : n - p ≡ suc (n - (p + 1))
    left = omega arith

    pub trace-on : f.number ≡ 0 → (v : List ℕ) → v ≡ written p (state_at f.after) w
        → trace_from_at q inputs (n - p) p o w ≡ trace_from_at q inputs (n - (p + 1)) (p + 1) f.after v
    unfolding trace_from_at
    trace-on z v x = rw (left, ← e, z, x) refl

    pub trace-off : (f.number ≡ 0 → ⊥) → trace_from_at q inputs (n - p) p o w ≡ w
    unfolding trace_from_at
    trace-off d = rw (left, ← e, ne_eqb f.number 0 d) refl

-- ---- the call

module _ (q : Plan) (st : State) (u : ℕ) (ns xs w : List ℕ) where
  abbrev Answers : Cycled → List ℕ → Type 0
  Answers r v = (r ≡ trace_at q st u ns xs w) × (v ≡ traced_at q st u ns xs w)

  pub trace-short : length w / 88 < rounds ns → (r : Cycled) → r ≡ cycled 0 23 false st → Answers r w
  unfolding trace_at traced_at
  trace-short l r e =
      let h = lt-leb (rounds ns) (length w / 88) l in
      (rw h e, rw h refl)

  module _ (l : rounds ns ≤ length w / 88) where
    h : has_room (rounds ns) w ≡ true
    h = le-leb (rounds ns) (length w / 88) l

    pub trace-unfit : plan_fits q st ≡ false → (r : Cycled) → r ≡ cycled 0 31 false st → Answers r w
    unfolding trace_at traced_at cycles_at
    trace-unfit f r e = (rw (h, f) e, rw (h, f) refl)

    module _ (f : plan_fits q st ≡ true) where
      pub trace-userless : users ≤ u → (r : Cycled) → r ≡ cycled 0 46 false st → Answers r w
      unfolding trace_at traced_at cycles_at
      trace-userless b r e = (rw (h, f, le-ltb u users b) e, rw (h, f, le-ltb u users b) refl)

      module _ (b : u < users) where
        pub trace-ragged : whole_rows ns xs ≡ false → (r : Cycled) → r ≡ cycled 0 25 false st → Answers r w
        unfolding trace_at traced_at cycles_at
        trace-ragged g r e = (rw (h, f, lt-ltb u users b, g) e, rw (h, f, lt-ltb u users b, g) refl)

        pub trace-run : whole_rows ns xs ≡ true → (r : Cycled) (v : List ℕ)
            → r ≡ ended (phases_at q (row_inputs q.inputs ns xs) (rounds ns) 0 (laid_out q st u))
            → v ≡ trace_from_at q (row_inputs q.inputs ns xs) (rounds ns) 0 (laid_out q st u) w → Answers r v
        unfolding trace_at traced_at cycles_at
        trace-run g r v d e = (rw (h, f, lt-ltb u users b, g) d, rw (h, f, lt-ltb u users b, g) e)

-- ---- what a loop over the instants keeps: their number, and the length of what is lent

pub record Kept (n : ℕ) (value unknown w v : List ℕ) : Type 0 where
  pub few : n < 18446744073709551615
  pub count : n ≡ rounds value
  pub marked : length unknown ≡ length value
  pub room : n ≤ length w / 88
  pub long : length v ≡ length w

module _ {n : ℕ} {value unknown w v : List ℕ} (k : Kept n value unknown w v) where
  pub kept-written : (p : ℕ) (st : State) (u : List ℕ) → u ≡ written p st v → Kept n value unknown w u
  unfolding written
  kept-written p st u e =
      record {
        few = k.few;
        count = k.count;
        marked = k.marked;
        room = k.room;
        long = ap length e ∙ length-sets v (88 * p) (row_of st) ∙ k.long;
      }

  pub row_room : (p : ℕ) → p < n → 88 * p + 88 ≤ length v
  row_room p h = omega (arith, k.room, k.long)
