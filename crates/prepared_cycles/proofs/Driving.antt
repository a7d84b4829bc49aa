-- Laws of driven cycles by which the code goes: for plans of any contents. Assumes nothing.
use mathlib.Core.Path.{◌≡◌, refl, ap}
use mathlib.Core.Bool.{Bool, true, false, not}
use mathlib.Core.List.{List}
use Prim.Native.Nat.{ℕ, suc, ◌+◌, ◌-◌, ◌/◌, ◌≤◌, ◌<◌}
use native.Mathlib.Omega.{arith}
use lib.Dec.{eqb}
use lib.ListN.{length}
use borrow.Author.Tests.{ne_eqb, le-leb, lt-leb, lt-ltb, le-ltb}
use Rattle.values.specs.Values.{pick}
use Rattle.state.specs.declared.Counters.{Counters}
use Rattle.state.specs.declared.State.{State}
use Rattle.state.specs.State.{users}
use Rattle.events.specs.declared.Inputs.{Inputs}
use Rattle.events.specs.Calls.{input_of}
use Rattle.events.specs.Rows.{whole_rows}
use Rattle.plan.specs.Plan.{Plan}
use Rattle.plan_engine.specs.Live.{Live}
use Rattle.plan_engine.specs.Acting.{feed}
use Rattle.plan_engine.specs.Taking.{taken, take_choice}
use Rattle.plan_engine.specs.Running.{run, run_plain, busy}
use Rattle.plan_fitting.specs.Fitting.{plan_fits}
use Rattle.prepared.specs.Prepared.{raised, accepted, later}
use Rattle.prepared_cycles.specs.declared.Driven.{Driven}
use Rattle.prepared_cycles.specs.Cycles.{row_inputs}
use Rattle.prepared_cycles.specs.Phases.{Moment, moment, room_at, state_at, refusal_at, laid_out}
use Rattle.prepared_cycles.specs.Traces.{written, rounds, has_room}
use Rattle.prepared_cycles.specs.Drives.{Going, going, driven, on_plan, plain_most, drawn_most, next_seed, drawn_choice}
use Rattle.prepared_cycles.specs.Drives.{draw, drawn, plainly, to_rest, drive, drives, rows, told, arrived}
use Rattle.prepared_cycles.specs.Drives.{settled_at, drive_at, driven_at}

second : {A : Type 0} (t : Bool) (a b : A) → t ≡ false → pick t a b ≡ b
second t a b e = rw e refl

module _ (q : Plan) (g : Going Moment) where
  -- ---- a draw

  pub draw-is : (seed items k room : ℕ) → seed ≡ next_seed g.seed → items ≡ q.threads + q.wires → k ≡ drawn_choice seed items
      → room ≡ room_at g.after
      → (n : ℕ) (d : Live) → taken n d ≡ take_choice q room k g.after.left → (j : ℕ) → j ≡ accepted n → (x : Counters)
      → x ≡ raised j g.after.user g.after.counters
      → going 0 (eqb n 35) seed (moment d x g.after.user) ≡ draw (on_plan q) g
  unfolding draw
  draw-is seed items k room a b c e n d t j i x f = rw (← a, ← b, ← c, ← e, ← t, f, i) refl

  module _ (n : ℕ) where
    pub drawn-none : n ≤ 0 → drawn (on_plan q) n g ≡ g
    unfolding drawn
    drawn-none l =
        let k : n ≡ 0 = omega arith in
        rw k refl

    pub drawn-rested : 0 < n → g.rested ≡ true → drawn (on_plan q) n g ≡ g
    unfolding drawn
    drawn-rested l e =
        let k : n ≡ suc (n - 1) = omega arith in
        rw (k, e) refl

    pub drawn-more : 0 < n → g.rested ≡ false → (d : Going Moment) → d ≡ draw (on_plan q) g
        → drawn (on_plan q) n g ≡ drawn (on_plan q) (n - 1) d
    unfolding drawn
    drawn-more l e d h =
        more (n - 1) (omega arith)
      where
        more : (m : ℕ) → n ≡ suc m → drawn (on_plan q) n g ≡ drawn (on_plan q) m d
        more m k = rw (k, h) (second g.rested g (drawn (on_plan q) m (draw (on_plan q) g)) e)

  -- ---- to rest

  pub plainly-is : (room : ℕ) → room ≡ room_at g.after → (a n : ℕ) (d : Live)
      → run a n d ≡ run_plain q plain_most room g.after.left → (t : Bool) → t ≡ busy d → (x : Counters)
      → x ≡ raised a g.after.user g.after.counters
      → going 0 (not t) g.seed (moment d x g.after.user) ≡ plainly (on_plan q) g
  unfolding plainly
  plainly-is room e a n d h t f x i = rw (← e, ← h, f, i) refl

  pub rest-drawn : (t : Bool) → t ≡ true → drawn (on_plan q) drawn_most g ≡ to_rest (on_plan q) t g
  unfolding to_rest
  rest-drawn t e = rw e refl

  pub rest_plain : (t : Bool) → t ≡ false → plainly (on_plan q) g ≡ to_rest (on_plan q) t g
  unfolding to_rest
  rest_plain t e = rw e refl

  -- ---- an instant

  module _ (t : Bool) (a : Inputs) (n : ℕ) (e : n ≡ refusal_at q a g.after) where
    pub drive-off : (n ≡ 0 → ⊥) → going n false g.seed g.after ≡ drive (on_plan q) t a g
    unfolding drive
    drive-off d = rw (← e, ne_eqb n 0 d) refl

    pub drive-on : n ≡ 0 → (l : Live) → l ≡ feed q (input_of a) g.after.left → (x : Counters) → x ≡ later g.after.counters
        → to_rest (on_plan q) t (going 0 false g.seed (moment l x g.after.user)) ≡ drive (on_plan q) t a g
    unfolding drive
    drive-on z l f x i = rw (← e, z, ← f, i) refl

-- ---- instants

module _ (q : Plan) (t : Bool) (inputs : ℕ → Inputs) (n p : ℕ) (g : Going Moment) where
  pub drives-whole : drives (on_plan q) t inputs (n - 0) p g ≡ drives (on_plan q) t inputs n p g
  drives-whole =
      let e : n - 0 ≡ n = omega arith in
      ap (λ (k : ℕ). drives (on_plan q) t inputs k p g) e

  pub drives-end : n ≤ p → drives (on_plan q) t inputs (n - p) p g ≡ driven p g
  unfolding drives
  drives-end h =
      let e : n - p ≡ 0 = omega arith in
      rw e refl

  pub rows_whole : (w : List ℕ) → rows (on_plan q) t inputs (n - 0) p g w ≡ rows (on_plan q) t inputs n p g w
  rows_whole w =
      let e : n - 0 ≡ n = omega arith in
      ap (λ (k : ℕ). rows (on_plan q) t inputs k p g w) e

  pub rows_end : (w : List ℕ) → n ≤ p → rows (on_plan q) t inputs (n - p) p g w ≡ w
  unfolding rows
  rows_end w h =
      let e : n - p ≡ 0 = omega arith in
      rw e refl

  module _ (h : p < n) (f : Going Moment) (e : f ≡ drive (on_plan q) t (inputs p) g) where
    left : n - p ≡ suc (n - (p + 1))
    left = omega arith

    pub drives-on : f.rested ≡ true → drives (on_plan q) t inputs (n - p) p g ≡ drives (on_plan q) t inputs (n - (p + 1)) (p + 1) f
    unfolding drives
    drives-on z = rw (left, ← e, z) refl

    pub drives-off : f.rested ≡ false → drives (on_plan q) t inputs (n - p) p g ≡ driven p f
    unfolding drives
    drives-off z = rw (left, ← e, z) refl

    pub rows_on : f.rested ≡ true → (w v : List ℕ) → v ≡ written p (state_at f.after) w
        → rows (on_plan q) t inputs (n - p) p g w ≡ rows (on_plan q) t inputs (n - (p + 1)) (p + 1) f v
    unfolding rows
    rows_on z w v x = rw (left, ← e, z, x) refl

    pub rows-off : f.rested ≡ false → (w : List ℕ) → rows (on_plan q) t inputs (n - p) p g w ≡ w
    unfolding rows
    rows-off z w = rw (left, ← e, z) refl

-- ---- the calls

pub arrived-is : (p : ℕ) (g : Going Moment) (st : State) → st ≡ state_at g.after
    → told p g.number g.rested g.seed st ≡ arrived state_at (driven p g)
unfolding arrived
arrived-is p g st e = rw e refl

module _ (q : Plan) (t : Bool) (seed : ℕ) (st : State) (u : ℕ) where
  pub settled-unfit : plan_fits q st ≡ false → (r : Driven) → r ≡ told 0 31 false seed st → r ≡ settled_at q t seed st u
  unfolding settled_at
  settled-unfit f r e = rw f e

  pub settled-userless : plan_fits q st ≡ true → users ≤ u → (r : Driven) → r ≡ told 0 46 false seed st → r ≡ settled_at q t seed st u
  unfolding settled_at
  settled-userless f h r e = rw (f, le-ltb u users h) e

  pub settled-run : plan_fits q st ≡ true → u < users → (r : Driven)
      → r ≡ arrived state_at (driven 0 (to_rest (on_plan q) t (going 0 false seed (laid_out q st u)))) → r ≡ settled_at q t seed st u
  unfolding settled_at
  settled-run f h r e = rw (f, lt-ltb u users h) e

  module _ (ns xs w : List ℕ) where
    abbrev Answers : Driven → List ℕ → Type 0
    Answers r v = (r ≡ drive_at q t seed st u ns xs w) × (v ≡ driven_at q t seed st u ns xs w)

    pub drive-short : length w / 88 < rounds ns → (r : Driven) → r ≡ told 0 23 false seed st → Answers r w
    unfolding drive_at driven_at
    drive-short l r e =
        let h = lt-leb (rounds ns) (length w / 88) l in
        (rw h e, rw h refl)

    module _ (l : rounds ns ≤ length w / 88) where
      h : has_room (rounds ns) w ≡ true
      h = le-leb (rounds ns) (length w / 88) l

      pub drive-unfit : plan_fits q st ≡ false → (r : Driven) → r ≡ told 0 31 false seed st → Answers r w
      unfolding drive_at driven_at
      drive-unfit f r e = (rw (h, f) e, rw (h, f) refl)

      module _ (f : plan_fits q st ≡ true) where
        pub drive-userless : users ≤ u → (r : Driven) → r ≡ told 0 46 false seed st → Answers r w
        unfolding drive_at driven_at
        drive-userless b r e = (rw (h, f, le-ltb u users b) e, rw (h, f, le-ltb u users b) refl)

        module _ (b : u < users) where
          pub drive-ragged : whole_rows ns xs ≡ false → (r : Driven) → r ≡ told 0 25 false seed st → Answers r w
          unfolding drive_at driven_at
          drive-ragged g r e = (rw (h, f, lt-ltb u users b, g) e, rw (h, f, lt-ltb u users b, g) refl)

          pub drive-run : whole_rows ns xs ≡ true → (r : Driven) (v : List ℕ)
              → r
              ≡ arrived state_at (drives (on_plan q) t (row_inputs q.inputs ns xs) (rounds ns) 0 (going 0 true seed (laid_out q st u)))
              → v ≡ rows (on_plan q) t (row_inputs q.inputs ns xs) (rounds ns) 0 (going 0 true seed (laid_out q st u)) w → Answers r v
          unfolding drive_at driven_at
          drive-run g r v d e = (rw (h, f, lt-ltb u users b, g) d, rw (h, f, lt-ltb u users b, g) e)
