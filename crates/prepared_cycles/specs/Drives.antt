-- Driven cycles: each instant is run to rest, by the plain run or by choices that are drawn, and the first one that is refused or doesn't
-- come to rest ends the call. Defined by three calls on whatever they work on: `on_sheet` has the single calls on states, `on_plan` the same
-- on a state as it lies in cells. Row p of what is lent has the state after instant number p, where that came to rest.
use Rattle.std.specs.Prelude.{ℕ, zero, suc, ◌+◌, ◌*◌, ◌/◌, ◌%◌, Bool, true, false, not, List, ltb, eqb, length}
use Rattle.values.specs.Values.{pick}
use Rattle.sheet.specs.Expression.{Expr}
use Rattle.sheet.specs.Module.{Module, read}
use Rattle.state.specs.declared.State.{State}
use Rattle.state.specs.State.{users}
use Rattle.events.specs.declared.Inputs.{Inputs}
use Rattle.events.specs.declared.Verdict.{Verdict}
use Rattle.events.specs.declared.Verdict.TheVariants.{Quiet, Spent, Stopped, Refused}
use Rattle.events.specs.Calls as calls
use Rattle.events.specs.Rows.{whole_rows}
use Rattle.plan.specs.Plan.{Plan}
use Rattle.plan_engine.specs.Acting.{feed}
use Rattle.plan_engine.specs.Taking.{take_choice}
use Rattle.plan_engine.specs.Running.{run_plain, busy}
use Rattle.plan_fitting.specs.Fitting.{plan_fits}
use Rattle.prepared.specs.Prepared.{raised, accepted, later}
use Rattle.prepared_cycles.specs.declared.Went.{Went}
use Rattle.prepared_cycles.specs.declared.Driven.{Driven}
use Rattle.prepared_cycles.specs.Cycles.{row_inputs}
use Rattle.prepared_cycles.specs.Phases.{Moment, moment, moment_of, room_at, state_at, laid_out, refusal_at}
use Rattle.prepared_cycles.specs.Traces.{written, rounds, has_room}

-- ---- the calls

pub record Answer (A : Type 0) : Type 0 where
  pub number : ℕ
  pub after : A

abbrev pub answer : {A : Type 0} → ℕ → A → Answer A
answer n x = record { number = n; after = x }

-- What a plain run leaves, and whether it came to rest.
pub record Resting (A : Type 0) : Type 0 where
  pub rested : Bool
  pub after : A

abbrev pub resting : {A : Type 0} → Bool → A → Resting A
resting t x = record { rested = t; after = x }

pub record Calls (A : Type 0) : Type 0 where
  -- how many items can be chosen beside the commit
  pub items : ℕ
  pub instant : A → Inputs → Answer A
  pub choose : A → ℕ → Answer A
  pub plain : A → Resting A
  pub state : A → State

-- ---- how many choices a run to rest may take: a plain run, and one whose choices are drawn

abbrev pub plain_most : ℕ
plain_most = 65535

abbrev pub drawn_most : ℕ
drawn_most = 4000000

-- ---- a generator of seeds below 2^32, and the choice that it draws

unfoldable pub next_seed : ℕ → ℕ
next_seed seed = (seed % 4294967296 * 1664525 + 1013904223) % 4294967296

-- One of the items, of which there are at most 40, or the commit.
unfoldable pub drawn_choice : ℕ → ℕ → ℕ
drawn_choice seed items =
    let k = seed / 65536 % (items % 64 + 1) in
    pick (ltb k (items % 64)) k 255

-- ---- to rest

-- The number that refused an instant, whether a run came to rest, the generator's next seed, and what is reached.
pub record Going (A : Type 0) : Type 0 where
  pub number : ℕ
  pub rested : Bool
  pub seed : ℕ
  pub after : A

abbrev pub going : {A : Type 0} → ℕ → Bool → ℕ → A → Going A
going n t seed x = record { number = n; rested = t; seed = seed; after = x }

-- How many instants came to rest, and how it goes with the last.
pub record Drive (A : Type 0) : Type 0 where
  pub phases : ℕ
  pub last : Going A

abbrev pub driven : {A : Type 0} → ℕ → Going A → Drive A
driven p g = record { phases = p; last = g }

module _ {A : Type 0} (k : Calls A) where
  -- A choice that is drawn. A commit that is refused with 35, "commit with none pending", says that there is nothing left to choose.
  unfoldable pub draw : Going A → Going A
  draw g =
      let seed = next_seed g.seed in
      let c = k.choose g.after (drawn_choice seed k.items) in
      going 0 (eqb c.number 35) seed c.after

  -- At most n of them.
  unfoldable pub drawn : ℕ → Going A → Going A
  drawn zero g = g
  drawn (suc n) g = pick g.rested g (drawn n (draw g))

  unfoldable pub plainly : Going A → Going A
  plainly g =
      let r = k.plain g.after in
      going 0 r.rested g.seed r.after

  module _ (by_draws : Bool) where
    unfoldable pub to_rest : Going A → Going A
    to_rest g = pick by_draws (drawn drawn_most g) (plainly g)

    -- ---- an instant, and then to rest; a refused one leaves its number

    unfoldable pub drive : Inputs → Going A → Going A
    drive a g =
        let c = k.instant g.after a in
        pick (eqb c.number 0) (to_rest (going 0 false g.seed c.after)) (going c.number false g.seed c.after)

    -- ---- from instant number p on, n of them

    module _ (inputs : ℕ → Inputs) where
      unfoldable pub drives : ℕ → ℕ → Going A → Drive A
      drives zero p g = driven p g
      drives (suc n) p g =
          let e = drive (inputs p) g in
          pick e.rested (drives n (p + 1) e) (driven p e)

      unfoldable pub rows : ℕ → ℕ → Going A → List ℕ → List ℕ
      rows zero p g w = w
      rows (suc n) p g w =
          let e = drive (inputs p) g in
          pick e.rested (rows n (p + 1) e (written p (k.state e.after) w)) w

-- ---- what the code answers

-- As the code keeps it.
abbrev pub going_of : List ℕ → List ℕ → List ℕ → Went → Going Moment
going_of cs ns ps g = going g.number g.rested g.seed (moment_of cs ns ps g.standing)

abbrev pub told : ℕ → ℕ → Bool → ℕ → State → Driven
told p n t seed st = record { phases = p; number = n; rested = t; seed = seed; state = st }

unfoldable pub arrived : {A : Type 0} → (A → State) → Drive A → Driven
arrived state d = told d.phases d.last.number d.last.rested d.last.seed (state d.last.after)

-- ---- on a sheet

unfoldable pub is_quiet : Verdict → Bool
is_quiet Quiet = true
is_quiet Spent = false
is_quiet (Stopped n) = false
is_quiet (Refused n) = false

abbrev pub on_sheet : List ℕ → Module Expr → ℕ → Calls State
on_sheet s m u =
    record {
      items = length m.threads + length m.wires;
      instant = λ st a. answer (calls.instant s st a).number (calls.instant s st a).state;
      choose = λ st c. answer (calls.choose s st u c).number (calls.choose s st u c).state;
      plain = λ st. resting (is_quiet (calls.run_plain s st u plain_most).verdict) (calls.run_plain s st u plain_most).state;
      state = λ st. st;
    }

module _ (s : List ℕ) (by_draws : Bool) (seed : ℕ) (st : State) (u : ℕ) where
  -- "1 to 11, 31", a user above 3, and then to rest.
  unfoldable pub settled : Driven
  settled =
      calls.judged (read s) st (λ n. told 0 n false seed st)
      (λ m.
      pick (ltb u users) (arrived (λ x. x) (driven 0 (to_rest (on_sheet s m u) by_draws (going 0 false seed st))))
      (told 0 46 false seed st))

  module _ (ns xs w : List ℕ) where
    -- 23, 1 to 11, 31, 46, 25, and then instant by instant.
    unfoldable pub drive_cycles : Driven
    drive_cycles =
        pick (has_room (rounds ns) w)
        (calls.judged (read s) st (λ n. told 0 n false seed st)
        (λ m.
        pick (ltb u users)
        (pick (whole_rows ns xs)
        (arrived (λ x. x)
        (drives (on_sheet s m u) by_draws (row_inputs m.scope.inputs ns xs) (rounds ns) 0 (going 0 true seed st)))
        (told 0 25 false seed st))
        (told 0 46 false seed st)))
        (told 0 23 false seed st)

    unfoldable pub driven_cycles : List ℕ
    driven_cycles =
        pick (has_room (rounds ns) w)
        (calls.judged (read s) st (λ n. w)
        (λ m.
        pick (ltb u users)
        (pick (whole_rows ns xs)
        (rows (on_sheet s m u) by_draws (row_inputs m.scope.inputs ns xs) (rounds ns) 0 (going 0 true seed st) w)
        w)
        w))
        w

-- ---- on a plan

abbrev pub on_plan : Plan → Calls Moment
on_plan q =
    record {
      items = q.threads + q.wires;
      instant =
          λ o a.
          answer (refusal_at q a o)
          (pick (eqb (refusal_at q a o) 0) (moment (feed q (calls.input_of a) o.left) (later o.counters) o.user) o);
      choose =
          λ o c.
          let t = take_choice q (room_at o) c o.left in
          answer t.number (moment t.left (raised (accepted t.number) o.user o.counters) o.user);
      plain =
          λ o.
          let r = run_plain q plain_most (room_at o) o.left in
          resting (not (busy r.left)) (moment r.left (raised r.accepted o.user o.counters) o.user);
      state = state_at;
    }

module _ (q : Plan) (by_draws : Bool) (seed : ℕ) (st : State) (u : ℕ) where
  unfoldable pub settled_at : Driven
  settled_at =
      pick (plan_fits q st)
      (pick (ltb u users) (arrived state_at (driven 0 (to_rest (on_plan q) by_draws (going 0 false seed (laid_out q st u)))))
      (told 0 46 false seed st))
      (told 0 31 false seed st)

  module _ (ns xs w : List ℕ) where
    unfoldable pub drive_at : Driven
    drive_at =
        pick (has_room (rounds ns) w)
        (pick (plan_fits q st)
        (pick (ltb u users)
        (pick (whole_rows ns xs)
        (arrived state_at
        (drives (on_plan q) by_draws (row_inputs q.inputs ns xs) (rounds ns) 0 (going 0 true seed (laid_out q st u))))
        (told 0 25 false seed st))
        (told 0 46 false seed st))
        (told 0 31 false seed st))
        (told 0 23 false seed st)

    unfoldable pub driven_at : List ℕ
    driven_at =
        pick (has_room (rounds ns) w)
        (pick (plan_fits q st)
        (pick (ltb u users)
        (pick (whole_rows ns xs)
        (rows (on_plan q) by_draws (row_inputs q.inputs ns xs) (rounds ns) 0 (going 0 true seed (laid_out q st u)) w)
        w)
        w)
        w)
        w
