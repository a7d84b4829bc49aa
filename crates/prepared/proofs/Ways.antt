-- Each way through the code of a call gives what the call's definition says. Assumes nothing.
use mathlib.Core.Path.{◌≡◌, refl, sym, ap, ◌∙◌}
use mathlib.Core.Bool.{Bool, true, false}
use mathlib.Core.List.{List}
use Prim.Native.Nat.{ℕ, ◌+◌, ◌≤◌, ◌<◌}
use native.Mathlib.Nat.{zero-sub}
use native.Mathlib.Omega.{arith}
use lib.Dec.{leb}
use lib.ListN.{length, get_or, set, get_or-eq_default}
use lib.Seq.{set_out}
use borrow.Author.Tests.{eq-eqb, ne_eqb, lt-ltb, le-ltb, lt-leb, le-leb}
use Rattle.values.specs.declared.Value.{Value}
use Rattle.values.specs.Values.{pick, ones, all_unknown}
use Rattle.values.specs.Planes.{marks_of}
use Rattle.sheet.specs.declared.SheetRead.{SheetRead}
use Rattle.state.specs.declared.Counters.{Counters}
use Rattle.state.specs.declared.State.{State}
use Rattle.state.specs.State.{full, counters_of, users}
use Rattle.state.specs.Rows.{list_of}
use Rattle.state.proofs.Rows.{length-list_of, get_d-list_of}
use Rattle.events.specs.declared.Inputs.{Inputs}
use Rattle.events.specs.declared.Verdict.{Verdict}
use Rattle.events.specs.declared.Verdict.TheVariants.{Quiet, Spent, Stopped, Refused}
use Rattle.events.specs.Calls.{spend_time, answer, input_of}
use Rattle.plan.specs.Plan.{Plan}
use Rattle.plan_changes.specs.declared.Marks.{Marks}
use Rattle.plan_engine.specs.Live.{Live, live}
use Rattle.plan_engine.specs.Acting.{feed}
use Rattle.plan_engine.specs.Taking.{taken, take_choice}
use Rattle.plan_engine.specs.Running.{run, run_list, run_plain, busy}
use Rattle.plan_state.specs.Packing.{slots_of, unpacked_in, unpacked, packed}
use Rattle.plan_fill.specs.Filling.{filled_plan}
use Rattle.plan_fitting.specs.Fitting.{plan_fits, plan_inputs_fit}
use Rattle.prepared.specs.declared.Prepared.{Prepared}
use Rattle.prepared.specs.Prepared.{read_of, prepared_plan, widths_of}
use Rattle.prepared.specs.Prepared.{room_in, raised, accepted, userless, verdict_of, choose_at, run_at, plain_at}
use Rattle.prepared.specs.Prepared.{later, instant_number, fed_at, instant_at}

-- ---- prepare

module _ (s ws : List ℕ) (r : SheetRead) (e : r ≡ read_of s) where
  pub prepared-answer : ◌≡◌ {A = Prepared} (record { number = r.number; place = r.place })
      (record { number = (read_of s).number; place = (read_of s).place })
  prepared-answer = ap (λ (x : SheetRead). record { number = x.number; place = x.place }) e

  pub prepared-refused : (r.number ≡ 0 → ⊥) → ws ≡ prepared_plan s ws
  unfolding prepared_plan
  prepared-refused h = rw (← e, ne_eqb r.number 0 h) refl

  pub prepared-filled : r.number ≡ 0 → (vs : List ℕ) → vs ≡ filled_plan s r.layout ws → vs ≡ prepared_plan s ws
  unfolding prepared_plan
  prepared-filled h vs f = rw (← e, eq-eqb r.number 0 h) f

-- ---- start

module _ (q : Plan) (v : ℕ) where
  pub width-within : v < q.inputs + q.registers + q.wires → q.width v ≡ get_or (widths_of q) v 32
  unfolding widths_of
  width-within h = sym (get_d-list_of q.width (q.inputs + q.registers + q.wires) v 32 h)

  pub width-past : q.inputs + q.registers + q.wires ≤ v → 32 ≡ get_or (widths_of q) v 32
  unfolding widths_of
  width-past h =
      let n = q.inputs + q.registers + q.wires in
      sym (get_or-eq_default (list_of n q.width) 32 {n = v} (omega (arith, length-list_of q.width n)))

-- What is stored in the plane of marks for a variable that is x.
pub unset-marks : (w n : ℕ) (a : Value) → a ≡ all_unknown w → n ≡ marks_of a → n ≡ ones w
unfolding marks_of all_unknown
unset-marks w n a e f = f ∙ ap (λ (x : Value). x.unknown) e

-- ---- a state laid out

pub laid : (q : Plan) (st : State) (k : Marks) (cs ds ns : List ℕ) → ns ≡ slots_of st
    → live ds (slots_of st) st.places k ≡ unpacked_in cs q st → live ds ns st.places k ≡ unpacked_in cs q st
laid q st k cs ds ns e h = ap (λ (xs : List ℕ). live ds xs st.places k) e ∙ h

-- ---- counting

module _ (c : Counters) (u : ℕ) where
  pub room-none : length c.counts ≡ 4 → length c.allowances ≡ 4 → 4 ≤ u → 0 ≡ room_in c u
  room-none p q h = sym (rw (get_or-eq_default c.allowances 0 {n = u} (omega arith)) (zero-sub (get_or c.counts u 0)))

  module _ (n : ℕ) where
    pub raised-none : room_in c u < n → c ≡ raised n u c
    unfolding raised
    raised-none h = rw (lt-leb n (room_in c u) h) refl

    -- A user above 3 has no count.
    pub raised-other : length c.counts ≡ 4 → 4 ≤ u → c ≡ raised n u c
    unfolding raised
    raised-other p h = rw (set_out c.counts u (get_or c.counts u 0 + n) (omega arith)) (either (leb n (room_in c u)))
      where
        either : (t : Bool) → c ≡ pick t (counters_of c.time c.counts c.allowances) c
        either true = refl
        either false = refl

    pub raised-some : n ≤ room_in c u → counters_of c.time (set c.counts u (get_or c.counts u 0 + n)) c.allowances ≡ raised n u c
    unfolding raised
    raised-some l = rw (le-leb n (room_in c u) l) refl

-- ---- a choice whose user is above 3

module _ (q : Plan) (c : ℕ) where
  pub userless-item : c < q.threads + q.wires → 46 ≡ userless q c
  unfolding userless
  userless-item h = rw (lt-ltb c (q.threads + q.wires) h) refl

  module _ (h : q.threads + q.wires ≤ c) where
    pub userless-commit : c ≡ 255 → 46 ≡ userless q c
    unfolding userless
    userless-commit e = rw (le-ltb c (q.threads + q.wires) h, eq-eqb c 255 e) refl

    pub userless-none : (c ≡ 255 → ⊥) → 22 ≡ userless q c
    unfolding userless
    userless-none d = rw (le-ltb c (q.threads + q.wires) h, ne_eqb c 255 d) refl

module _ (q : Plan) (st : State) where
  -- ---- a state that doesn't fit

  module _ (u : ℕ) (f : plan_fits q st ≡ false) where
    pub choose-unfit : (c : ℕ) → record { number = 31; state = st } ≡ choose_at q st u c
    unfolding choose_at
    choose-unfit c = rw f refl

    pub run-unfit : (cs : List ℕ) → record { accepted = 0; number = 31; state = st } ≡ run_at q st u cs
    unfolding run_at
    run-unfit cs = rw f refl

    pub plain-unfit : (n : ℕ) → record { accepted = 0; verdict = Refused 31; state = st } ≡ plain_at q st u n
    unfolding plain_at
    plain-unfit n = rw f refl

  pub instant-unfit : (a : Inputs) → plan_fits q st ≡ false → record { number = 31; state = st } ≡ instant_at q st a
  unfolding instant_at
  instant-unfit a f = rw f refl

  -- ---- a user above 3

  module _ (u : ℕ) (f : plan_fits q st ≡ true) (h : users ≤ u) where
    pub choose-userless : (c n : ℕ) → n ≡ userless q c → record { number = n; state = st } ≡ choose_at q st u c
    unfolding choose_at
    choose-userless c n e = rw (f, le-ltb u users h, e) refl

    pub run-userless : (cs : List ℕ) → record { accepted = 0; number = 46; state = st } ≡ run_at q st u cs
    unfolding run_at
    run-userless cs = rw (f, le-ltb u users h) refl

    pub plain-userless : (n : ℕ) → record { accepted = 0; verdict = Refused 46; state = st } ≡ plain_at q st u n
    unfolding plain_at
    plain-userless n = rw (f, le-ltb u users h) refl

  -- ---- a state that fits, laid out as l, and a user

  module _ (u : ℕ) (f : plan_fits q st ≡ true) (h : u < users) (l : Live) (e : l ≡ unpacked q st) where
    pub choose-fit : (c n room k : ℕ) (d : Live) (x : Counters) (v : State) → room ≡ room_in st.counters u
        → taken n d ≡ take_choice q room c l → k ≡ accepted n → x ≡ raised k u st.counters → v ≡ packed d x
        → record { number = n; state = v } ≡ choose_at q st u c
    unfolding choose_at
    choose-fit c n room k d x v r t y z p = rw (f, lt-ltb u users h, ← e, ← r, ← t, p, z, y) refl

    pub run-fit : (cs : List ℕ) (a n room : ℕ) (d : Live) (x : Counters) (v : State) → room ≡ room_in st.counters u
        → run a n d ≡ run_list q cs room l → x ≡ raised a u st.counters → v ≡ packed d x
        → record { accepted = a; number = n; state = v } ≡ run_at q st u cs
    unfolding run_at
    run-fit cs a n room d x v r t y p = rw (f, lt-ltb u users h, ← e, ← r, ← t, p, y) refl

    pub plain-fit : (limit a n room : ℕ) (w : Verdict) (d : Live) (x : Counters) (v : State) → room ≡ room_in st.counters u
        → run a n d ≡ run_plain q limit room l → w ≡ verdict_of n d → x ≡ raised a u st.counters → v ≡ packed d x
        → record { accepted = a; verdict = w; state = v } ≡ plain_at q st u limit
    unfolding plain_at
    plain-fit limit a n room w d x v r t y z p = rw (f, lt-ltb u users h, ← e, ← r, ← t, p, z, y) refl

  -- ---- an instant

  module _ (f : plan_fits q st ≡ true) (a : Inputs) where
    pub instant-wide : plan_inputs_fit q a ≡ false → record { number = 25; state = st } ≡ instant_at q st a
    unfolding instant_at instant_number answer
    instant-wide g = rw (f, g) refl

    module _ (g : plan_inputs_fit q a ≡ true) (l : Live) (e : l ≡ unpacked q st) where
      pub instant-busy : busy l ≡ true → record { number = 32; state = st } ≡ instant_at q st a
      unfolding instant_at instant_number answer
      instant-busy h = rw (f, g, ← e, h) refl

      pub instant-late : busy l ≡ false → st.counters.time ≡ full → record { number = 36; state = st } ≡ instant_at q st a
      unfolding instant_at instant_number answer spend_time
      instant-late h t = rw (f, g, ← e, h, eq-eqb st.counters.time full t) refl

      pub instant-done : busy l ≡ false → (st.counters.time ≡ full → ⊥) → (x : Counters) (d : Live) (v : State)
          → x ≡ later st.counters → d ≡ feed q (input_of a) l → v ≡ packed d x → record { number = 0; state = v } ≡ instant_at q st a
      unfolding instant_at instant_number answer spend_time fed_at
      instant-done h t x d v k y p = rw (f, g, ← e, h, ne_eqb st.counters.time full t, ← y, p, k) refl

-- ---- how a plain run ended

module _ (n : ℕ) (l : Live) where
  pub verdict-stopped : (n ≡ 0 → ⊥) → Stopped n ≡ verdict_of n l
  unfolding verdict_of
  verdict-stopped h = rw (ne_eqb n 0 h) refl

  pub verdict-spent : n ≡ 0 → busy l ≡ true → Spent ≡ verdict_of n l
  unfolding verdict_of
  verdict-spent h b = rw (eq-eqb n 0 h, b) refl

  pub verdict-quiet : n ≡ 0 → busy l ≡ false → Quiet ≡ verdict_of n l
  unfolding verdict_of
  verdict-quiet h b = rw (eq-eqb n 0 h, b) refl
