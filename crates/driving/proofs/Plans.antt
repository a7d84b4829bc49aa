-- Laws by which the code goes on a plan, and those of a state's parts. Assumes nothing.
use mathlib.Core.Path.{◌≡◌, refl, sym, ap, ◌∙◌}
use mathlib.Core.Bool.{Bool, true, false}
use mathlib.Core.List.{List, ◌++◌}
use Prim.Native.Nat.{ℕ, ◌+◌, ◌<◌, ◌≤◌}
use native.Mathlib.Omega.{arith}
use borrow.Author.Tests.{lt-ltb, le-ltb, eq-eqb, ne_eqb}
use lib.ListN.{length, get_or, length-append, get_or-eq_default}
use lib.Seq.{sets}
use Rattle.values.specs.Planes.{value_at}
use Rattle.values.specs.Cells.{cell_of}
use Rattle.state.specs.declared.State.{State}
use Rattle.state.specs.State.{count_of, allowance_of, value_of}
use Rattle.state.specs.Rows.{list_of}
use Rattle.state.proofs.Rows.{sets-append, sets-whole, length-list_of}
use Rattle.events.specs.Calls.{spend, started}
use Rattle.nextstate.specs.declared.Registers.{Registers}
use Rattle.options.specs.declared.Way.{Way}
use Rattle.plan.specs.Plan.{Plan}
use Rattle.prepared.specs.Prepared.{room_in, start_at}
use Rattle.prepared_cycles.specs.declared.Driven.{Driven}
use Rattle.prepared_cycles.specs.Traces.{places_in, row_of}
use Rattle.prepared_cycles.specs.Drives.{settled_at, drive_at, driven_at}
use Rattle.driving.specs.declared.Rest.{Rest}
use Rattle.driving.specs.declared.Traced.{Traced}
use Rattle.driving.specs.Plans.{seed_of, is_drawn, stopped_by, rest_of, traced, resumed_at, begun_at, traced_at}
use Rattle.driving.specs.Plans.{rows_at, words_of, registers_in, unsettled_at}

-- ---- the number that stopped a run

module _ (u : ℕ) (d : Driven) where
  pub stopped-refused : (d.number ≡ 0 → ⊥) → d.number ≡ stopped_by u d
  unfolding stopped_by
  stopped-refused h = rw (ne_eqb d.number 0 h)

  module _ (z : d.number ≡ 0) where
    pub stopped-rested : d.rested ≡ true → 0 ≡ stopped_by u d
    unfolding stopped_by
    stopped-rested h = rw (eq-eqb d.number 0 z, h)

    module _ (h : d.rested ≡ false) {n : ℕ} (e : n ≡ room_in d.state.counters u) where
      pub stopped-used-up : n ≡ 0 → 47 ≡ stopped_by u d
      unfolding stopped_by spend count_of allowance_of
      stopped-used-up k =
          rw (eq-eqb d.number 0 z, h, le-ltb (count_of d.state u) (allowance_of d.state u) (omega arith))

      pub stopped-spent : (n ≡ 0 → ⊥) → 0 ≡ stopped_by u d
      unfolding stopped_by spend count_of allowance_of
      stopped-spent k =
          rw (eq-eqb d.number 0 z, h, lt-ltb (count_of d.state u) (allowance_of d.state u) (omega arith))

-- ---- begin and trace

pub resumed-is :
    (q : Plan) (st : State) (u : ℕ) (way : Way) (seed : ℕ) (t : Bool) (d : Driven) (r : Rest) →
    seed ≡ seed_of way → t ≡ is_drawn way → d ≡ settled_at q t seed st u → r ≡ rest_of u way d → r ≡ resumed_at q st u way
unfolding resumed_at
resumed-is q st u way seed t d r b c e f = f ∙ ap (rest_of u way) (e ∙ (λ i. settled_at q (c i) (b i) st u))

pub begun-is :
    (q : Plan) (allowances : List ℕ) (u : ℕ) (way : Way) (st : State) (r : Rest) →
    st ≡ start_at q allowances → r ≡ resumed_at q st u way → r ≡ begun_at q allowances u way
unfolding begun_at
begun-is q allowances u way st r a e = e ∙ ap (λ (x : State). resumed_at q x u way) a

module _ (q : Plan) (r : Rest) (u : ℕ) (ns xs w : List ℕ) where
  abbrev Answers : Traced → List ℕ → Type 0
  Answers t v = (t ≡ traced_at q r u ns xs w) × (v ≡ rows_at q r u ns xs w)

  pub traced-none : length ns < 16 → Answers (traced 0 r) w
  unfolding traced_at rows_at
  traced-none h = (rw (lt-ltb (length ns) 16 h) refl, rw (lt-ltb (length ns) 16 h) refl)

  pub traced-run : 16 ≤ length ns → (t : Bool) → t ≡ is_drawn r.way → (d : Driven) (v : List ℕ)
      → d ≡ drive_at q t r.seed r.state u ns xs w → v ≡ driven_at q t r.seed r.state u ns xs w → (e : Rest)
      → e ≡ rest_of u r.way d → Answers (traced d.phases e) v
  unfolding traced_at rows_at
  traced-run h t c d v f g e k =
      let f' = f ∙ ap (λ (b : Bool). drive_at q b r.seed r.state u ns xs w) c in
      let g' = g ∙ ap (λ (b : Bool). driven_at q b r.seed r.state u ns xs w) c in
      (rw (le-ltb (length ns) 16 h, k, ← f') refl, rw (le-ltb (length ns) 16 h) g')

-- ---- a row

pub row-whole : (st : State) (zs us vs : List ℕ) → length zs ≡ 88 → us ≡ sets zs 0 (words_of st.value st.unknown)
    → vs ≡ sets us 80 (places_in st.places) → vs ≡ row_of st
unfolding row_of value_of
row-whole st zs us vs l e f =
    let ws = words_of st.value st.unknown in
    let ps = places_in st.places in
    let n : length ws ≡ 80 = length-list_of (λ v. cell_of (value_at st.value st.unknown v)) 80 in
    let at-end : 80 ≡ 0 + length ws = omega arith in
    let k : length ps ≡ 8 = length-list_of (λ i. get_or st.places i 0) 8 in
    f
    ∙ ap (λ (x : List ℕ). sets x 80 ps) e
    ∙ ap (λ (x : ℕ). sets (sets zs 0 ws) x ps) at-end
    ∙ sym (sets-append zs 0 ws ps)
    ∙ sets-whole zs (ws ++ ps) (l ∙ sym (length-append ws ps ∙ (λ i. n i + k i)))

-- ---- registers

pub get_d_past : {A : Type 0} (l : List A) (d : A) (v : ℕ) → length l ≤ v → d ≡ get_or l v d
get_d_past l d v h = sym (get_or-eq_default l d {n = v} h)

pub registers-is :
    (inputs : ℕ) (st : State) (a x : List ℕ) → a ≡ list_of 32 (λ r. get_or st.value (inputs + r) 0) →
    x ≡ list_of 32 (λ r. get_or st.unknown (inputs + r) 0) →
    ◌≡◌ {A = Registers} (record { value = a; unknown = x; places = st.places }) (registers_in inputs st)
unfolding registers_in
registers-is inputs st a x e h = rw (e, h)

-- ---- a state whose registers were set

pub unsettled-is : (q : Plan) (st b : State) (allowances : List ℕ) → b ≡ start_at q allowances
    → ◌≡◌ {A = State} (record {
      value = st.value;
      unknown = st.unknown;
      pending = st.pending;
      unsure = st.unsure;
      held = st.held;
      places = st.places;
      due = b.due;
      counters = st.counters;
    }) (unsettled_at q st)
unfolding unsettled_at start_at started
unsettled-is q st b allowances e = rw e
