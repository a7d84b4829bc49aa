-- Laws of a state's accessors: what is read after a part is set, what each setter leaves alone, and that the arrays keep
-- their lengths. With them nobody has to open an accessor. Assumes nothing.
use mathlib.Core.Path.{◌≡◌, refl, sym, ◌∙◌}
use mathlib.Core.Logic.{◌≢◌}
use mathlib.Core.Bool.{Bool, true, false}
use mathlib.Core.List.{List, [], ◌∷◌}
use mathlib.Core.Option.{none, some}
use Prim.Native.Nat.{ℕ, ◌<◌, ◌^◌}
use native.Mathlib.Omega.{arith}
use borrow.Author.Rules.{rules}
use mir.Syntax.{Width, w8, w32, w64}
use mir.Val.{Fits, bits}
use denote.Laws.{Is}
use denote.Struct.Laws.{val}
use lib.ListN.{length, get_or, length-set}
use lib.Seq.{get_or-set_same, get_or-set_other}
use Rattle.values.specs.declared.Value.{Value}
use Rattle.values.specs.Planes.{number_of, marks_of}
use Rattle.values.proofs.Planes.{value_at-set-same, value_at-set-other}
use Rattle.state.specs.declared.Counters.{Counters}
use Rattle.state.specs.declared.State.{State}
use Rattle.state.specs.State.{Shaped, Bounded, with_planes, with_slots, with_places, with_marks, with_counters}
use Rattle.state.specs.State.{value_of, with_value, pending_of, with_pending, without_pending}
use Rattle.state.specs.State.{place_of, with_place, is_due, with_due, count_of, allowance_of}
use Rattle.state.specs.contracts.State.{the_type, the_row}
use Rattle.state.proofs.State.TheLaws.{the_laws}

-- ---- a state passed by value: its arrays are as long as their types say, and its numbers fit

abbrev pub Good : State → Type 0
Good st = Is the_row st (val the_type the_laws st ∷ [])

pub shaped-good : (st : State) → Good st → Shaped st
shaped-good st g =
    record {
      value = search rules;
      unknown = search rules;
      pending = search rules;
      unsure = search rules;
      held = search rules;
      places = search rules;
      due = search rules;
      counts = search rules;
      allowances = search rules;
    }

-- a number of a width below 2 to the width
below : (w : Width) {n : ℕ} → Fits w n → n < 2 ^ bits w
below w f = f.fits

pub bounded-good : (st : State) → Good st → Bounded st
bounded-good st g =
    record {
      value = λ v. below w32 (search rules);
      unknown = λ v. below w32 (search rules);
      pending = λ r. below w32 (search rules);
      unsure = λ r. below w32 (search rules);
      places = λ i. below w8 (search rules);
      time = search rules;
      counts = λ u. below w64 (search rules);
      allowances = λ u. below w32 (search rules);
    }

-- ---- two states with the same parts are the same

pub state-same :
    (s t : State) → s.value ≡ t.value → s.unknown ≡ t.unknown → s.pending ≡ t.pending →
    s.unsure ≡ t.unsure → s.held ≡ t.held → s.places ≡ t.places → s.due ≡ t.due →
    s.counters ≡ t.counters → s ≡ t
state-same s t a b c d e f g h =
    λ i.
    record {
      value = a i;
      unknown = b i;
      pending = c i;
      unsure = d i;
      held = e i;
      places = f i;
      due = g i;
      counters = h i;
    }

-- ---- what is set is read: the same slot, and another

module _ (st : State) (v : ℕ) (a : Value) where
  pub value-with_value-same : Shaped st → v < 80 → value_of (with_value st v a) v ≡ a
  unfolding value_of with_value with_planes
  value-with_value-same s h = value_at-set-same st.value st.unknown v a (omega arith) (omega arith)

  pub value-with_value-other : (u : ℕ) → v ≢ u → value_of (with_value st v a) u ≡ value_of st u
  unfolding value_of with_value with_planes
  value-with_value-other u h =
      value_at-set-other st.value st.unknown u v (number_of a) (marks_of a) (λ e. h (sym e))

module _ (st : State) (r : ℕ) (a : Value) where
  pub pending-with_pending-same : Shaped st → r < 32 → pending_of (with_pending st r a) r ≡ some a
  unfolding pending_of with_pending with_slots
  pending-with_pending-same s h =
      let f = get_or-set_same st.held r true false (omega arith) in
      rw (f, value_at-set-same st.pending st.unsure r a (omega arith) (omega arith))

  pub pending-with_pending-other : (q : ℕ) → r ≢ q → pending_of (with_pending st r a) q ≡ pending_of st q
  unfolding pending_of with_pending with_slots
  pending-with_pending-other q h =
      let h' : q ≢ r = λ e. h (sym e) in
      let f = get_or-set_other st.held r q true false h' in
      rw (f, value_at-set-other st.pending st.unsure q r (number_of a) (marks_of a) h')

module _ (st : State) (r : ℕ) where
  pub pending-without_pending-same : Shaped st → r < 32 → pending_of (without_pending st r) r ≡ none
  unfolding pending_of without_pending with_slots
  pending-without_pending-same s h = rw (get_or-set_same st.held r false false (omega arith))

  pub pending-without_pending-other : (q : ℕ) → r ≢ q → pending_of (without_pending st r) q ≡ pending_of st q
  unfolding pending_of without_pending with_slots
  pending-without_pending-other q h = rw (get_or-set_other st.held r q false false (λ e. h (sym e)))

module _ (st : State) (i p : ℕ) where
  pub place-with_place-same : Shaped st → i < 8 → place_of (with_place st i p) i ≡ p
  unfolding place_of with_place with_places
  place-with_place-same s h = get_or-set_same st.places i p 0 (omega arith)

  pub place-with_place-other : (j : ℕ) → i ≢ j → place_of (with_place st i p) j ≡ place_of st j
  unfolding place_of with_place with_places
  place-with_place-other j h = get_or-set_other st.places i j p 0 (λ e. h (sym e))

module _ (st : State) (k : ℕ) (b : Bool) where
  pub due-with_due-same : Shaped st → k < 32 → is_due (with_due st k b) k ≡ b
  unfolding is_due with_due with_marks
  due-with_due-same s h = get_or-set_same st.due k b false (omega arith)

  pub due-with_due-other : (j : ℕ) → k ≢ j → is_due (with_due st k b) j ≡ is_due st j
  unfolding is_due with_due with_marks
  due-with_due-other j h = get_or-set_other st.due k j b false (λ e. h (sym e))

-- ---- what each setter leaves alone

module _ (st : State) (ns us : List ℕ) where
  pub pending-with_planes : (q : ℕ) → pending_of (with_planes st ns us) q ≡ pending_of st q
  unfolding pending_of with_planes
  pending-with_planes q = refl

  pub place-with_planes : (j : ℕ) → place_of (with_planes st ns us) j ≡ place_of st j
  unfolding place_of with_planes
  place-with_planes j = refl

  pub due-with_planes : (l : ℕ) → is_due (with_planes st ns us) l ≡ is_due st l
  unfolding is_due with_planes
  due-with_planes l = refl

  pub counters-with_planes : (with_planes st ns us).counters ≡ st.counters
  unfolding with_planes
  counters-with_planes = refl

module _ (st : State) (v : ℕ) (a : Value) where
  pub pending-with_value : (q : ℕ) → pending_of (with_value st v a) q ≡ pending_of st q
  unfolding pending_of with_value with_planes
  pending-with_value q = refl

  pub place-with_value : (j : ℕ) → place_of (with_value st v a) j ≡ place_of st j
  unfolding place_of with_value with_planes
  place-with_value j = refl

  pub due-with_value : (l : ℕ) → is_due (with_value st v a) l ≡ is_due st l
  unfolding is_due with_value with_planes
  due-with_value l = refl

  pub counters-with_value : (with_value st v a).counters ≡ st.counters
  unfolding with_value with_planes
  counters-with_value = refl

module _ (st : State) (ns us : List ℕ) (hs : List Bool) where
  pub value-with_slots : (u : ℕ) → value_of (with_slots st ns us hs) u ≡ value_of st u
  unfolding value_of with_slots
  value-with_slots u = refl

  pub place-with_slots : (j : ℕ) → place_of (with_slots st ns us hs) j ≡ place_of st j
  unfolding place_of with_slots
  place-with_slots j = refl

  pub due-with_slots : (l : ℕ) → is_due (with_slots st ns us hs) l ≡ is_due st l
  unfolding is_due with_slots
  due-with_slots l = refl

  pub counters-with_slots : (with_slots st ns us hs).counters ≡ st.counters
  unfolding with_slots
  counters-with_slots = refl

module _ (st : State) (r : ℕ) (a : Value) where
  pub value-with_pending : (u : ℕ) → value_of (with_pending st r a) u ≡ value_of st u
  unfolding value_of with_pending with_slots
  value-with_pending u = refl

  pub place-with_pending : (j : ℕ) → place_of (with_pending st r a) j ≡ place_of st j
  unfolding place_of with_pending with_slots
  place-with_pending j = refl

  pub due-with_pending : (l : ℕ) → is_due (with_pending st r a) l ≡ is_due st l
  unfolding is_due with_pending with_slots
  due-with_pending l = refl

  pub counters-with_pending : (with_pending st r a).counters ≡ st.counters
  unfolding with_pending with_slots
  counters-with_pending = refl

module _ (st : State) (r : ℕ) where
  pub value-without_pending : (u : ℕ) → value_of (without_pending st r) u ≡ value_of st u
  unfolding value_of without_pending with_slots
  value-without_pending u = refl

  pub place-without_pending : (j : ℕ) → place_of (without_pending st r) j ≡ place_of st j
  unfolding place_of without_pending with_slots
  place-without_pending j = refl

  pub due-without_pending : (l : ℕ) → is_due (without_pending st r) l ≡ is_due st l
  unfolding is_due without_pending with_slots
  due-without_pending l = refl

  pub counters-without_pending : (without_pending st r).counters ≡ st.counters
  unfolding without_pending with_slots
  counters-without_pending = refl

module _ (st : State) (ps : List ℕ) where
  pub value-with_places : (u : ℕ) → value_of (with_places st ps) u ≡ value_of st u
  unfolding value_of with_places
  value-with_places u = refl

  pub pending-with_places : (q : ℕ) → pending_of (with_places st ps) q ≡ pending_of st q
  unfolding pending_of with_places
  pending-with_places q = refl

  pub due-with_places : (l : ℕ) → is_due (with_places st ps) l ≡ is_due st l
  unfolding is_due with_places
  due-with_places l = refl

  pub counters-with_places : (with_places st ps).counters ≡ st.counters
  unfolding with_places
  counters-with_places = refl

module _ (st : State) (i p : ℕ) where
  pub value-with_place : (u : ℕ) → value_of (with_place st i p) u ≡ value_of st u
  unfolding value_of with_place with_places
  value-with_place u = refl

  pub pending-with_place : (q : ℕ) → pending_of (with_place st i p) q ≡ pending_of st q
  unfolding pending_of with_place with_places
  pending-with_place q = refl

  pub due-with_place : (l : ℕ) → is_due (with_place st i p) l ≡ is_due st l
  unfolding is_due with_place with_places
  due-with_place l = refl

  pub counters-with_place : (with_place st i p).counters ≡ st.counters
  unfolding with_place with_places
  counters-with_place = refl

module _ (st : State) (ds : List Bool) where
  pub value-with_marks : (u : ℕ) → value_of (with_marks st ds) u ≡ value_of st u
  unfolding value_of with_marks
  value-with_marks u = refl

  pub pending-with_marks : (q : ℕ) → pending_of (with_marks st ds) q ≡ pending_of st q
  unfolding pending_of with_marks
  pending-with_marks q = refl

  pub place-with_marks : (j : ℕ) → place_of (with_marks st ds) j ≡ place_of st j
  unfolding place_of with_marks
  place-with_marks j = refl

  pub counters-with_marks : (with_marks st ds).counters ≡ st.counters
  unfolding with_marks
  counters-with_marks = refl

module _ (st : State) (k : ℕ) (b : Bool) where
  pub value-with_due : (u : ℕ) → value_of (with_due st k b) u ≡ value_of st u
  unfolding value_of with_due with_marks
  value-with_due u = refl

  pub pending-with_due : (q : ℕ) → pending_of (with_due st k b) q ≡ pending_of st q
  unfolding pending_of with_due with_marks
  pending-with_due q = refl

  pub place-with_due : (j : ℕ) → place_of (with_due st k b) j ≡ place_of st j
  unfolding place_of with_due with_marks
  place-with_due j = refl

  pub counters-with_due : (with_due st k b).counters ≡ st.counters
  unfolding with_due with_marks
  counters-with_due = refl

module _ (st : State) (c : Counters) where
  pub value-with_counters : (u : ℕ) → value_of (with_counters st c) u ≡ value_of st u
  unfolding value_of with_counters
  value-with_counters u = refl

  pub pending-with_counters : (q : ℕ) → pending_of (with_counters st c) q ≡ pending_of st q
  unfolding pending_of with_counters
  pending-with_counters q = refl

  pub place-with_counters : (j : ℕ) → place_of (with_counters st c) j ≡ place_of st j
  unfolding place_of with_counters
  place-with_counters j = refl

  pub due-with_counters : (l : ℕ) → is_due (with_counters st c) l ≡ is_due st l
  unfolding is_due with_counters
  due-with_counters l = refl

  pub counters-with_counters : (with_counters st c).counters ≡ c
  unfolding with_counters
  counters-with_counters = refl

  pub count-with_counters : (u : ℕ) → count_of (with_counters st c) u ≡ get_or c.counts u 0
  unfolding count_of with_counters
  count-with_counters u = refl

  pub allowance-with_counters : (u : ℕ) → allowance_of (with_counters st c) u ≡ get_or c.allowances u 0
  unfolding allowance_of with_counters
  allowance-with_counters u = refl

-- states with the same counters have the same counts and allowances
module _ (s t : State) (e : s.counters ≡ t.counters) where
  pub count_same : (u : ℕ) → count_of s u ≡ count_of t u
  unfolding count_of
  count_same u = rw e

  pub allowance-same : (u : ℕ) → allowance_of s u ≡ allowance_of t u
  unfolding allowance_of
  allowance-same u = rw e

-- ---- each setter keeps the lengths

module _ (st : State) (ns us : List ℕ) where
  pub shaped-with_planes : Shaped st → length ns ≡ 80 → length us ≡ 80 → Shaped (with_planes st ns us)
  unfolding with_planes
  shaped-with_planes s p q =
      record {
        value = p;
        unknown = q;
        pending = s.pending;
        unsure = s.unsure;
        held = s.held;
        places = s.places;
        due = s.due;
        counts = s.counts;
        allowances = s.allowances;
      }

module _ (st : State) (v : ℕ) (a : Value) where
  pub shaped-with_value : Shaped st → Shaped (with_value st v a)
  unfolding with_value with_planes
  shaped-with_value s =
      record {
        value = length-set st.value v (number_of a) ∙ s.value;
        unknown = length-set st.unknown v (marks_of a) ∙ s.unknown;
        pending = s.pending;
        unsure = s.unsure;
        held = s.held;
        places = s.places;
        due = s.due;
        counts = s.counts;
        allowances = s.allowances;
      }

module _ (st : State) (ns us : List ℕ) (hs : List Bool) where
  pub shaped-with_slots : Shaped st → length ns ≡ 32 → length us ≡ 32 → length hs ≡ 32 → Shaped (with_slots st ns us hs)
  unfolding with_slots
  shaped-with_slots s p q o =
      record {
        value = s.value;
        unknown = s.unknown;
        pending = p;
        unsure = q;
        held = o;
        places = s.places;
        due = s.due;
        counts = s.counts;
        allowances = s.allowances;
      }

module _ (st : State) (r : ℕ) (a : Value) where
  pub shaped-with_pending : Shaped st → Shaped (with_pending st r a)
  unfolding with_pending with_slots
  shaped-with_pending s =
      record {
        value = s.value;
        unknown = s.unknown;
        pending = length-set st.pending r (number_of a) ∙ s.pending;
        unsure = length-set st.unsure r (marks_of a) ∙ s.unsure;
        held = length-set st.held r true ∙ s.held;
        places = s.places;
        due = s.due;
        counts = s.counts;
        allowances = s.allowances;
      }

module _ (st : State) (r : ℕ) where
  pub shaped-without_pending : Shaped st → Shaped (without_pending st r)
  unfolding without_pending with_slots
  shaped-without_pending s =
      record {
        value = s.value;
        unknown = s.unknown;
        pending = s.pending;
        unsure = s.unsure;
        held = length-set st.held r false ∙ s.held;
        places = s.places;
        due = s.due;
        counts = s.counts;
        allowances = s.allowances;
      }

module _ (st : State) (ps : List ℕ) where
  pub shaped-with_places : Shaped st → length ps ≡ 8 → Shaped (with_places st ps)
  unfolding with_places
  shaped-with_places s p =
      record {
        value = s.value;
        unknown = s.unknown;
        pending = s.pending;
        unsure = s.unsure;
        held = s.held;
        places = p;
        due = s.due;
        counts = s.counts;
        allowances = s.allowances;
      }

module _ (st : State) (i p : ℕ) where
  pub shaped-with_place : Shaped st → Shaped (with_place st i p)
  unfolding with_place with_places
  shaped-with_place s =
      record {
        value = s.value;
        unknown = s.unknown;
        pending = s.pending;
        unsure = s.unsure;
        held = s.held;
        places = length-set st.places i p ∙ s.places;
        due = s.due;
        counts = s.counts;
        allowances = s.allowances;
      }

module _ (st : State) (ds : List Bool) where
  pub shaped-with_marks : Shaped st → length ds ≡ 32 → Shaped (with_marks st ds)
  unfolding with_marks
  shaped-with_marks s p =
      record {
        value = s.value;
        unknown = s.unknown;
        pending = s.pending;
        unsure = s.unsure;
        held = s.held;
        places = s.places;
        due = p;
        counts = s.counts;
        allowances = s.allowances;
      }

module _ (st : State) (k : ℕ) (b : Bool) where
  pub shaped-with_due : Shaped st → Shaped (with_due st k b)
  unfolding with_due with_marks
  shaped-with_due s =
      record {
        value = s.value;
        unknown = s.unknown;
        pending = s.pending;
        unsure = s.unsure;
        held = s.held;
        places = s.places;
        due = length-set st.due k b ∙ s.due;
        counts = s.counts;
        allowances = s.allowances;
      }

module _ (st : State) (c : Counters) where
  pub shaped-with_counters : Shaped st → length c.counts ≡ 4 → length c.allowances ≡ 4 → Shaped (with_counters st c)
  unfolding with_counters
  shaped-with_counters s p q =
      record {
        value = s.value;
        unknown = s.unknown;
        pending = s.pending;
        unsure = s.unsure;
        held = s.held;
        places = s.places;
        due = s.due;
        counts = p;
        allowances = q;
      }
