-- A state of the simulation, through its accessors. Nothing outside this file looks into a plane.
use Rattle.std.specs.Prelude.{ℕ, ◌<◌, ◌^◌, ◌≡◌, Bool, true, false, List, length, get_or, set}
use Rattle.std.proofs.Math.Option.{Option, none, some}
use Rattle.values.specs.declared.Value.{Value}
use Rattle.values.specs.Values.{pick}
use Rattle.values.specs.Planes.{value_at, number_of, marks_of}
use Rattle.state.specs.declared.Counters.{Counters}
use Rattle.state.specs.declared.State.{State}

-- ---- the states that code has: arrays of so many elements, numbers of so many bits

pub record Shaped (st : State) : Type 0 where
  pub value : length st.value ≡ 80
  pub unknown : length st.unknown ≡ 80
  pub pending : length st.pending ≡ 32
  pub unsure : length st.unsure ≡ 32
  pub held : length st.held ≡ 32
  pub places : length st.places ≡ 8
  pub due : length st.due ≡ 32
  pub counts : length st.counters.counts ≡ 4
  pub allowances : length st.counters.allowances ≡ 4

pub record Bounded (st : State) : Type 0 where
  pub value : (v : ℕ) → get_or st.value v 0 < 2 ^ 32
  pub unknown : (v : ℕ) → get_or st.unknown v 0 < 2 ^ 32
  pub pending : (r : ℕ) → get_or st.pending r 0 < 2 ^ 32
  pub unsure : (r : ℕ) → get_or st.unsure r 0 < 2 ^ 32
  pub places : (i : ℕ) → get_or st.places i 0 < 2 ^ 8
  pub time : st.counters.time < 2 ^ 64
  pub counts : (u : ℕ) → get_or st.counters.counts u 0 < 2 ^ 64
  pub allowances : (u : ℕ) → get_or st.counters.allowances u 0 < 2 ^ 32

-- ---- the counters

-- A time at this number can't go on: "Number 36 moves to 18,446,744,073,709,551,615 for each", and "guards time only".
abbrev pub full : ℕ
full = 18446744073709551615

abbrev pub counters_of : ℕ → List ℕ → List ℕ → Counters
counters_of time counts allowances = record { time = time; counts = counts; allowances = allowances }

-- "Up to four users": their number.
abbrev pub users : ℕ
users = 4

-- The choices of user u that were accepted, and how many may be.
unfoldable pub count_of : State → ℕ → ℕ
count_of st u = get_or st.counters.counts u 0

unfoldable pub allowance_of : State → ℕ → ℕ
allowance_of st u = get_or st.counters.allowances u 0

-- ---- the parts of a state, set anew

unfoldable pub with_planes : State → List ℕ → List ℕ → State
with_planes st ns us =
    record {
      value = ns;
      unknown = us;
      pending = st.pending;
      unsure = st.unsure;
      held = st.held;
      places = st.places;
      due = st.due;
      counters = st.counters;
    }

unfoldable pub with_slots : State → List ℕ → List ℕ → List Bool → State
with_slots st ns us hs =
    record {
      value = st.value;
      unknown = st.unknown;
      pending = ns;
      unsure = us;
      held = hs;
      places = st.places;
      due = st.due;
      counters = st.counters;
    }

unfoldable pub with_places : State → List ℕ → State
with_places st ps =
    record {
      value = st.value;
      unknown = st.unknown;
      pending = st.pending;
      unsure = st.unsure;
      held = st.held;
      places = ps;
      due = st.due;
      counters = st.counters;
    }

unfoldable pub with_marks : State → List Bool → State
with_marks st ds =
    record {
      value = st.value;
      unknown = st.unknown;
      pending = st.pending;
      unsure = st.unsure;
      held = st.held;
      places = st.places;
      due = ds;
      counters = st.counters;
    }

unfoldable pub with_counters : State → Counters → State
with_counters st c =
    record {
      value = st.value;
      unknown = st.unknown;
      pending = st.pending;
      unsure = st.unsure;
      held = st.held;
      places = st.places;
      due = st.due;
      counters = c;
    }

-- ---- values, by variable

unfoldable pub value_of : State → ℕ → Value
value_of st v = value_at st.value st.unknown v

unfoldable pub with_value : State → ℕ → Value → State
with_value st v a = with_planes st (set st.value v (number_of a)) (set st.unknown v (marks_of a))

-- ---- pending values, by register

unfoldable pub pending_of : State → ℕ → Option Value
pending_of st r = pick (get_or st.held r false) (some (value_at st.pending st.unsure r)) none

-- "A new pending value for a register replaces the old."
unfoldable pub with_pending : State → ℕ → Value → State
with_pending st r a =
    with_slots st (set st.pending r (number_of a)) (set st.unsure r (marks_of a)) (set st.held r true)

-- The register has no pending value any more; what its slot holds is left as it stands.
unfoldable pub without_pending : State → ℕ → State
without_pending st r = with_slots st st.pending st.unsure (set st.held r false)

-- ---- places, by thread, and marks, by wire

unfoldable pub place_of : State → ℕ → ℕ
place_of st i = get_or st.places i 0

unfoldable pub with_place : State → ℕ → ℕ → State
with_place st i p = with_places st (set st.places i p)

unfoldable pub is_due : State → ℕ → Bool
is_due st k = get_or st.due k false

unfoldable pub with_due : State → ℕ → Bool → State
with_due st k b = with_marks st (set st.due k b)
