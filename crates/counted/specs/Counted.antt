-- The plain run's wire stores, counted on a plan (document 02, [9]: "Setters plan desk runs by wire stores"). Defined for plans of any
-- contents; proofs/Claims says what they are on a plan that holds a module.
use Rattle.std.specs.Prelude.{ℕ, zero, suc, ◌+◌, ◌-◌, Bool, false, ◌||◌, ◌&&◌, get_or, ltb, eqb}
use Rattle.values.specs.Values.{pick}
use Rattle.state.specs.declared.State.{State}
use Rattle.state.specs.State.{users, value_of}
use Rattle.events.specs.Cycle.{changed}
use Rattle.nextstate.specs.Rules.{one}
use Rattle.plan.specs.Plan.{Plan}
use Rattle.plan_engine.specs.Live.{Live}
use Rattle.plan_engine.specs.Taking.{Taken, take_choice}
use Rattle.plan_engine.specs.Running.{plain_choice}
use Rattle.plan_state.specs.Packing.{unpacked, packed}
use Rattle.plan_fitting.specs.Fitting.{plan_fits}
use Rattle.prepared.specs.Prepared.{room_in, raised}
use Rattle.counted.specs.declared.Worked.{Worked}

-- ---- a stretch: the choices accepted, how many of them stored a wire, the number that stopped it, and what it leaves

pub record Stretch : Type 0 where
  pub accepted : ℕ
  pub stores : ℕ
  pub number : ℕ
  pub left : Live

abbrev pub stretch : ℕ → ℕ → ℕ → Live → Stretch
stretch a s n l = record { accepted = a; stores = s; number = n; left = l }

-- Items are threads, then wires.
unfoldable pub stores_at : Plan → ℕ → ℕ
stores_at q c = pick (ltb c q.threads) 0 1

-- Choice c was taken, and then the rest.
unfoldable pub following : Plan → ℕ → Taken → Stretch → Stretch
following q c t rest =
    pick (eqb t.number 0) (stretch (rest.accepted + 1) (rest.stores + stores_at q c) rest.number rest.left)
    (stretch 0 0 t.number t.left)

-- "a plain run long enough to reach quiet or the next commit": at most n choices, as long as an item is enabled.
unfoldable pub up_to : Plan → ℕ → ℕ → Live → Stretch
up_to q zero room l = stretch 0 0 0 l
up_to q (suc n) room l =
    let c = plain_choice q l in
    let t = take_choice q room c l in
    pick (ltb c 255) (following q c t (up_to q n (room - 1) t.left)) (stretch 0 0 0 l)

-- ---- work: of a user, from a state

abbrev pub worked : ℕ → ℕ → ℕ → State → Worked
worked a s n st = record { accepted = a; stores = s; number = n; state = st }

unfoldable pub work_at : Plan → State → ℕ → ℕ → Worked
work_at q st u n =
    let t = up_to q n (room_in st.counters u) (unpacked q st) in
    pick (plan_fits q st)
    (pick (ltb u users)
    (worked t.accepted t.stores t.number (packed t.left (raised t.accepted u st.counters)))
    (worked 0 0 46 st))
    (worked 0 0 31 st)

-- ---- "those wires that read a variable whose value changed", from a state to another

-- Does wire k read variable v, and has it changed?
unfoldable pub reads_at : Plan → State → State → ℕ → ℕ → Bool
reads_at q a b k v = get_or (q.readers v) k false && changed (value_of a) (value_of b) v

-- Does it read one of the first n variables that has changed?
unfoldable pub reads_changed : Plan → State → State → ℕ → ℕ → Bool
reads_changed q a b k zero = false
reads_changed q a b k (suc v) = reads_changed q a b k v || reads_at q a b k v

-- How many of the first n wires do.
unfoldable pub readers_at : Plan → State → State → ℕ → ℕ
readers_at q a b zero = 0
readers_at q a b (suc k) = readers_at q a b k + one (reads_changed q a b k 80)
