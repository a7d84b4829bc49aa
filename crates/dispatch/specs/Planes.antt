-- The same call on two plain lists, the flags and the turns, as other languages hand them over.
use Rattle.std.specs.Prelude.{ℕ, ◌+◌, Bool, List, [], ◌∷◌, length, get_or, set, eqb}
use Rattle.values.specs.Values.{pick}
use Rattle.dispatch.specs.declared.Record.{Record}
use Rattle.dispatch.specs.declared.Dispatched.{Dispatched}
use Rattle.dispatch.specs.declared.Dispatched.TheVariants.{Picked, Nothing, Refused}
use Rattle.dispatch.specs.Dispatch.{dispatched}

-- The records that a flag and a number of turns each make.
unfoldable pub records_of : List Bool → List ℕ → List Record
records_of [] ts = []
records_of (b ∷ bs) [] = []
records_of (b ∷ bs) (t ∷ ts) = record { busy = b; turns = t } ∷ records_of bs ts

-- Flags and turns of different numbers are no list of records: 48.
unfoldable pub dispatched_planes : List Bool → List ℕ → ℕ → Dispatched
dispatched_planes bs ts last = pick (eqb (length bs) (length ts)) (dispatched (records_of bs ts) last) (Refused 48)

-- The turns after the call: one more for the record picked.
unfoldable pub turns_after : List ℕ → Dispatched → List ℕ
turns_after ts (Picked i) = set ts i (get_or ts i 0 + 1)
turns_after ts Nothing = ts
turns_after ts (Refused k) = ts
