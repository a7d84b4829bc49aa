-- What the core gives for the first eight records of n: the answer, and the one store that it asks for.
use Rattle.std.specs.Prelude.{ℕ, ◌+◌, List, [], ◌∷◌}
use Rattle.dispatch.specs.declared.Record.{Record}
use Rattle.dispatch.specs.declared.Dispatched.{Dispatched}
use Rattle.dispatch.specs.declared.Dispatched.TheVariants.{Picked, Nothing, Refused}
use Rattle.dispatch.specs.declared.Turn.{Turn}
use Rattle.dispatch.specs.Dispatch.{record_at, dispatched_among}

-- The first eight records; idle ones past the list.
unfoldable pub first_eight : List Record → List Record
first_eight rs =
    record_at rs 0 ∷ record_at rs 1 ∷ record_at rs 2 ∷ record_at rs 3 ∷ record_at rs 4 ∷ record_at rs 5 ∷ record_at rs 6 ∷ record_at rs 7 ∷ []

-- Where turns are stored, and how many: at the record picked one more; otherwise past the list, which has n records.
unfoldable pub turn_of : List Record → ℕ → Dispatched → Turn
turn_of rs n (Picked i) = record { answer = Picked i; at = i; turns = (record_at rs i).turns + 1 }
turn_of rs n Nothing = record { answer = Nothing; at = n; turns = 0 }
turn_of rs n (Refused k) = record { answer = Refused k; at = n; turns = 0 }

unfoldable pub turn_among : List Record → ℕ → ℕ → Turn
turn_among rs n last = turn_of rs n (dispatched_among rs n last)
