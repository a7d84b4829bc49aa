-- The dispatcher (document 02, request [8]): "Up to eight modules are run side by side. Their turn records stand in a lent list:
-- busy or not, and turns given."
use Rattle.std.specs.Prelude.{ℕ, zero, suc, ◌+◌, ◌-◌, false, ◌||◌, List, length, get_or, set, ltb, leb, eqb, Option, Some, None}
use Rattle.values.specs.Values.{pick}
use Rattle.dispatch.specs.declared.Record.{Record}
use Rattle.dispatch.specs.declared.Dispatched.{Dispatched}
use Rattle.dispatch.specs.declared.Dispatched.TheVariants.{Picked, Nothing, Refused}

-- ---- the record at a number; past the list there is none busy

abbrev pub idle : Record
idle = record { busy = false; turns = 0 }

abbrev pub record_at : List Record → ℕ → Record
record_at rs i = get_or rs i idle

-- ---- the circle: "the next busy one in the circle after the last served"

-- The first busy one of n numbers, from i up.
unfoldable pub first_busy : List Record → ℕ → ℕ → Option ℕ
first_busy rs i zero = None
first_busy rs i (suc n) = pick (record_at rs i).busy (Some i) (first_busy rs (suc i) n)

unfoldable pub or_else : Option ℕ → Option ℕ → Option ℕ
or_else (Some i) f = Some i
or_else None f = f

-- Of n records: those behind the last served, then those up to it, that one itself last.
unfoldable pub next : List Record → ℕ → ℕ → Option ℕ
next rs n last = or_else (first_busy rs (last + 1) (n - (last + 1))) (first_busy rs 0 (last + 1))

-- ---- the answer

-- "it answers 'none' exactly when no record is busy. Turns have 32 bits; a pick whose record is full gets 36"
unfoldable pub answer_at : List Record → Option ℕ → Dispatched
answer_at rs None = Nothing
answer_at rs (Some i) = pick (eqb (record_at rs i).turns 4294967295) (Refused 36) (Picked i)

-- "It refuses a list of length 0 or above 8 (48) and then a last-served number outside the list (49)."
unfoldable pub dispatched_among : List Record → ℕ → ℕ → Dispatched
dispatched_among rs n last =
    pick (eqb n 0 || ltb 8 n) (Refused 48)
    (pick (leb n last) (Refused 49)
    (answer_at rs (next rs n last)))

unfoldable pub dispatched : List Record → ℕ → Dispatched
dispatched rs last = dispatched_among rs (length rs) last

-- ---- the records after the call

-- Record i with so many turns, the others as they were; past the list nothing.
unfoldable pub given : List Record → ℕ → ℕ → List Record
given rs i t = set rs i (record { busy = (record_at rs i).busy; turns = t })

-- "adds one to its turns and leaves the other records be"; 'none' and a refusal leave them all.
unfoldable pub records_after : List Record → Dispatched → List Record
records_after rs (Picked i) = given rs i ((record_at rs i).turns + 1)
records_after rs Nothing = rs
records_after rs (Refused k) = rs

-- ---- an answer's number in the paper, 0 where there is none, and its value: the number picked, 255 where none is

abbrev pub number_of : Dispatched → ℕ
number_of (Picked i) = 0
number_of Nothing = 0
number_of (Refused k) = k

abbrev pub picked_of : Dispatched → ℕ
picked_of (Picked i) = i
picked_of Nothing = 255
picked_of (Refused k) = 255

-- ---- the number served, for the next call: at 'none' it stays

unfoldable pub served_after : ℕ → Dispatched → ℕ
served_after last (Picked i) = i
served_after last Nothing = last
served_after last (Refused k) = last
