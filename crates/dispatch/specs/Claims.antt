-- What document 02's request [8] says of the call, each as one statement. proofs/Claims.antt proves them.
use Rattle.std.specs.Prelude.{ℕ, suc, ◌+◌, ◌<◌, ◌≡◌, Bool, true, false, List, [], ◌∷◌, ◌⊎◌, length, replicate}
use Rattle.dispatch.specs.declared.Record.{Record}
use Rattle.dispatch.specs.declared.Dispatched.{Dispatched}
use Rattle.dispatch.specs.declared.Dispatched.TheVariants.{Picked, Nothing}
use Rattle.dispatch.specs.Dispatch.{idle, record_at, dispatched, records_after, number_of, served_after}
use Rattle.dispatch.specs.Planes.{records_of, dispatched_planes, turns_after}

-- ---- "Unless refused, it answers 'none' exactly when no record is busy."

abbrev pub NoneBusy : List Record → Type 0
NoneBusy rs = (i : ℕ) → i < length rs → (record_at rs i).busy ≡ false

abbrev pub NoneExactly : Type 0
NoneExactly = (rs : List Record) (last : ℕ) → number_of (dispatched rs last) ≡ 0
    → (dispatched rs last ≡ Nothing → NoneBusy rs) × (NoneBusy rs → dispatched rs last ≡ Nothing)

-- ---- "adds one to its turns and leaves the other records be"

pub record PickedOne (rs : List Record) (i : ℕ) : Type 0 where
  pub inside : i < length rs
  pub busy : (record_at rs i).busy ≡ true
  pub room : (record_at rs i).turns ≡ 4294967295 → ⊥
  pub same_length : length (records_after rs (Picked i)) ≡ length rs
  pub turned : record_at (records_after rs (Picked i)) i ≡ record { busy = true; turns = (record_at rs i).turns + 1 }
  pub others : (j : ℕ) → (j ≡ i → ⊥) → record_at (records_after rs (Picked i)) j ≡ record_at rs j

abbrev pub PicksOne : Type 0
PicksOne = (rs : List Record) (last i : ℕ) → dispatched rs last ≡ Picked i → PickedOne rs i

-- A refused call, and one that answers 'none', leaves every record as it was.
abbrev pub LeavesAll : Type 0
LeavesAll = (rs : List Record) (last : ℕ) → ((i : ℕ) → dispatched rs last ≡ Picked i → ⊥) → records_after rs (dispatched rs last) ≡ rs

-- ---- a series of calls: "each call is handed the records in the same order and the number served by the one before". Between the
-- calls the busy flags change as they like; the turns are as the calls leave them.

unfoldable pub flagged : (ℕ → Bool) → ℕ → List Record → List Record
flagged f i [] = []
flagged f i (r ∷ rs) = record { busy = f i; turns = r.turns } ∷ flagged f (suc i) rs

-- The answers of as many calls as there are flags.
unfoldable pub series : List Record → ℕ → List (ℕ → Bool) → List Dispatched
series rs last [] = []
series rs last (f ∷ fs) =
    let now : List Record = flagged f 0 rs in
    let d : Dispatched = dispatched now last in
    d ∷ series (records_after now d) (served_after last d) fs

unfoldable pub AllBusy : ℕ → List (ℕ → Bool) → Type 0
AllBusy m [] = Unit {0}
AllBusy m (f ∷ fs) = (f m ≡ true) × AllBusy m fs

unfoldable pub NoneRefused : List Dispatched → Type 0
NoneRefused [] = Unit {0}
NoneRefused (d ∷ ds) = (number_of d ≡ 0) × NoneRefused ds

unfoldable pub SomePicks : ℕ → List Dispatched → Type 0
SomePicks m [] = ⊥
SomePicks m (d ∷ ds) = (d ≡ Picked m) ⊎ SomePicks m ds

-- "and none is refused, a module that stays busy is picked within as many calls as the list has records"
abbrev pub Fair : Type 0
Fair = (rs : List Record) (last m : ℕ) (fs : List (ℕ → Bool)) → length fs ≡ length rs → m < length rs → AllBusy m fs
    → NoneRefused (series rs last fs) → SomePicks m (series rs last fs)

-- The bound is met: of eight busy modules, number 3 served last, the eighth call is the first that picks number 3.
abbrev pub BoundMet : Type 0
BoundMet = series (replicate 8 idle) 3 (replicate 8 (λ i. true))
    ≡ Picked 4 ∷ Picked 5 ∷ Picked 6 ∷ Picked 7 ∷ Picked 0 ∷ Picked 1 ∷ Picked 2 ∷ Picked 3 ∷ []

-- ---- the two plain lists are the records

pub record SameAsRecords (bs : List Bool) (ts : List ℕ) (last : ℕ) : Type 0 where
  pub answer : dispatched_planes bs ts last ≡ dispatched (records_of bs ts) last
  pub records : records_of bs (turns_after ts (dispatched_planes bs ts last)) ≡ records_after (records_of bs ts) (dispatched (records_of bs ts) last)

abbrev pub Planes : Type 0
Planes = (bs : List Bool) (ts : List ℕ) (last : ℕ) → length bs ≡ length ts → SameAsRecords bs ts last

-- A refused call on them alters nothing.
abbrev pub PlanesKept : Type 0
PlanesKept = (bs : List Bool) (ts : List ℕ) (last : ℕ) → (number_of (dispatched_planes bs ts last) ≡ 0 → ⊥)
    → turns_after ts (dispatched_planes bs ts last) ≡ ts
