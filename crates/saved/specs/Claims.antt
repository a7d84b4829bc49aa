-- What holds of saved states: form 4 is got back, forms 1 to 3 are brought over, other bytes are no state. proofs/Saved and proofs/Over
-- have the proofs.
use Rattle.std.specs.Prelude.{◌≡◌, ◌≢◌, Bool, false, List, ℕ, ◌^◌, ◌≤◌, ◌<◌, length, get_or}
use Rattle.std.proofs.Math.Option.{none, some}
use Rattle.values.specs.declared.Value.{Value}
use Rattle.values.specs.Values.{pick, known, all_unknown}
use Rattle.values.specs.Planes.{value_at}
use Rattle.sheet.specs.Reading.{ok, no}
use Rattle.sheet.specs.Expression.{Expr}
use Rattle.sheet.specs.Module.{Module, read}
use Rattle.state.specs.declared.Counters.{Counters}
use Rattle.state.specs.declared.State.{State}
use Rattle.state.specs.State.{Shaped, Bounded, value_of, place_of, is_due}
use Rattle.saved.specs.declared.Brought.{Brought}
use Rattle.saved.specs.Saved.{saved, Bytes, loaded}
use Rattle.saved.specs.Older.{Older, saved_short, saved_long, saved_users, alone, refused, variable_width, register_width, brought_over}

-- What is saved is loaded, and bytes that are loaded are what is saved.
pub record Inverse : Type 0 where
  pub loads : (st : State) → Shaped st → Bounded st → loaded (saved st) ≡ some st
  pub saves : (b : List ℕ) (st : State) → Bytes b → loaded b ≡ some st → saved st ≡ b

-- Bytes of another length are no state.
abbrev pub NoOther : Type 0
NoOther = (b : List ℕ) → length b ≢ 1025 → loaded b ≡ none

-- ---- bringing over

-- The numbers of an older state have 32 bits, and its counters those of form 3.
pub record Narrow (o : Older) : Type 0 where
  pub value : (v : ℕ) → get_or o.value v 0 < 2 ^ 32
  pub pending : (r : ℕ) → get_or o.pending r 0 < 2 ^ 32

pub record Counted (c : Counters) : Type 0 where
  pub time : c.time < 2 ^ 64
  pub counts : (u : ℕ) → get_or c.counts u 0 < 2 ^ 64
  pub allowances : (u : ℕ) → get_or c.allowances u 0 < 2 ^ 32
  pub four-counts : length c.counts ≡ 4
  pub four-allowances : length c.allowances ≡ 4

-- A number stays; x becomes x in all bits of a width.
unfoldable pub carried_value : ℕ → Bool → ℕ → Value
carried_value w x n = pick x (all_unknown w) (known n)

-- An older state brought over: each value and each pending value, held or not; all else as it was.
pub record Carried (m : Module Expr) (o : Older) (c : Counters) (r : Brought) : Type 0 where
  pub number : r.number ≡ 0
  pub value : (v : ℕ) → v < 80 →
      value_of r.state v ≡ carried_value (variable_width m.scope v) (get_or o.unknown v false) (get_or o.value v 0)
  pub pending : (k : ℕ) → k < 32 →
      value_at r.state.pending r.state.unsure k
      ≡ carried_value (register_width m.scope k) (get_or o.unsure k false) (get_or o.pending k 0)
  pub held : (k : ℕ) → k < 32 → get_or r.state.held k false ≡ get_or o.held k false
  pub place : (i : ℕ) → i < 8 → place_of r.state i ≡ get_or o.places i 0
  pub due : (k : ℕ) → k < 32 → is_due r.state k ≡ get_or o.due k false
  pub counters : r.state.counters ≡ c

-- Document 02, [7]: "A state saved with one count is brought over with that count as user 0's, 0 for the others, and allowances handed to
-- the call; one above user 0's allowance is 31." Form 3 "keeps its own counts and allowances".
module _ (s : List ℕ) (m : Module Expr) (o : Older) (allowances : List ℕ) where
  pub record CarriesOver : Type 0 where
    pub short : (time count : ℕ) → time < 2 ^ 32 → count < 2 ^ 32 → count ≤ get_or allowances 0 0 →
        Carried m o (alone time count allowances) (brought_over s (saved_short o time count) allowances)
    pub long : (time count : ℕ) → time < 2 ^ 64 → count < 2 ^ 64 → count ≤ get_or allowances 0 0 →
        Carried m o (alone time count allowances) (brought_over s (saved_long o time count) allowances)
    pub users : (c : Counters) → Counted c → Carried m o c (brought_over s (saved_users o c) allowances)
    pub short-above : (time count : ℕ) → time < 2 ^ 32 → count < 2 ^ 32 → get_or allowances 0 0 < count →
        brought_over s (saved_short o time count) allowances ≡ refused 31
    pub long-above : (time count : ℕ) → time < 2 ^ 64 → count < 2 ^ 64 → get_or allowances 0 0 < count →
        brought_over s (saved_long o time count) allowances ≡ refused 31

pub record BroughtOver : Type 0 where
  pub carries : (s : List ℕ) (m : Module Expr) → read s ≡ ok m → (o : Older) → Narrow o → (allowances : List ℕ) →
      CarriesOver s m o allowances
  -- A state of form 4 is taken as it is.
  pub kept : (s : List ℕ) (m : Module Expr) → read s ≡ ok m → (st : State) → Shaped st → Bounded st → (allowances : List ℕ) →
      brought_over s (saved st) allowances ≡ record { number = 0; state = st }
  -- Bytes that are no saved state.
  pub no_other : (s : List ℕ) (m : Module Expr) → read s ≡ ok m → (b allowances : List ℕ) →
      length b ≢ 641 → length b ≢ 649 → length b ≢ 689 → length b ≢ 1025 → brought_over s b allowances ≡ refused 31
  -- The sheet's number comes first.
  pub no-sheet : (s : List ℕ) (n p : ℕ) → read s ≡ no n p → (b allowances : List ℕ) → brought_over s b allowances ≡ refused n
