-- What a step of the simulation cycle is (document 01, "The simulation cycle"), written from its sentences and through the
-- state's accessors alone, without the functions that compute the state left: a reviewer holds this page against the paper.
-- What it shares with specs/Cycle are three tests, `enabled`, `quiet` and `wait_fires`, which specs/Tests has as relations, and the
-- names of the module's parts: `current`, `wire_expr`, `wire_variable`, `items`.
-- proofs/Steps shows that the accepted choices and instants are these steps, and no others.
use Rattle.std.specs.Prelude.{ℕ, ◌+◌, ◌-◌, ◌≤◌, ◌<◌, ◌≡◌, ◌≢◌, Bool, true, false, not, ◌&&◌, length, eqb}
use Rattle.std.proofs.Math.Option.{Option, none, some}
use Rattle.values.specs.declared.Value.{Value}
use Rattle.values.specs.Values.{holds}
use Rattle.sheet.specs.Expression.{Expr}
use Rattle.sheet.specs.Module.{Module}
use Rattle.evaluation.specs.Evaluation.{eval, reads}
use Rattle.pseudocode.specs.Translation.{set!, later!, go, ifnot}
use Rattle.state.specs.declared.State.{State}
use Rattle.state.specs.State.{users, count_of, allowance_of, value_of, pending_of, place_of, is_due}
use Rattle.events.specs.Cycle.{current, wire_expr, wire_variable, items, enabled, quiet, wait_fires}

-- A pending value, or else the value held.
unfoldable pub latest : Option Value → Value → Value
latest none a = a
latest (some b) a = b

module _ (m : Module Expr) (old new : State) where
  -- ---- what stays

  -- Every variable but those named keeps its value.
  abbrev pub OtherValues : (ℕ → Type 0) → Type 0
  OtherValues named = (v : ℕ) → (named v → ⊥) → value_of new v ≡ value_of old v

  -- Every register but those named keeps its pending value, or has none as before.
  abbrev pub OtherPending : (ℕ → Type 0) → Type 0
  OtherPending named = (r : ℕ) → (named r → ⊥) → pending_of new r ≡ pending_of old r

  abbrev pub SamePending : Type 0
  SamePending = (r : ℕ) → pending_of new r ≡ pending_of old r

  -- Nothing but thread i's place and the pending values may differ.
  pub record Calm (i : ℕ) : Type 0 where
    pub values : (v : ℕ) → value_of new v ≡ value_of old v
    pub places : (j : ℕ) → j ≢ i → place_of new j ≡ place_of old j
    pub marks : (k : ℕ) → is_due new k ≡ is_due old k

  -- ---- what follows a change of values: "fires the waits and marks the wires that read a changed variable"

  -- A thread at a wait that fires goes on, every other stays.
  pub data Fired (j : ℕ) : Type 0 where
    goes_on : wait_fires (current m old j) (value_of old) (value_of new) ≡ true → place_of new j ≡ place_of old j + 1 → Fired j
    stays : wait_fires (current m old j) (value_of old) (value_of new) ≡ false → place_of new j ≡ place_of old j → Fired j

  -- A wire is due if it was, or if it reads a variable whose value differs; and not otherwise.
  pub data Marked (was : Bool) (k : ℕ) : Type 0 where
    was-due : was ≡ true → is_due new k ≡ true → Marked was k
    reads-changed : (v : ℕ) → reads (wire_expr m k) v ≡ true → value_of new v ≢ value_of old v → is_due new k ≡ true → Marked was k
    not-due : was ≡ false → ((v : ℕ) → reads (wire_expr m k) v ≡ true → value_of new v ≡ value_of old v) → is_due new k ≡ false →
        Marked was k

  -- For every thread but those left out, and every wire.
  pub record Reacted (out : ℕ → Type 0) (was : ℕ → Bool) : Type 0 where
    pub threads : (j : ℕ) → (out j → ⊥) → Fired j
    pub wires : (k : ℕ) → Marked (was k) k

-- ---- the steps

module _ (m : Module Expr) (old new : State) where
  abbrev none-left-out : ℕ → Type 0
  none-left-out j = ⊥

  -- The step of choice c.
  pub data Acts : ℕ → Type 0 where
    -- "One choice runs one instruction of a thread": an assignment. IEEE 1364: the thread isn't fired by it.
    assigns : {i t : ℕ} {e : Expr} → i < length m.threads → current m old i ≡ set! t e →
        value_of new t ≡ eval (value_of old) e → OtherValues m old new (λ v. v ≡ t) →
        place_of new i ≡ place_of old i + 1 → Reacted m old new (λ j. j ≡ i) (is_due old) → SamePending m old new → Acts i
    -- "A new pending value for a register replaces the old."
    defers : {i t : ℕ} {e : Expr} → i < length m.threads → current m old i ≡ later! t e →
        pending_of new (t - m.scope.inputs) ≡ some (eval (value_of old) e) → OtherPending m old new (λ r. r ≡ t - m.scope.inputs) →
        place_of new i ≡ place_of old i + 1 → Calm m old new i → Acts i
    jumps : {i g : ℕ} → i < length m.threads → current m old i ≡ go g →
        place_of new i ≡ g → Calm m old new i → SamePending m old new → Acts i
    -- "A condition holds if known and not zero": the thread goes on, else to the goal.
    goes_in : {i g : ℕ} {e : Expr} → i < length m.threads → current m old i ≡ ifnot e g → holds (eval (value_of old) e) ≡ true →
        place_of new i ≡ place_of old i + 1 → Calm m old new i → SamePending m old new → Acts i
    passes-by : {i g : ℕ} {e : Expr} → i < length m.threads → current m old i ≡ ifnot e g → holds (eval (value_of old) e) ≡ false →
        place_of new i ≡ g → Calm m old new i → SamePending m old new → Acts i
    -- "or one due wire (mark cleared, expression stored)"
    settles : {k : ℕ} → k < length m.wires → is_due old k ≡ true →
        value_of new (wire_variable m k) ≡ eval (value_of old) (wire_expr m k) → OtherValues m old new (λ v. v ≡ wire_variable m k) →
        Reacted m old new none-left-out (λ j. is_due old j && not (eqb j k)) → SamePending m old new → Acts (length m.threads + k)
    -- "or, as byte 255, commits all pending later assignments together as one change", where nothing is enabled and something is
    -- pending
    commits : ((c : ℕ) → c < items m → enabled m old c ≡ false) → (q : ℕ) → q < m.scope.registers → pending_of old q ≢ none →
        ((r : ℕ) → r < m.scope.registers →
        value_of new (m.scope.inputs + r) ≡ latest (pending_of old r) (value_of old (m.scope.inputs + r))) →
        OtherValues m old new (λ v. (m.scope.inputs ≤ v) × (v < m.scope.inputs + m.scope.registers)) →
        ((r : ℕ) → r < m.scope.registers → pending_of new r ≡ none) → OtherPending m old new (λ r. r < m.scope.registers) →
        Reacted m old new none-left-out (is_due old) → Acts 255

  -- "Each has an allowance of choices fixed at the start".
  abbrev pub SameAllowances : Type 0
  SameAllowances = (v : ℕ) → allowance_of new v ≡ allowance_of old v

  -- A choice's step: what it does; it "names its user, 0 to 3, and is counted for that user alone".
  pub record Step (u c : ℕ) : Type 0 where
    pub acts : Acts c
    pub user : u < users
    pub time : new.counters.time ≡ old.counters.time
    pub count : count_of new u ≡ count_of old u + 1
    pub other-counts : (v : ℕ) → v ≢ u → count_of new v ≡ count_of old v
    pub allowances : SameAllowances

  -- "An instant needs quiet, sets all inputs (x allowed) as one change, adds 1 to time."
  pub record Instant (a : ℕ → Value) : Type 0 where
    pub rest : quiet m old ≡ true
    pub inputs : (v : ℕ) → v < m.scope.inputs → value_of new v ≡ a v
    pub others : OtherValues m old new (λ v. v < m.scope.inputs)
    pub reacted : Reacted m old new none-left-out (is_due old)
    pub pending : SamePending m old new
    pub time : new.counters.time ≡ old.counters.time + 1
    pub counts : (v : ℕ) → count_of new v ≡ count_of old v
    pub allowances : SameAllowances

  -- Two states that no accessor tells apart.
  pub record Alike : Type 0 where
    pub values : (v : ℕ) → value_of new v ≡ value_of old v
    pub pending : SamePending m old new
    pub places : (i : ℕ) → place_of new i ≡ place_of old i
    pub marks : (k : ℕ) → is_due new k ≡ is_due old k
    pub time : new.counters.time ≡ old.counters.time
    pub counts : (v : ℕ) → count_of new v ≡ count_of old v
    pub allowances : SameAllowances
