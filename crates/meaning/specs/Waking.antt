-- The thread as written, from wait to wait (document 02, [10]): "goes from its start or any wait to its next wait". What a thread has to
-- do, what it waits for and what it does then are statements; its places stand behind `Doing` and `Waiting`. proofs/Waking proves it.
use Rattle.std.specs.Prelude.{ℕ, ◌*◌, ◌≤◌, ◌<◌, ◌≡◌, true, false, List, length}
use Rattle.values.specs.declared.Value.{Value}
use Rattle.sheet.specs.declared.EdgeTerm.{EdgeTerm}
use Rattle.sheet.specs.Reading.{ok}
use Rattle.sheet.specs.Expression.{Expr}
use Rattle.sheet.specs.Statement.{Stmt}
use Rattle.sheet.specs.Module.{Module, read}
use Rattle.pseudocode.specs.Translation.{wait! }
use Rattle.state.specs.declared.State.{State}
use Rattle.state.specs.State.{Shaped, users, value_of, place_of}
use Rattle.events.specs.Cycle.{code_of, current, terms_fire}
use Rattle.events.specs.Calls.{state_fits}
use Rattle.events.specs.Steps.{Acts, Instant}
use Rattle.nextstate.specs.Rules.{loops_wait, runs_away}
use Rattle.meaning.specs.Meaning.{Write, stops, meaning}
use Rattle.meaning.specs.Thread.{behind, writes_of, Lasts, whole, Stands, alone, Along}

module _ (m : Module Expr) (i : ℕ) where
  -- ---- what the thread is at

  -- It has this to do.
  abbrev pub Doing : State → Stmt Expr → Type 0
  Doing st what = Stands m i (place_of st i) what

  -- It waits for one of these edges, and has the rest to do then.
  pub record Waiting (st : State) (ts : List EdgeTerm) (rest : Stmt Expr) : Type 0 where
    pub wait : current m st i ≡ wait! ts
    pub remains : rest ≡ behind (whole m i) (place_of st i)

  -- ---- at a wait: "Each change of values then fires the waits"

  -- One of its edges has come, and it has the rest to do; or none has, and it waits as before.
  pub data Woken (old new : State) (ts : List EdgeTerm) (rest : Stmt Expr) : Type 0 where
    goes_on : terms_fire ts (value_of old) (value_of new) ≡ true → Doing new rest → Woken old new ts rest
    waits-on : terms_fire ts (value_of old) (value_of new) ≡ false → Waiting new ts rest → Woken old new ts rest

module _ (s : List ℕ) (m : Module Expr) (i : ℕ) where
  -- ---- "run alone while the allowance lasts", by user u

  -- The course of what it has to do: these writes, and then it waits. It takes them in this order, choice by choice.
  pub record Leg (u : ℕ) (st : State) (what : Stmt Expr) : Type 0 where
    pub writes : List Write
    pub terms : List EdgeTerm
    pub rest : Stmt Expr
    pub means : meaning what (value_of st) ≡ stops writes terms rest
    pub count : ℕ
    pub most : count ≤ 2 * length (code_of m i)
    pub along : (k : ℕ) → k ≤ count → Lasts u k st → Along s m u i st writes k
    pub wrote : Lasts u count st → writes_of m u i count st ≡ writes
    pub waits : Lasts u count st → Waiting m i (alone s m u i count st).state terms rest

  -- ---- from its start on

  pub record WaitToWait : Type 0 where
    -- "At the start .. places .. 0": it has its statement to do, over and over.
    pub begins : (st : State) → place_of st i ≡ 0 → Doing m i st (whole m i)
    pub goes : (u : ℕ) → u < users → (st : State) → Shaped st → state_fits m st ≡ true → (what : Stmt Expr) → Doing m i st what →
        Leg u st what
    -- Whatever is chosen and whatever the instant sets: a thread at a wait isn't run, and its wait fires or doesn't.
    pub by-choice : (old new : State) (c : ℕ) → Acts m old new c → (ts : List EdgeTerm) (rest : Stmt Expr) → Waiting m i old ts rest →
        Woken m i old new ts rest
    pub by-instant : (old new : State) (a : ℕ → Value) → Instant m old new a → (ts : List EdgeTerm) (rest : Stmt Expr) →
        Waiting m i old ts rest → Woken m i old new ts rest

-- ---- the claims

-- Of a thread that meets rule 17, whatever the others do.
abbrev pub FromWaitToWait : Type 0
FromWaitToWait =
    (s : List ℕ) (m : Module Expr) → read s ≡ ok m → (i : ℕ) → i < length m.threads → loops_wait (whole m i) ≡ true →
    WaitToWait s m i

-- "a thread of any sheet that is read and meets rule 17"
abbrev pub OfASheet : Type 0
OfASheet =
    (s : List ℕ) (m : Module Expr) → read s ≡ ok m → runs_away m ≡ false → (i : ℕ) → i < length m.threads → WaitToWait s m i
