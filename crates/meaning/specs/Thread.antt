-- The thread as written (document 02, [10]), the claim: "a thread of any sheet that is read and meets rule 17, run alone while the
-- allowance lasts, goes from its start or any wait to its next wait with the same stores and pending values in the same order as
-- that meaning". proofs/Thread proves it.
use Rattle.std.specs.Prelude.{ℕ, zero, suc, ◌+◌, ◌*◌, ◌-◌, ◌≤◌, ◌<◌, ◌≡◌, true, List, [], ◌∷◌, ◌++◌, length, replicate, ltb}
use Rattle.std.proofs.Math.Option.{Option, none, some}
use Rattle.values.specs.declared.Value.{Value}
use Rattle.values.specs.Values.{pick}
use Rattle.sheet.specs.declared.EdgeTerm.{EdgeTerm}
use Rattle.sheet.specs.Reading.{ok}
use Rattle.sheet.specs.Expression.{Expr}
use Rattle.sheet.specs.Statement.{Stmt, empty, assign, later, sequence, if_then, if_else, while, forever, wait, size}
use Rattle.sheet.specs.Module.{Module, read}
use Rattle.pseudocode.specs.Translation.{Instr, wait!, set!, later!, go, ifnot}
use Rattle.state.specs.declared.State.{State}
use Rattle.state.specs.State.{Shaped, users, count_of, allowance_of, value_of, pending_of, place_of}
use Rattle.events.specs.declared.Ran.{Ran}
use Rattle.events.specs.Cycle.{code_of, instr_at, current, is_wait}
use Rattle.events.specs.Calls.{state_fits, choose_in, choose, run_list}
use Rattle.nextstate.specs.Rules.{body_of, loops_wait}
use Rattle.threads.specs.Alone.{put_pending}
use Rattle.meaning.specs.Meaning.{Write, stored, deferred, values_after, stops, meaning}

-- ---- places and statements

-- What remains to do of a statement behind its wait at place p, places counted from the statement's first.
unfoldable pub behind : Stmt Expr → ℕ → Stmt Expr
behind empty p = empty
behind (assign t e) p = empty
behind (later t e) p = empty
behind (sequence a b) p = pick (ltb p (size a)) (sequence (behind a p) b) (behind b (p - size a))
behind (if_then e a) p = behind a (p - 1)
behind (if_else e a b) p = pick (ltb p (1 + size a)) (behind a (p - 1)) (behind b (p - (2 + size a)))
behind (while e a) p = sequence (behind a (p - 1)) (while e a)
behind (forever a) p = sequence (behind a p) (forever a)
behind (wait ts) p = empty

-- ---- what a run of choices has written

-- The pending value that is held for a variable, if any.
unfoldable pub held : ℕ → Option Value → List Write
held t none = []
held t (some a) = deferred t a ∷ []

module _ (m : Module Expr) where
  -- The pending values after some writes: "A new pending value for a register replaces the old."
  unfoldable pub pending_after : (ℕ → Option Value) → List Write → ℕ → Option Value
  pending_after o [] = o
  pending_after o (stored t a ∷ ws) = pending_after o ws
  pending_after o (deferred t a ∷ ws) = pending_after (put_pending o (t - m.scope.inputs) a) ws

  -- What an instruction has written, as the state after it shows.
  unfoldable pub shown : Instr Expr → State → List Write
  shown (wait! ts) new = []
  shown (set! t e) new = stored t (value_of new t) ∷ []
  shown (later! t e) new = held t (pending_of new (t - m.scope.inputs))
  shown (go g) new = []
  shown (ifnot e g) new = []

  -- The writes of k choices of thread i by user u, one after the other.
  unfoldable pub writes_of : ℕ → ℕ → ℕ → State → List Write
  writes_of u i zero st = []
  writes_of u i (suc k) st = shown (current m st i) (choose_in m st u i).state ++ writes_of u i k (choose_in m st u i).state

-- ---- "while the allowance lasts": user u has room for k choices more

abbrev pub Lasts : ℕ → ℕ → State → Type 0
Lasts u k st = count_of st u + k ≤ allowance_of st u

-- ---- where a thread can stand, and what it has to do there: "from its start or any wait"

module _ (m : Module Expr) (i : ℕ) where
  -- "A thread is a forever of its statement."
  abbrev pub whole : Stmt Expr
  whole = forever (body_of m i)

  pub data Stands : ℕ → Stmt Expr → Type 0 where
    at-start : Stands 0 whole
    behind-wait : (p : ℕ) → is_wait (instr_at (code_of m i) p) ≡ true → Stands (p + 1) (behind whole p)

-- ---- a thread run alone by user u

module _ (s : List ℕ) (m : Module Expr) (u i : ℕ) where
  -- "run alone": k choices of the thread by one user, and of nothing else.
  abbrev pub alone : ℕ → State → Ran
  alone k st = run_list s st u (replicate k i)

  -- All k choices are accepted. Values and pending values are those before with the writes made so far, which are the first of ws.
  pub record Along (st : State) (ws : List Write) (k : ℕ) : Type 0 where
    pub accepted : (alone k st).accepted ≡ k
    pub number : (alone k st).number ≡ 0
    pub still : List Write
    pub writes : ws ≡ writes_of m u i k st ++ still
    pub values : (v : ℕ) → value_of (alone k st).state v ≡ values_after (value_of st) (writes_of m u i k st) v
    pub pending : (r : ℕ) → pending_of (alone k st).state r ≡ pending_after m (pending_of st) (writes_of m u i k st) r

  -- The thread has come to the wait at place q: it has written all of ws, and a choice more is refused.
  pub record Arrived (st : State) (ws : List Write) (q k : ℕ) : Type 0 where
    pub writes : writes_of m u i k st ≡ ws
    pub place : place_of (alone k st).state i ≡ q
    pub waits : (choose s (alone k st).state u i).number ≡ 33

  -- With `what` to do, the thread goes to its next wait as `what` means.
  pub record Goes (st : State) (what : Stmt Expr) : Type 0 where
    pub writes : List Write
    pub terms : List EdgeTerm
    pub place : ℕ
    pub wait : instr_at (code_of m i) place ≡ wait! terms
    -- "stops at a wait with what remains to do": that is what remains behind the wait at that place.
    pub means : meaning what (value_of st) ≡ stops writes terms (behind (whole m i) place)
    -- As long as the allowance lasts it comes nearer by each choice, and there in so many.
    pub count : ℕ
    pub most : count ≤ 2 * length (code_of m i)
    pub along : (k : ℕ) → k ≤ count → Lasts u k st → Along st writes k
    pub arrives : Lasts u count st → Arrived st writes place count

-- ---- the claim. The thread "meets rule 17": all its loop bodies surely wait, its own included.

abbrev pub AsWritten : Type 0
AsWritten =
    (s : List ℕ) (m : Module Expr) → read s ≡ ok m → (u : ℕ) → u < users → (i : ℕ) → i < length m.threads →
    loops_wait (whole m i) ≡ true → (st : State) → Shaped st → state_fits m st ≡ true → (what : Stmt Expr) →
    Stands m i (place_of st i) what → Goes s m u i st what
