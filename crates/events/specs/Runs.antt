-- Demand 2 for the calls on a sheet's bytes: "Each choice the simulator accepts is a step that document 01's simulation cycle
-- allows, with the state that step leaves; each step the cycle allows is accepted until a counter is full." Document 02, [7]: "what can
-- stop a choice in demands 2 and 3 is now its user's used allowance". specs/Steps says what a step is, this page what the calls answer;
-- `Demand2` is the whole claim. proofs/Accepted proves it.
use Rattle.std.specs.Prelude.{ℕ, ◌≤◌, ◌<◌, ◌≡◌, ◌≢◌, ◌↔◌, true, false, List, [], ◌∷◌, length, get_or, take}
use Rattle.sheet.specs.Reading.{ok, no}
use Rattle.sheet.specs.Expression.{Expr}
use Rattle.sheet.specs.Module.{Module, read}
use Rattle.state.specs.declared.State.{State}
use Rattle.state.specs.State.{Shaped, full, users, count_of, allowance_of}
use Rattle.events.specs.declared.Inputs.{Inputs}
use Rattle.events.specs.declared.Ran.{Ran}
use Rattle.events.specs.declared.Verdict.TheVariants.{Quiet, Spent, Stopped, Refused}
use Rattle.events.specs.declared.Rested.{Rested}
use Rattle.events.specs.Verdict.{number_of_verdict}
use Rattle.events.specs.Cycle.{items, enabled, quiet}
use Rattle.events.specs.Calls.{state_fits, refusal, choose, run_list, run_plain, input_of, inputs_fit, instant}
use Rattle.events.specs.Steps.{Step, Instant, Alike}

-- ---- the calls, judged: "1 to 11, 31" refuse a call, on the others the module is read and the state fits it

pub data Refuses (s : List ℕ) (st : State) : ℕ → Type 0 where
  a-sheet : {n p : ℕ} → read s ≡ no n p → Refuses s st n
  a-state : {m : Module Expr} → read s ≡ ok m → state_fits m st ≡ false → Refuses s st 31

pub record Accepts (s : List ℕ) (st : State) (m : Module Expr) : Type 0 where
  pub reads : read s ≡ ok m
  pub fits : state_fits m st ≡ true

-- Runs: "a user above 3 (46) .. for either run's one user, after 31"
pub data RunRefuses (s : List ℕ) (st : State) (u : ℕ) : ℕ → Type 0 where
  a_call : {n : ℕ} → Refuses s st n → RunRefuses s st u n
  a-user : {m : Module Expr} → Accepts s st m → users ≤ u → RunRefuses s st u 46

-- ---- steps of user u one after the other

-- Each from the state that the one before it left.
pub data Chain (m : Module Expr) (u : ℕ) : State → List ℕ → State → Type 0 where
  done : {st : State} → Chain m u st [] st
  after : {old mid new : State} {c : ℕ} {cs : List ℕ} → Step m old mid u c → Chain m u mid cs new → Chain m u old (c ∷ cs) new

-- "takes the lowest enabled item, else the commit"
pub data Plainest (m : Module Expr) (st : State) : ℕ → Type 0 where
  the-lowest : {c : ℕ} → c < items m → enabled m st c ≡ true → ((k : ℕ) → k < c → enabled m st k ≡ false) → Plainest m st c
  the-commit : ((k : ℕ) → k < items m → enabled m st k ≡ false) → Plainest m st 255

-- Steps of which each is the plain run's.
pub data Plainly (m : Module Expr) (u : ℕ) : State → List ℕ → State → Type 0 where
  rests : {st : State} → Plainly m u st [] st
  goes : {old mid new : State} {c : ℕ} {cs : List ℕ} → Plainest m old c → Step m old mid u c → Plainly m u mid cs new →
      Plainly m u old (c ∷ cs) new

-- ---- how a run over a list ends: "at the first refused one"

pub data Over (m : Module Expr) (u : ℕ) (cs : List ℕ) (r : Ran) : Type 0 where
  all-ran : r.number ≡ 0 → r.accepted ≡ length cs → Over m u cs r
  refused : r.accepted < length cs → r.number ≢ 0 → r.number ≡ refusal m r.state u (get_or cs r.accepted 0) → Over m u cs r

-- ---- how the plain run ends

pub data Ended (m : Module Expr) (u n : ℕ) (r : Rested) : Type 0 where
  at_rest : r.verdict ≡ Quiet → quiet m r.state ≡ true → r.accepted ≤ n → Ended m u n r
  spent : r.verdict ≡ Spent → quiet m r.state ≡ false → r.accepted ≡ n → Ended m u n r
  stopped : r.verdict ≡ Stopped 47 → quiet m r.state ≡ false → r.accepted < n → count_of r.state u ≡ allowance_of r.state u →
      Ended m u n r

-- The same, both ways: "It says quiet exactly when the state reached is quiet, spent exactly when N choices ran and it isn't, and
-- otherwise gives 36, met before the Nth": 47 "where 36 stood".
pub record Says (m : Module Expr) (n : ℕ) (r : Rested) : Type 0 where
  pub at-rest-exactly : (r.verdict ≡ Quiet) ↔ (quiet m r.state ≡ true)
  pub spent-exactly : (r.verdict ≡ Spent) ↔ ((r.accepted ≡ n) × (quiet m r.state ≡ false))
  pub stopped-exactly : (r.verdict ≡ Stopped 47) ↔ ((r.accepted < n) × (quiet m r.state ≡ false))
  pub gives-47 : (number_of_verdict r.verdict ≡ 47) ↔ (r.verdict ≡ Stopped 47)

-- ---- what the two runs answer: "Both runs give the number accepted, the state reached and the number that stopped them"

pub data ListRun (s : List ℕ) (st : State) (u : ℕ) (cs : List ℕ) (r : Ran) : Type 0 where
  refused-call : {n : ℕ} → RunRefuses s st u n → r ≡ record { accepted = 0; number = n; state = st } → ListRun s st u cs r
  a-run : {m : Module Expr} → Accepts s st m → u < users → Chain m u st (take r.accepted cs) r.state → Over m u cs r →
      ListRun s st u cs r

-- "Its count is that of the choices accepted, each tied to the state it left"
pub data PlainRun (s : List ℕ) (st : State) (u n : ℕ) (r : Rested) : Type 0 where
  refused-call : {k : ℕ} → RunRefuses s st u k → r ≡ record { accepted = 0; verdict = Refused k; state = st } → PlainRun s st u n r
  a-plain-run : {m : Module Expr} {cs : List ℕ} → Accepts s st m → u < users → Plainly m u st cs r.state → r.accepted ≡ length cs →
      Ended m u n r → Says m n r → PlainRun s st u n r

-- ---- demand 2

-- A state is `Shaped` where its arrays have their lengths, which every state passed by value has.
pub record Demand2 : Type 0 where
  pub accepted-choice : (s : List ℕ) (st : State) (u c : ℕ) → Shaped st → (choose s st u c).number ≡ 0 →
      (m : Module Expr) × Accepts s st m × Step m st (choose s st u c).state u c
  pub allowed-choice : (s : List ℕ) (m : Module Expr) (old new : State) (u c : ℕ) → Accepts s old m → Shaped old → Step m old new u c →
      count_of old u ≢ allowance_of old u → ((choose s old u c).number ≡ 0) × Alike m (choose s old u c).state new
  pub accepted-instant : (s : List ℕ) (st : State) (a : Inputs) → Shaped st → (instant s st a).number ≡ 0 →
      (m : Module Expr) × Accepts s st m × Instant m st (instant s st a).state (input_of a)
  -- The inputs have to be as many and as wide as the sheet's (25).
  pub allowed-instant : (s : List ℕ) (m : Module Expr) (old new : State) (a : Inputs) → Accepts s old m → Shaped old →
      inputs_fit m a ≡ true → Instant m old new (input_of a) → old.counters.time ≢ full →
      ((instant s old a).number ≡ 0) × Alike m (instant s old a).state new
  pub list-run : (s : List ℕ) (st : State) (u : ℕ) (cs : List ℕ) → Shaped st → ListRun s st u cs (run_list s st u cs)
  pub plain-run : (s : List ℕ) (st : State) (u n : ℕ) → Shaped st → PlainRun s st u n (run_plain s st u n)
