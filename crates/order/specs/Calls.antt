-- Lists of calls (document 01: "Demand 3 is one claim about the list, not one for each call. All calls have one sheet"), each handed
-- the state that the last gave back, and what is accepted along the way. The calls are those that the public contracts cite.
use Rattle.std.specs.Prelude.{ℕ, ◌+◌, ◌<◌, ◌≡◌, Bool, false, List, [], ◌∷◌, eqb}
use Rattle.std.proofs.Math.Option.{Option, none, some}
use Rattle.values.specs.Values.{pick, known}
use Rattle.state.specs.declared.State.{State}
use Rattle.events.specs.declared.Inputs.{Inputs}
use Rattle.events.specs.declared.Chosen.{Chosen}
use Rattle.events.specs.declared.Ran.{Ran}
use Rattle.events.specs.declared.Rested.{Rested}
use Rattle.events.specs.Calls.{choose, run_list, run_plain, input_of, instant}

-- "every list of choices, runs and instants". "Each accepted choice names its user", and either run has one user.
pub data Call : Type 0 where
  a-choice : ℕ → ℕ → Call
  a-run : ℕ → List ℕ → Call
  a-plain-run : ℕ → ℕ → Call
  an-instant : Inputs → Call

-- What came of a call: the state that it gave back, how many choices it accepted, and the inputs of an accepted instant.
pub record Outcome : Type 0 where
  pub state : State
  pub accepted : ℕ
  pub fed : Option Inputs

unfoldable pub chosen : Chosen → Outcome
chosen r = record { state = r.state; accepted = pick (eqb r.number 0) 1 0; fed = none }

unfoldable pub ran : Ran → Outcome
ran r = record { state = r.state; accepted = r.accepted; fed = none }

unfoldable pub rested : Rested → Outcome
rested r = record { state = r.state; accepted = r.accepted; fed = none }

unfoldable pub instanced : Inputs → Chosen → Outcome
instanced a r = record { state = r.state; accepted = 0; fed = pick (eqb r.number 0) (some a) none }

-- Is it a call of user u?
unfoldable pub is_by : ℕ → Call → Bool
is_by u (a-choice v c) = eqb v u
is_by u (a-run v cs) = eqb v u
is_by u (a-plain-run v n) = eqb v u
is_by u (an-instant a) = false

module _ (s : List ℕ) where
  unfoldable pub called : State → Call → Outcome
  called st (a-choice u c) = chosen (choose s st u c)
  called st (a-run u cs) = ran (run_list s st u cs)
  called st (a-plain-run u n) = rested (run_plain s st u n)
  called st (an-instant a) = instanced a (instant s st a)

  -- ---- the list, from a state on: "refused ones included, each handed the state that the last gave back"

  -- Where it ends.
  unfoldable pub final : List Call → State → State
  final [] st = st
  final (k ∷ ks) st = final ks (called st k).state

  -- How many choices were accepted, "those in runs too".
  unfoldable pub choices : List Call → State → ℕ
  choices [] st = 0
  choices (k ∷ ks) st = (called st k).accepted + choices ks (called st k).state

  -- How many of user u.
  unfoldable pub choices_of : ℕ → List Call → State → ℕ
  choices_of u [] st = 0
  choices_of u (k ∷ ks) st = pick (is_by u k) (called st k).accepted 0 + choices_of u ks (called st k).state

  -- The inputs of the accepted instants, in turn.
  unfoldable pub before : Option Inputs → List Inputs → List Inputs
  before none l = l
  before (some a) l = a ∷ l

  unfoldable pub instants : List Call → State → List Inputs
  instants [] st = []
  instants (k ∷ ks) st = before (called st k).fed (instants ks (called st k).state)

  -- How many choices were accepted since the last accepted instant; n before the list.
  unfoldable pub onwards : Option Inputs → ℕ → ℕ
  onwards none n = n
  onwards (some a) n = 0

  unfoldable pub since : List Call → State → ℕ → ℕ
  since [] st n = n
  since (k ∷ ks) st n = since ks (called st k).state (onwards (called st k).fed (n + (called st k).accepted))

-- ---- cycles: "by turns the clock low with new inputs and the clock high with nothing else changed", "a low clock comes first".
-- The list may end anywhere.

-- All inputs but the clock are equal.
abbrev pub SameButClock : Inputs → Inputs → Type 0
SameButClock a b = (v : ℕ) → v + 1 < a.count → input_of a (v + 1) ≡ input_of b (v + 1)

unfoldable pub Cycles : List Inputs → Type 0
Cycles [] = Unit {0}
Cycles (low ∷ []) = input_of low 0 ≡ known 0
Cycles (low ∷ high ∷ l) = (input_of low 0 ≡ known 0) × (input_of high 0 ≡ known 1) × SameButClock high low × Cycles l

-- The same, and it doesn't end between a low clock and a high one.
unfoldable pub WholeCycles : List Inputs → Type 0
WholeCycles [] = Unit {0}
WholeCycles (low ∷ []) = ⊥
WholeCycles (low ∷ high ∷ l) = (input_of low 0 ≡ known 0) × (input_of high 0 ≡ known 1) × SameButClock high low × WholeCycles l
