-- Four users on one simulator (document 02, [7]): "From the start, each call handed the state the last gave back, the four counts together
-- equal the choices accepted", and each user's count that user's. For every sheet, extractable or not. proofs/Users proves it.
use Rattle.std.specs.Prelude.{ℕ, ◌+◌, ◌≤◌, ◌<◌, ◌≡◌, List, length, get_or}
use Rattle.state.specs.declared.State.{State}
use Rattle.state.specs.State.{users, count_of, allowance_of}
use Rattle.events.specs.Calls.{start}
use Rattle.order.specs.Calls.{Call, final, choices, choices_of, instants}

-- "the four counts together"
unfoldable pub together : State → ℕ
together st = count_of st 0 + count_of st 1 + count_of st 2 + count_of st 3

module _ (s allowances : List ℕ) (calls : List Call) where
  abbrev reached : State
  reached = final s calls (start s allowances).state

  pub record Tallied : Type 0 where
    pub time : reached.counters.time ≡ length (instants s calls (start s allowances).state)
    -- "is counted for that user alone"
    pub counts : (u : ℕ) → u < users → count_of reached u ≡ choices_of s u calls (start s allowances).state
    pub all : together reached ≡ choices s calls (start s allowances).state
    -- "Each has an allowance of choices fixed at the start"
    pub allowances-stay : (u : ℕ) → allowance_of reached u ≡ get_or allowances u 0
    pub within : (u : ℕ) → u < users → count_of reached u ≤ allowance_of reached u

abbrev pub Users : Type 0
Users = (s allowances : List ℕ) → length allowances ≡ users → (calls : List Call) → Tallied s allowances calls
