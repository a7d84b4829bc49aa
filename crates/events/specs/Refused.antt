-- Demand 1: "A refused call alters nothing". Document 01: "A refusal hands back its number and the state it got". `Unaltered` is
-- the claim for each call of specs/Calls, by what the call answers; proofs/Refused proves it. (For `run_cycles`: batch.)
use Rattle.std.specs.Prelude.{ℕ, ◌≤◌, ◌≡◌, ◌≢◌, List, []}
use Rattle.state.specs.declared.State.{State}
use Rattle.events.specs.declared.Inputs.{Inputs}
use Rattle.events.specs.declared.Verdict.TheVariants.{Refused}
use Rattle.events.specs.Calls.{started, start, choose, run_list, run_plain, instant}

-- The numbers of a refused run. "Runs: 1 to 11, 31, then choice by choice"; "a run stopped at a choice isn't a refused call". A user above
-- 3 is 46, "for either run's one user, after 31". Document 02, [5]: "a call to the same or a later function (44)", "a body with a wait, loop or
-- later assignment (45)" are refusals of the sheet.
pub data RunRefused : ℕ → Type 0 where
  the-sheet : {n : ℕ} → 1 ≤ n → n ≤ 11 → RunRefused n
  a-later-function : RunRefused 44
  a-barred-body : RunRefused 45
  the-state : RunRefused 31
  the-user : RunRefused 46

pub record Unaltered : Type 0 where
  -- A start gets no state: a refused one gives that of a sheet without variables and wires.
  pub refused-start : (s allowances : List ℕ) → (start s allowances).number ≢ 0 → (start s allowances).state ≡ started [] 0 allowances
  pub refused-choice : (s : List ℕ) (st : State) (u c : ℕ) → (choose s st u c).number ≢ 0 → (choose s st u c).state ≡ st
  pub refused-instant : (s : List ℕ) (st : State) (a : Inputs) → (instant s st a).number ≢ 0 → (instant s st a).state ≡ st
  pub refused-run : (s : List ℕ) (st : State) (u : ℕ) (cs : List ℕ) → RunRefused (run_list s st u cs).number →
      ((run_list s st u cs).accepted ≡ 0) × ((run_list s st u cs).state ≡ st)
  pub refused-plain-run : (s : List ℕ) (st : State) (u n k : ℕ) → (run_plain s st u n).verdict ≡ Refused k →
      ((run_plain s st u n).accepted ≡ 0) × ((run_plain s st u n).state ≡ st) × RunRefused k
