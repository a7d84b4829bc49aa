-- Demand 1 for `run_cycles`: "A refused call alters nothing". proofs/Refused proves the claim.
use Rattle.std.specs.Prelude.{ℕ, ◌≡◌, Bool, false, List}
use Rattle.state.specs.declared.State.{State}
use Rattle.batch.specs.Cycles.{run_cycles}

-- Where no instant was accepted (the sheet, the state, the user or the rows are refused, or the first instant is), the state is the one that
-- the call got. A run that is stopped comes after an accepted instant: `running` tells it.
abbrev pub Unaltered : Type 0
Unaltered =
    (s : List ℕ) (st : State) (u : ℕ) (ns xs : List ℕ) → (run_cycles s st u ns xs).phases ≡ 0 →
    (run_cycles s st u ns xs).running ≡ false → (run_cycles s st u ns xs).state ≡ st
