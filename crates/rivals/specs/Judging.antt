-- A comparison of four runs by their traces: the plain run, the orders of seeds 1 and 2, and the extracted expressions. They are run and
-- judged chunk by chunk.
use Rattle.std.specs.Prelude.{Option, Some, None, Bool, true, false, List, [], ◌∷◌, ◌++◌, ◌≡◌, ℕ, zero, suc, ◌+◌, ◌*◌, ◌/◌, ltb, length}
use Rattle.values.specs.Values.{pick, ◌is◌then◌else◌}
use Rattle.trace_row.specs.TraceRow.{row_of}
use Rattle.options.specs.declared.Outcome.{Outcome}
use Rattle.options.specs.declared.Outcome.TheVariants.{Done, Refused, Different, Mistaken}
use Rattle.comparison.specs.declared.Counts.{Counts}
use Rattle.comparison.specs.declared.Finding.{Finding}
use Rattle.comparison.specs.declared.Verdict.{Verdict}
use Rattle.comparison.specs.Comparison.{finding}
use Rattle.comparison.specs.Verdicts.{after_all, is_agreed, outcome_of}
use Rattle.rivals.specs.declared.Four.{Four}
use Rattle.rivals.specs.declared.Halt.{Halt}
use Rattle.rivals.specs.declared.Halt.TheVariants.{Plain, First, Second, Expressed}

-- ---- comparable: the cycles that all four did

-- How many whole cycles each of the four did.
abbrev pub Progress : Type 0
Progress = Four ℕ

unfoldable pub lesser : ℕ → ℕ → ℕ
lesser a b = pick (ltb a b) a b

unfoldable pub comparable : Progress → ℕ
comparable p = lesser (lesser p.plain p.first) (lesser p.second p.expressed)

-- ---- halted: which of them was the first that stopped before it had done so many cycles; of those that stopped in the same cycle the
-- one that stands first

unfoldable pub halted : ℕ → Progress → Option Halt
halted cycles p =
    let n = comparable p in
    pick (ltb n cycles)
    (p.plain is n then Some Plain else (p.first is n then Some First else (p.second is n then Some Second else Some Expressed)))
    None

-- ---- judged: a verdict with so many cycles more. A trace has two rows of 88 words a cycle; no cycle is judged that one of the four
-- does not have whole.

-- What cycle c of the chunk shows: the rows after the clock's rise.
unfoldable pub found : Counts → List ℕ → List ℕ → List ℕ → List ℕ → ℕ → Finding
found m plain first second expressed c =
    let r = 2 * c + 1 in
    finding m (row_of plain r ∷ row_of first r ∷ row_of second r ∷ []) (row_of expressed r)

-- What n cycles from cycle c on show.
unfoldable pub findings : (ℕ → Finding) → ℕ → ℕ → List Finding
findings f zero c = []
findings f (suc n) c = f c ∷ findings f n (c + 1)

unfoldable pub cycles_in : List ℕ → List ℕ → List ℕ → List ℕ → ℕ
cycles_in plain first second expressed =
    comparable (record {
      plain = length plain / 176;
      first = length first / 176;
      second = length second / 176;
      expressed = length expressed / 176;
    })

unfoldable pub judged : Counts → Verdict → ℕ → List ℕ → List ℕ → List ℕ → List ℕ → Verdict
judged m v cycles plain first second expressed =
    let n = lesser cycles (cycles_in plain first second expressed) in
    after_all v (findings (found m plain first second expressed) n 0)

-- ---- the claim: chunk by chunk the verdict is that of all cycles (`by-chunks` of proofs/Judging)

abbrev pub ByChunks : Type 0
ByChunks = (v : Verdict) (fs gs : List Finding) → after_all (after_all v fs) gs ≡ after_all v (fs ++ gs)

-- ---- how it ends: a difference is said, whatever came behind it; agreement only where nothing kept the comparison from its end

unfoldable pub is_done : Outcome → Bool
is_done Done = true
is_done Refused = false
is_done Different = false
is_done Mistaken = false

unfoldable pub is_said : Verdict → Outcome → Bool
is_said v o = pick (is_agreed v) (is_done o) true

unfoldable pub concluded : Verdict → Outcome → Outcome
concluded v o = pick (is_said v o) (outcome_of v) o
