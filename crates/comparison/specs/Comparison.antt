-- Where two runs of a module differ after a cycle: first in a register or a wire, by its number, then in the place of a thread.
use Rattle.std.specs.Prelude.{Bool, true, false, not, List, [], ◌∷◌, ℕ, ◌+◌, ltb, eqb}
use Rattle.values.specs.Values.{pick, same}
use Rattle.stimulus.specs.Counting.{first_from}
use Rattle.values.specs.Cells.{cell_at}
use Rattle.trace_row.specs.TraceRow.{place_in}
use Rattle.comparison.specs.declared.Counts.{Counts}
use Rattle.comparison.specs.declared.Difference.{Difference}
use Rattle.comparison.specs.declared.Difference.TheVariants.{Nowhere, Variable, Place}
use Rattle.comparison.specs.declared.Finding.{Finding}
use Rattle.comparison.specs.declared.Finding.TheVariants.{Same, Apart}

-- ---- difference: the first of two rows of a trace, those that a run and the expressions leave

unfoldable pub values_differ : List ℕ → List ℕ → ℕ → Bool
values_differ a b v = not (same (cell_at a v) (cell_at b v))

unfoldable pub places_differ : List ℕ → List ℕ → ℕ → Bool
places_differ a b i = not (eqb (place_in a i) (place_in b i))

-- Registers and wires are numbered behind the inputs.
unfoldable pub difference : Counts → List ℕ → List ℕ → Difference
difference m a b =
    let n = m.registers + m.wires in
    let v = first_from (values_differ a b) n m.inputs in
    let i = first_from (places_differ a b) m.threads 0 in
    pick (ltb v (m.inputs + n)) (Variable v (cell_at a v) (cell_at b v))
    (pick (ltb i m.threads) (Place i)
    Nowhere)

-- ---- finding: the first of several orders that differs from the expressions, numbered from k on

unfoldable pub differs : Difference → Bool
differs Nowhere = false
differs (Variable v a b) = true
differs (Place i) = true

unfoldable pub finding_from : Counts → List ℕ → ℕ → List (List ℕ) → Finding
finding_from m expressed k [] = Same
finding_from m expressed k (a ∷ others) =
    let d = difference m a expressed in
    pick (differs d) (Apart k d) (finding_from m expressed (k + 1) others)

unfoldable pub finding : Counts → List (List ℕ) → List ℕ → Finding
finding m orders expressed = finding_from m expressed 0 orders
