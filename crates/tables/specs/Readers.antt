-- For each variable the wires that read it, as a mask, and whether a wait names it: tables filled once from an accepted sheet.
-- Defined for any bytes and words; specs/Holding says what they hold for a sheet that is accepted.
use Rattle.std.specs.Prelude.{ℕ, zero, suc, ◌+◌, Bool, true, List, get_or, set, ltb}
use Rattle.values.specs.Values.{pick, ◌is◌then◌else◌}
use Rattle.pseudocode.specs.Skipping.{argument_count}
use Rattle.pseudocode.specs.declared.EdgeTerms.{EdgeTerms}
use Rattle.pseudocode.specs.declared.Instruction.{Instruction}
use Rattle.pseudocode.specs.declared.Instruction.TheVariants.{Wait, Act}
use Rattle.pseudocode.specs.Fetching.{term_at, fetch_at}
use Rattle.masks.specs.Masks.{bits, mask}

-- ---- at_most: a count that a table has no room for is cut

unfoldable pub at_most : ℕ → ℕ → ℕ
at_most limit n = pick (ltb n limit) n limit

-- ---- readers: a walk over the bytes of wire k's expression marks k at each variable that stands in it

-- How far the sheet was taken, and the table.
pub record Marking : Type 0 where
  pub next : ℕ
  pub readers : List ℕ

abbrev pub marking : ℕ → List ℕ → Marking
marking p rs = record { next = p; readers = rs }

-- There are 80 variables at most.
unfoldable pub mark_variable : ℕ → ℕ → List ℕ → List ℕ
mark_variable k v rs = pick (ltb v 80) (set rs v (mask (set (bits (get_or rs v 0)) k true))) rs

-- The operands of a binary operator, and of a conditional, the first at p; `operand` walks over an operand.
unfoldable pub mark_binary : (ℕ → List ℕ → Marking) → ℕ → List ℕ → Marking
mark_binary operand p rs = let a = operand p rs in operand a.next a.readers

unfoldable pub mark_conditional : (ℕ → List ℕ → Marking) → ℕ → List ℕ → Marking
mark_conditional operand p rs =
    let a = operand p rs in
    let b = operand a.next a.readers in
    operand b.next b.readers

-- The arguments of a call, n of them from p on.
unfoldable pub mark_arguments : (ℕ → List ℕ → Marking) → ℕ → ℕ → List ℕ → Marking
mark_arguments operand zero p rs = marking p rs
mark_arguments operand (suc n) p rs = let a = operand p rs in mark_arguments operand n a.next a.readers

-- The node with map m at p. The functions' definitions stand at the places ds: they tell how many arguments there are. What stands
-- in a body are the body's own variables.
unfoldable pub mark_node : (ℕ → List ℕ → Marking) → List ℕ → List ℕ → ℕ → ℕ → ℕ → List ℕ → Marking
mark_node operand s ds k m p rs =
    m is 0x02 then marking (p + 2) (mark_variable k (get_or s (p + 1) 0) rs) else
    m is 0x0C then marking (p + 6) rs else
    m is 0x04 then marking (p + 2) rs else
    m is 0x11 then operand (p + 2) rs else
    m is 0x31 then mark_binary operand (p + 2) rs else
    m is 0x71 then mark_conditional operand (p + 2) rs else
    m is 0x80 then mark_arguments operand (argument_count s ds (get_or s (p + 1) 0)) (p + 2) rs else
    marking p rs

-- The expression at p, with so many levels left.
unfoldable pub mark_at : ℕ → List ℕ → List ℕ → ℕ → ℕ → List ℕ → Marking
mark_at zero s ds k p rs = marking p rs
mark_at (suc d) s ds k p rs = mark_node (mark_at d s ds k) s ds k (get_or s p 0) p rs

-- The wires below n, whose expressions stand at the places `starts`.
unfoldable pub readers_below : List ℕ → List ℕ → List ℕ → ℕ → List ℕ → List ℕ
readers_below s ds starts zero rs = rs
readers_below s ds starts (suc n) rs = (mark_at 16 s ds n (get_or starts n 0) (readers_below s ds starts n rs)).readers

-- ---- watched: the variables that some wait names

unfoldable pub watch_variable : ℕ → List Bool → List Bool
watch_variable v ws = pick (ltb v 80) (set ws v true) ws

unfoldable pub watch_terms : EdgeTerms → ℕ → List Bool → List Bool
watch_terms t zero ws = ws
watch_terms t (suc n) ws = watch_variable (term_at t n).variable (watch_terms t n ws)

-- A wait has at most eight terms.
unfoldable pub watch_instr : Instruction → List Bool → List Bool
watch_instr (Wait t) ws = watch_terms t (at_most 8 t.count) ws
watch_instr (Act a) ws = ws

-- The places below n of thread i.
unfoldable pub watch_thread : List ℕ → List ℕ → ℕ → ℕ → List Bool → List Bool
watch_thread s code i zero ws = ws
watch_thread s code i (suc n) ws = watch_instr (fetch_at s code i n) (watch_thread s code i n ws)

-- The threads below n, of these sizes. A thread has at most 256 instructions.
unfoldable pub watched_below : List ℕ → List ℕ → List ℕ → ℕ → List Bool → List Bool
watched_below s code sizes zero ws = ws
watched_below s code sizes (suc n) ws = watch_thread s code n (at_most 256 (get_or sizes n 0)) (watched_below s code sizes n ws)
