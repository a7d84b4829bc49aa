-- For each thread the registers that it writes, as masks: by plain assignment, and by later assignment.
-- Defined for any bytes and words; proofs/Writing says that for an accepted sheet's tables they are the module's `sets` and `defers`.
use Rattle.std.specs.Prelude.{ℕ, zero, suc, ◌-◌, Bool, true, false, List, get_or, set, replicate, ltb}
use Rattle.values.specs.Values.{pick}
use Rattle.pseudocode.specs.declared.Action.TheVariants.{Set, Later, Go, IfNot}
use Rattle.pseudocode.specs.declared.Instruction.{Instruction}
use Rattle.pseudocode.specs.declared.Instruction.TheVariants.{Wait, Act}
use Rattle.pseudocode.specs.Fetching.{fetch_at}
use Rattle.masks.specs.Masks.{mask}
use Rattle.tables.specs.Readers.{at_most}

-- ---- the register that an instruction writes; 32, which no mask has, where it writes none

-- The number of the register that is variable t.
unfoldable pub register_of : ℕ → ℕ → ℕ
register_of inputs t = pick (ltb t inputs) 32 (t - inputs)

unfoldable pub set_register : ℕ → Instruction → ℕ
set_register inputs (Wait t) = 32
set_register inputs (Act (Set t at)) = register_of inputs t
set_register inputs (Act (Later t at)) = 32
set_register inputs (Act (Go g)) = 32
set_register inputs (Act (IfNot g at)) = 32

unfoldable pub later_register : ℕ → Instruction → ℕ
later_register inputs (Wait t) = 32
later_register inputs (Act (Set t at)) = 32
later_register inputs (Act (Later t at)) = register_of inputs t
later_register inputs (Act (Go g)) = 32
later_register inputs (Act (IfNot g at)) = 32

-- ---- the marks of thread i's places below n; `register` gives the register that an instruction writes

unfoldable pub marks : (Instruction → ℕ) → List ℕ → List ℕ → ℕ → ℕ → List Bool
marks register s code i zero = replicate 32 false
marks register s code i (suc n) = set (marks register s code i n) (register (fetch_at s code i n)) true

-- ---- the masks of the threads below n, of these sizes. A thread has at most 256 instructions.

unfoldable pub masks_below : (Instruction → ℕ) → List ℕ → List ℕ → List ℕ → ℕ → List ℕ → List ℕ
masks_below register s code sizes zero ms = ms
masks_below register s code sizes (suc n) ms =
    set (masks_below register s code sizes n ms) n (mask (marks register s code n (at_most 256 (get_or sizes n 0))))

-- By plain assignment, and by later assignment.
abbrev pub plain_below : List ℕ → List ℕ → List ℕ → ℕ → ℕ → List ℕ → List ℕ
plain_below s code sizes inputs n ms = masks_below (set_register inputs) s code sizes n ms

abbrev pub later_below : List ℕ → List ℕ → List ℕ → ℕ → ℕ → List ℕ → List ℕ
later_below s code sizes inputs n ms = masks_below (later_register inputs) s code sizes n ms
