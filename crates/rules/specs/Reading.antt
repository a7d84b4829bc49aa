-- For each variable the threads that read it, as a mask: bit i is thread i.
-- Defined for any bytes and words; proofs/Reading says that for an accepted sheet's tables they are the module's `thread_reads`.
use Rattle.std.specs.Prelude.{ℕ, zero, suc, List, get_or}
use Rattle.pseudocode.specs.declared.Action.TheVariants.{Set, Later, Go, IfNot}
use Rattle.pseudocode.specs.declared.Instruction.{Instruction}
use Rattle.pseudocode.specs.declared.Instruction.TheVariants.{Wait, Act}
use Rattle.pseudocode.specs.Fetching.{fetch_at}
use Rattle.tables.specs.Readers.{at_most, mark_at}

-- The functions' definitions stand at the places ds.

-- Thread i marked at the variables of the expression that an instruction has.
unfoldable pub mark_instr : List ℕ → List ℕ → ℕ → Instruction → List ℕ → List ℕ
mark_instr s ds i (Wait t) rs = rs
mark_instr s ds i (Act (Set t at)) rs = (mark_at 16 s ds i at rs).readers
mark_instr s ds i (Act (Later t at)) rs = (mark_at 16 s ds i at rs).readers
mark_instr s ds i (Act (Go g)) rs = rs
mark_instr s ds i (Act (IfNot g at)) rs = (mark_at 16 s ds i at rs).readers

-- The places below n of thread i.
unfoldable pub mark_thread : List ℕ → List ℕ → List ℕ → ℕ → ℕ → List ℕ → List ℕ
mark_thread s ds code i zero rs = rs
mark_thread s ds code i (suc n) rs = mark_instr s ds i (fetch_at s code i n) (mark_thread s ds code i n rs)

-- The threads below n, of these sizes. A thread has at most 256 instructions.
unfoldable pub reading_below : List ℕ → List ℕ → List ℕ → List ℕ → ℕ → List ℕ → List ℕ
reading_below s ds code sizes zero rs = rs
reading_below s ds code sizes (suc n) rs = mark_thread s ds code n (at_most 256 (get_or sizes n 0)) (reading_below s ds code sizes n rs)
