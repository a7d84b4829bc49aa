-- What is promised of a witness: it breaks the rule whose number it has, one clause a rule, beside document 01's sentence. Proved in
-- proofs/Breaking for the witness of every module that extraction refuses.
use Rattle.std.specs.Prelude.{ℕ, ◌+◌, ◌≤◌, ◌<◌, ◌≡◌, ◌≢◌, true, false, List, length}
use Rattle.sheet.specs.Reading.{Res, ok, no, ◌>>=◌}
use Rattle.sheet.specs.Expression.{Expr}
use Rattle.sheet.specs.Statement.{forever}
use Rattle.sheet.specs.Module.{Module}
use Rattle.pseudocode.specs.Translation.{Instr}
use Rattle.events.specs.Cycle.{code_of, instr_at, is_wait, wire_variable}
use Rattle.nextstate.specs.Rules.{reads_at, plain_writes, defers, writes, thread_reads, wire_reads, other_wait_at, starts_waiting, body_of, loops_wait}
use Rattle.nextstate.specs.Rules.{waits_before, waits_below}
use Rattle.nextstate.specs.Extraction.{Tables, walk_from, walks_below, threads_below}
use Rattle.witness.specs.declared.Witness.{Witness}

module _ (m : Module Expr) (w : Witness) where
  -- The variable of the register that is named.
  abbrev pub variable : ℕ
  variable = m.scope.inputs + w.register

  -- The code of the thread that is named, and the instruction at the place that is named.
  abbrev pub code : List (Instr Expr)
  code = code_of m w.thread

  abbrev pub instruction : Instr Expr
  instruction = instr_at (code_of m w.thread) w.place

-- Each names a register, a thread or a wire of the module, and a place of the thread's code.
pub data Breaks (m : Module Expr) (w : Witness) : Type 0 where
  -- "12 two threads write one register."
  written_twice : w.number ≡ 12 → w.register < m.scope.registers → w.thread < w.other → w.other < length m.threads
      → writes m w.thread (variable m w) ≡ true → writes m w.other (variable m w) ≡ true → Breaks m w
  -- "13 one written both ways."
  written-both-ways : w.number ≡ 13 → w.register < m.scope.registers → w.thread < length m.threads → w.other < length m.threads
      → plain_writes m w.thread (variable m w) ≡ true → defers m w.other (variable m w) ≡ true → Breaks m w
  -- "14 a register written by plain assignment and read by another thread"
  read-by-thread : w.number ≡ 14 → w.wired ≡ false → w.register < m.scope.registers → w.thread < length m.threads
      → w.other < length m.threads → w.thread ≢ w.other → plain_writes m w.thread (variable m w) ≡ true
      → thread_reads m w.other (variable m w) ≡ true → Breaks m w
  -- "or a wire."
  read-by-wire : w.number ≡ 14 → w.wired ≡ true → w.register < m.scope.registers → w.thread < length m.threads
      → w.wire < length m.wires → plain_writes m w.thread (variable m w) ≡ true → wire_reads m w.wire (variable m w) ≡ true → Breaks m w
  -- "15 a wait other than the single posedge of input 0."
  other-wait : w.number ≡ 15 → w.thread < length m.threads → w.place < length (code m w) → other_wait_at (instruction m w) ≡ true
      → Breaks m w
  -- "16 a thread that doesn't start with a wait"
  starts-running : w.number ≡ 16 → w.thread < length m.threads → starts_waiting (body_of m w.thread) ≡ false → Breaks m w
  -- "17 a loop or thread body that doesn't surely wait"; a thread is a forever of its statement
  runs-away : w.number ≡ 17 → w.thread < length m.threads → loops_wait (forever (body_of m w.thread)) ≡ false → Breaks m w
  -- "18 clock read in an expression.": by an instruction of a thread, or by a wire
  clock-in-thread : w.number ≡ 18 → w.wired ≡ false → w.thread < length m.threads → w.place < length (code m w)
      → reads_at 0 (instruction m w) ≡ true → Breaks m w
  clock-in-wire : w.number ≡ 18 → w.wired ≡ true → w.wire < length m.wires → wire_reads m w.wire 0 ≡ true → Breaks m w
  -- "19 a wire reads itself or a higher wire."
  reads-upward : w.number ≡ 19 → w.wire < length m.wires → w.above < length m.wires → w.wire ≤ w.above
      → wire_reads m w.wire (wire_variable m w.above) ≡ true → Breaks m w
  -- "20 over 32 waits.": a wait that has 32 before it, by thread and place
  waits-over : w.number ≡ 20 → w.thread < length m.threads → w.place < length (code m w) → is_wait (instruction m w) ≡ true
      → waits_below m w.thread + waits_before (code m w) w.place ≡ 32 → Breaks m w
  -- "21 over 4,096 nodes.": a wait whose walk is refused, where those before it aren't
  nodes-over : {T : Tables} → w.number ≡ 21 → w.thread < length m.threads → w.place < length (code m w)
      → is_wait (instruction m w) ≡ true → (threads_below m w.thread >>= walks_below m w.thread w.place) ≡ ok T
      → walk_from m w.thread w.place T ≡ no 21 0 → Breaks m w

-- The number with which a call is refused, 0 where it isn't.
unfoldable pub number_in : {A : Type 0} → Res A → ℕ
number_in (ok a) = 0
number_in (no n p) = n
