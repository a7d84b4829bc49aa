-- Witnesses on a sheet's bytes and tables, as the code finds them: each is the lowest number of which a test holds. Defined for bytes and
-- tables of any contents; proofs/Seeking says that for an accepted sheet and its tables they are those of the module.
use Rattle.std.specs.Prelude.{ℕ, zero, suc, ◌+◌, Bool, true, false, not, ◌&&◌, List, get_or, set, replicate, ltb}
use Rattle.values.specs.Values.{pick}
use Rattle.sheet.specs.declared.Layout.{Layout}
use Rattle.pseudocode.specs.declared.Instruction.{Instruction}
use Rattle.pseudocode.specs.Fetching.{fetch_at}
use Rattle.masks.specs.Masks.{bits}
use Rattle.tables.specs.Readers.{at_most}
use Rattle.rules.specs.Writers.{plain_below, later_below}
use Rattle.rules.specs.Reading.{mark_instr, reading_below}
use Rattle.rules.specs.Walking.{walk_at, starts_running_from, runs_away_from}
use Rattle.rules.specs.Judging.{marked, entry, size_of, writes_at, other_writes, written_twice, two_writers_at, written_both, both_ways_at}
use Rattle.rules.specs.Judging.{shared_by, shared_at, plainly_shared_at, other_wait_of, other_wait_in, other_wait_below, clock_read_at}
use Rattle.rules.specs.Judging.{upward_at, reads_above, reads_upward_at, waits_in, waits_of, many_waits_at}
use Rattle.extraction.specs.Filling.{Filling, filling, extent, variables_below, walks_below_at, thread_at, threads_below_at}
use Rattle.witness.specs.declared.Witness.{Witness}
use Rattle.witness.specs.declared.MarkTest.{MarkTest}
use Rattle.witness.specs.declared.MarkTest.TheVariants.{Twice, Writes, OtherWrites, Both, Plain, Later, Shared, SharedBy, OtherReads, Reads, WireReads, Upward, Above}
use Rattle.witness.specs.declared.CodeTest.{CodeTest}
use Rattle.witness.specs.declared.CodeTest.TheVariants.{OtherWait, OtherWaitAt, ClockAt, Waits, WaitsAt, Spills, SpillsAt}
use Rattle.witness.specs.declared.BodyTest.{BodyTest}
use Rattle.witness.specs.declared.BodyTest.TheVariants.{Running, Away}
use Rattle.witness.specs.Witness.{lowest, bare, a_register, a_place}

-- A wire, the register and the thread that it reads from, and the wire that it reads.
abbrev pub a_wire : ℕ → ℕ → ℕ → ℕ → ℕ → Witness
a_wire n r i k j = record { number = n; thread = i; other = 0; register = r; wired = true; wire = k; above = j; place = 0 }

-- ---- 12, 13, 14, 19: tests on the masks; `readers` are the wires that read a variable, `reading` the threads, `ps` and `ls` the
-- registers that a thread writes by plain and by later assignment

module _ (l : Layout) (readers ps ls reading : List ℕ) where
  unfoldable pub by_marks : MarkTest → ℕ → Bool
  by_marks Twice k = written_twice ps ls l.threads k
  by_marks (Writes r) k = writes_at ps ls k r
  by_marks (OtherWrites i r) k = other_writes ps ls i r k
  by_marks Both k = written_both ps ls l.threads k
  by_marks (Plain r) k = marked ps k r
  by_marks (Later r) k = marked ls k r
  by_marks Shared k = shared_at ps reading readers l.threads k (l.inputs + k)
  by_marks (SharedBy r v) k = shared_by ps reading readers r v k
  by_marks (OtherReads i v) k = get_or (set (bits (entry reading v)) i false) k false
  by_marks (Reads v) k = get_or (bits (entry reading v)) k false
  by_marks (WireReads v) k = get_or (bits (entry readers v)) k false
  by_marks Upward k = reads_above readers l.inputs l.registers l.wires k
  by_marks (Above w) k = upward_at readers w (l.inputs + l.registers + k) k

  unfoldable pub double_written_at : Witness
  double_written_at =
      let r = lowest l.registers (by_marks Twice) in
      let i = lowest l.threads (by_marks (Writes r)) in
      a_register 12 r i (lowest l.threads (by_marks (OtherWrites i r)))

  unfoldable pub written_both_ways_at : Witness
  written_both_ways_at =
      let r = lowest l.registers (by_marks Both) in
      a_register 13 r (lowest l.threads (by_marks (Plain r))) (lowest l.threads (by_marks (Later r)))

  unfoldable pub shared_register_at : Witness
  shared_register_at =
      let r = lowest l.registers (by_marks Shared) in
      let v = l.inputs + r in
      let i = lowest l.threads (by_marks (SharedBy r v)) in
      let j = lowest l.threads (by_marks (OtherReads i v)) in
      pick (ltb j l.threads) (a_register 14 r i j) (a_wire 14 r i (lowest l.wires (by_marks (WireReads v))) 0)

  unfoldable pub upward_wire_at : Witness
  upward_wire_at =
      let k = lowest l.wires (by_marks Upward) in
      a_wire 19 0 0 k (lowest l.wires (by_marks (Above k)))

-- ---- 15, 18, 20, 21: tests on a thread's code

-- Does the instruction read the clock?
unfoldable pub reads_clock : List ℕ → List ℕ → Instruction → Bool
reads_clock s ds i = get_or (bits (get_or (mark_instr s ds 0 i (replicate 80 0)) 0 0)) 0 false

-- Have the threads before thread i, and its first n instructions, over 32 waits? There are eight threads at most.
unfoldable pub waits_over : List ℕ → List ℕ → List ℕ → ℕ → ℕ → Bool
waits_over s code sizes i n = ltb 32 (waits_of s code sizes (at_most 8 i) + waits_in s code i n)

module _ (s : List ℕ) (l : Layout) (code sizes : List ℕ) where
  -- What the walks of the first threads, and of the next one's waits below a place, leave.
  unfoldable pub walked_at : List ℕ → List ℕ → ℕ → ℕ → Filling
  walked_at ps ls threads places =
      let n = l.inputs + l.registers + l.wires in
      walks_below_at s code (thread_at l.inputs l.registers ps ls threads) (get_or sizes threads 0) places
      (threads_below_at s code sizes l.inputs l.registers ps ls threads
      (filling (extent n 0) (variables_below n (replicate 16384 0)) (replicate 1056 0)))

  -- How many nodes there are then; there are eight threads at most.
  unfoldable pub nodes_at : List ℕ → List ℕ → ℕ → ℕ → ℕ
  nodes_at ps ls threads places = (walked_at ps ls (at_most 7 threads) places).extent.nodes

  module _ (ps ls : List ℕ) where
    unfoldable pub by_code : CodeTest → ℕ → Bool
    by_code OtherWait k = other_wait_in s code k (size_of sizes k)
    by_code (OtherWaitAt i) k = other_wait_of (fetch_at s code i k)
    by_code (ClockAt i) k = reads_clock s l.definitions (fetch_at s code i k)
    by_code Waits k = waits_over s code sizes k (size_of sizes k)
    by_code (WaitsAt i) k = waits_over s code sizes i (k + 1)
    by_code Spills k = ltb 4096 (nodes_at ps ls k (size_of sizes k))
    by_code (SpillsAt i) k = ltb 4096 (nodes_at ps ls i (k + 1))

    unfoldable pub odd_wait_at : Witness
    odd_wait_at = let i = lowest l.threads (by_code OtherWait) in a_place 15 i (lowest (size_of sizes i) (by_code (OtherWaitAt i)))

    unfoldable pub surplus_wait_at : Witness
    surplus_wait_at = let i = lowest l.threads (by_code Waits) in a_place 20 i (lowest (size_of sizes i) (by_code (WaitsAt i)))

    -- 0 where no walk is refused.
    unfoldable pub overflowing_walk_at : Witness
    overflowing_walk_at =
        let i = lowest l.threads (by_code Spills) in
        pick (ltb i l.threads) (a_place 21 i (lowest (size_of sizes i) (by_code (SpillsAt i)))) (bare 0)

    unfoldable pub clock_reader_at : List ℕ → List ℕ → Witness
    clock_reader_at readers reading =
        let i = lowest l.threads (by_marks l readers ps ls reading (Reads 0)) in
        pick (ltb i l.threads)
        (a_place 18 i (lowest (size_of sizes i) (by_code (ClockAt i))))
        (a_wire 18 0 0 (lowest l.wires (by_marks l readers ps ls reading (WireReads 0))) 0)

-- ---- 16, 17: tests on the threads' statements, the first at `body`; the functions' definitions stand at the places ds

module _ (s ds : List ℕ) (body : ℕ) where
  -- The place of thread i's statement.
  unfoldable pub body_at : ℕ → ℕ
  body_at zero = body
  body_at (suc i) = (walk_at 64 s ds (body_at i)).next

  unfoldable pub by_body : BodyTest → ℕ → Bool
  by_body Running k = not (walk_at 64 s ds (body_at k)).starts
  by_body Away k = let w = walk_at 64 s ds (body_at k) in not (w.surely && w.loops)

-- ---- the lowest rule that is broken

module _ (s : List ℕ) (l : Layout) (code sizes readers ps ls reading : List ℕ) where
  -- Of 18 on.
  unfoldable pub last_at : Witness
  last_at =
      pick (clock_read_at reading readers) (clock_reader_at s l code sizes ps ls readers reading)
      (pick (reads_upward_at readers l.inputs l.registers l.wires) (upward_wire_at l readers ps ls reading)
      (pick (many_waits_at s code sizes l.threads) (surplus_wait_at s l code sizes ps ls)
      (overflowing_walk_at s l code sizes ps ls)))

  -- Of 15 on.
  unfoldable pub higher_at : Witness
  higher_at =
      pick (other_wait_below s code sizes l.threads) (odd_wait_at s l code sizes ps ls)
      (pick (starts_running_from s l.definitions l.threads l.body) (a_place 16 (lowest l.threads (by_body s l.definitions l.body Running)) 0)
      (pick (runs_away_from s l.definitions l.threads l.body) (a_place 17 (lowest l.threads (by_body s l.definitions l.body Away)) 0)
      last_at))

  unfoldable pub witness_at : Witness
  witness_at =
      pick (two_writers_at ps ls l.threads l.registers) (double_written_at l readers ps ls reading)
      (pick (both_ways_at ps ls l.threads l.registers) (written_both_ways_at l readers ps ls reading)
      (pick (plainly_shared_at ps reading readers l.threads l.inputs l.registers) (shared_register_at l readers ps ls reading)
      higher_at))

-- ---- from a sheet that was read

unfoldable pub filled_at : List ℕ → Layout → List ℕ → List ℕ → List ℕ → Witness
filled_at s l code sizes readers =
    witness_at s l code sizes readers
    (plain_below s code sizes l.inputs (at_most 8 l.threads) (replicate 8 0))
    (later_below s code sizes l.inputs (at_most 8 l.threads) (replicate 8 0))
    (reading_below s l.definitions code sizes (at_most 8 l.threads) (replicate 80 0))
