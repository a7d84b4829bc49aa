-- What breaks the rule that extraction refuses a module by (document 01, "Numbers that come from the input", 12 to 21): the thread,
-- register, wire or wait concerned, the lowest where there are several. specs/Breaks says what is promised of it.
use Rattle.std.specs.Prelude.{ℕ, zero, suc, ◌+◌, Bool, true, false, not, ◌&&◌, List, length, ltb, leb, eqb}
use Rattle.values.specs.Values.{pick}
use Rattle.sheet.specs.Reading.{Res, ok, no, ◌>>=◌}
use Rattle.sheet.specs.Expression.{Expr}
use Rattle.sheet.specs.Statement.{forever}
use Rattle.sheet.specs.Module.{Module, read}
use Rattle.pseudocode.specs.Translation.{Instr}
use Rattle.events.specs.Cycle.{code_of, instr_at, wire_variable, any_below}
use Rattle.nextstate.specs.Rules.{reads_at, any_instr, plain_writes, defers, writes, thread_reads, wire_reads, some_thread, some_wire, read_elsewhere}
use Rattle.nextstate.specs.Rules.{other_wait_at, starts_waiting, body_of, loops_wait, waits_before, waits_below}
use Rattle.nextstate.specs.Rules.{two_writers, both_ways, plainly_shared, other_wait, starts_running, runs_away, clock_read, reads_upward, many_waits}
use Rattle.nextstate.specs.Extraction.{walks_below, threads_below}
use Rattle.witness.specs.declared.Witness.{Witness}

-- ---- the lowest number below n of which a test holds; n where there is none

unfoldable pub lowest : ℕ → (ℕ → Bool) → ℕ
lowest zero f = 0
lowest (suc n) f = pick (any_below n f) (lowest n f) (pick (f n) n (suc n))

-- ---- witnesses by what they name; the rest is 0

-- A number alone: 0, or a sheet that isn't read.
abbrev pub bare : ℕ → Witness
bare n = record { number = n; thread = 0; other = 0; register = 0; wired = false; wire = 0; above = 0; place = 0 }

-- A register and two threads.
abbrev pub a_register : ℕ → ℕ → ℕ → ℕ → Witness
a_register n r i j = record { number = n; thread = i; other = j; register = r; wired = false; wire = 0; above = 0; place = 0 }

-- A thread and a place in it.
abbrev pub a_place : ℕ → ℕ → ℕ → Witness
a_place n i p = record { number = n; thread = i; other = 0; register = 0; wired = false; wire = 0; above = 0; place = p }

-- Is it refused?
unfoldable pub refuses : {A : Type 0} → Res A → Bool
refuses (ok a) = false
refuses (no n p) = true

module _ (m : Module Expr) where
  -- ---- the lowest register (by its number; the test is on its variable), thread, wire, place of a thread

  abbrev pub first_register : (ℕ → Bool) → ℕ
  first_register f = lowest m.scope.registers (λ r. f (m.scope.inputs + r))

  abbrev pub first_thread : (ℕ → Bool) → ℕ
  first_thread f = lowest (length m.threads) f

  abbrev pub first_wire : (ℕ → Bool) → ℕ
  first_wire f = lowest (length m.wires) f

  abbrev pub first_place : ℕ → (Instr Expr → Bool) → ℕ
  first_place i f = lowest (length (code_of m i)) (λ p. f (instr_at (code_of m i) p))

  -- ---- "12 two threads write one register.": the register, and the two lowest threads that write it

  unfoldable pub double_written : Witness
  double_written =
      let r = first_register (λ v. some_thread m (λ i. some_thread m (λ j. not (eqb i j) && (writes m i v && writes m j v)))) in
      let v = m.scope.inputs + r in
      let i = first_thread (λ i. writes m i v) in
      a_register 12 r i (first_thread (λ j. not (eqb i j) && writes m j v))

  -- ---- "13 one written both ways.": the register, a thread that assigns it plainly and one that assigns it later

  unfoldable pub written_both_ways : Witness
  written_both_ways =
      let r = first_register (λ v. some_thread m (λ i. plain_writes m i v) && some_thread m (λ i. defers m i v)) in
      let v = m.scope.inputs + r in
      a_register 13 r (first_thread (λ i. plain_writes m i v)) (first_thread (λ i. defers m i v))

  -- ---- "14 a register written by plain assignment and read by another thread or a wire.": the register, the thread that writes
  -- it, and the other thread that reads it, or else the wire

  unfoldable pub shared_register : Witness
  shared_register =
      let r = first_register (λ v. some_thread m (λ i. plain_writes m i v && read_elsewhere m i v)) in
      let v = m.scope.inputs + r in
      let i = first_thread (λ i. plain_writes m i v && read_elsewhere m i v) in
      let by_thread = some_thread m (λ j. not (eqb i j) && thread_reads m j v) in
      record {
        number = 14;
        thread = i;
        other = pick by_thread (first_thread (λ j. not (eqb i j) && thread_reads m j v)) 0;
        register = r;
        wired = not by_thread;
        wire = pick by_thread 0 (first_wire (λ k. wire_reads m k v));
        above = 0;
        place = 0;
      }

  -- ---- "15 a wait other than the single posedge of input 0.": its thread and place

  unfoldable pub odd_wait : Witness
  odd_wait =
      let i = first_thread (λ i. any_instr other_wait_at (code_of m i)) in
      a_place 15 i (first_place i other_wait_at)

  -- ---- "16 a thread that doesn't start with a wait"

  unfoldable pub running_thread : Witness
  running_thread = a_place 16 (first_thread (λ i. not (starts_waiting (body_of m i)))) 0

  -- ---- "17 a loop or thread body that doesn't surely wait": the thread

  unfoldable pub runaway_thread : Witness
  runaway_thread = a_place 17 (first_thread (λ i. not (loops_wait (forever (body_of m i))))) 0

  -- ---- "18 clock read in an expression.": the thread and the place of the instruction that reads it, or else the wire

  unfoldable pub clock_reader : Witness
  clock_reader =
      let by_thread = some_thread m (λ i. thread_reads m i 0) in
      let i = first_thread (λ i. thread_reads m i 0) in
      record {
        number = 18;
        thread = pick by_thread i 0;
        other = 0;
        register = 0;
        wired = not by_thread;
        wire = pick by_thread 0 (first_wire (λ k. wire_reads m k 0));
        above = 0;
        place = pick by_thread (first_place i (reads_at 0)) 0;
      }

  -- ---- "19 a wire reads itself or a higher wire.": the wire, and the lowest such wire that it reads

  unfoldable pub upward_wire : Witness
  upward_wire =
      let k = first_wire (λ k. some_wire m (λ j. leb k j && wire_reads m k (wire_variable m j))) in
      record {
        number = 19;
        thread = 0;
        other = 0;
        register = 0;
        wired = true;
        wire = k;
        above = first_wire (λ j. leb k j && wire_reads m k (wire_variable m j));
        place = 0;
      }

  -- ---- "20 over 32 waits.": the thread and place of the 33rd

  unfoldable pub surplus_wait : Witness
  surplus_wait =
      let i = first_thread (λ i. ltb 32 (waits_below m (suc i))) in
      a_place 20 i (lowest (length (code_of m i)) (λ p. ltb 32 (waits_below m i + waits_before (code_of m i) (suc p))))

  -- ---- "21 over 4,096 nodes.": the thread and place of the wait in whose walk the 4,097th is asked for

  unfoldable pub overflowing_walk : Witness
  overflowing_walk =
      let i = first_thread (λ i. refuses (threads_below m (suc i))) in
      a_place 21 i (lowest (length (code_of m i)) (λ p. refuses (threads_below m i >>= walks_below m i (suc p))))

  -- ---- "Extraction only, lowest first"; 0 where extraction accepts

  -- Of 15 on.
  unfoldable pub higher_witness : Witness
  higher_witness =
      pick (other_wait m) odd_wait
      (pick (starts_running m) running_thread
      (pick (runs_away m) runaway_thread
      (pick (clock_read m) clock_reader
      (pick (reads_upward m) upward_wire
      (pick (many_waits m) surplus_wait
      (pick (refuses (threads_below m (length m.threads))) overflowing_walk
      (bare 0)))))))

  unfoldable pub witness : Witness
  witness =
      pick (two_writers m) double_written
      (pick (both_ways m) written_both_ways
      (pick (plainly_shared m) shared_register
      higher_witness))

-- ---- of a sheet: its number alone where it isn't read

unfoldable pub witness_in : Res (Module Expr) → Witness
witness_in (ok m) = witness m
witness_in (no n p) = bare n

unfoldable pub witnessed : List ℕ → Witness
witnessed s = witness_in (read s)
