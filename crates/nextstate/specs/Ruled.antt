-- What extraction's rules 12 to 19 say of a module (document 01, "Numbers that come from the input"), as facts for every thread,
-- wire and variable. proofs/Ruled shows them of each module that was read and breaks no rule.
use Rattle.std.specs.Prelude.{ℕ, ◌+◌, ◌<◌, ◌≡◌, ◌≢◌, true, false, List, length}
use Rattle.sheet.specs.declared.EdgeTerm.{EdgeTerm}
use Rattle.sheet.specs.Expression.{Expr}
use Rattle.sheet.specs.Statement.{forever}
use Rattle.sheet.specs.Module.{Module}
use Rattle.pseudocode.specs.Translation.{wait! }
use Rattle.events.specs.Cycle.{code_of, instr_at, is_wait}
use Rattle.nextstate.specs.Rules.{plain_writes, defers, writes, thread_reads, wire_reads, clock_edge, body_of, loops_wait}

pub record Ruled (m : Module Expr) : Type 0 where
  -- 12
  pub one_writer : (i j v : ℕ) → i ≢ j → writes m i v ≡ true → writes m j v ≡ false
  -- 13
  pub one_way : (i j v : ℕ) → defers m i v ≡ true → plain_writes m j v ≡ false
  -- 14
  pub apart : (i j v : ℕ) → i ≢ j → thread_reads m i v ≡ true → plain_writes m j v ≡ false
  pub apart-wire : (k j v : ℕ) → wire_reads m k v ≡ true → plain_writes m j v ≡ false
  -- 15
  pub waits : (i p : ℕ) {ts : List EdgeTerm} → instr_at (code_of m i) p ≡ wait! ts → clock_edge ts ≡ true
  -- 16
  pub first : (i : ℕ) → i < length m.threads → is_wait (instr_at (code_of m i) 0) ≡ true
  -- 17
  pub loops : (i : ℕ) → i < length m.threads → loops_wait (forever (body_of m i)) ≡ true
  -- 18
  pub clock : (i : ℕ) → thread_reads m i 0 ≡ false
  pub clock-wire : (k : ℕ) → wire_reads m k 0 ≡ false
  -- 19
  pub lower : (k v : ℕ) → wire_reads m k v ≡ true → v < m.scope.inputs + m.scope.registers + k
