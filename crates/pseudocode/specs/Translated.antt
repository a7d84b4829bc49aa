-- Demand 2, the translation: "The pseudo-code of an accepted sheet is the one that the report's translation gives, instruction for
-- instruction." A claim about the calls `compile` and `fetch`, whose contracts cite `compile_at` and `fetch_at`: what is fetched is
-- the instruction of `translate`, source document 003's. proofs/Compiling proves it (`compile-law`).
-- An expression stands for its place in the sheet; `Fetched` in tables/specs/Holding says the same of the expressions' trees.
use Rattle.std.specs.Prelude.{◌≡◌, ℕ, ◌+◌, ◌≤◌, ◌<◌, List, length, get_or}
use Rattle.sheet.specs.Reading.{ok}
use Rattle.sheet.specs.Expression.{located}
use Rattle.sheet.specs.Statement.{Stmt, empty, size}
use Rattle.sheet.specs.Module.{Sheet, read_sheet}
use Rattle.sheet.specs.Answers.{definitions_of}
use Rattle.pseudocode.specs.Translation.{go, thread_code}
use Rattle.pseudocode.specs.Instruction.{instruction_of}
use Rattle.pseudocode.specs.Compiling.{Compiled, compile_at}
use Rattle.pseudocode.specs.Fetching.{fetch_at}

-- A table and sizes are those of these threads: each thread's size, 0 past the last, and at each place its instruction.
pub record Compiles (s : List ℕ) (threads : List (Stmt ℕ)) (c : Compiled) : Type 0 where
  pub size-of : (t : ℕ) → t < length threads → get_or c.sizes t 0 ≡ size (get_or threads t empty) + 1
  pub no_size : (t : ℕ) → length threads ≤ t → get_or c.sizes t 0 ≡ 0
  pub fetched : (t p : ℕ) → t < length threads → p < size (get_or threads t empty) + 1
      → fetch_at s c.code t p ≡ instruction_of (get_or (thread_code (get_or threads t empty)) p (go 0))

-- Of every sheet that is accepted, whatever the lent table held before.
abbrev pub CompileLaw : Type 0
CompileLaw = (s code : List ℕ) (r : Sheet ℕ) → read_sheet (located s) s ≡ ok r → length code ≡ 4096
    → Compiles s r.contents.threads (compile_at s (definitions_of r.definitions) (length r.contents.threads) r.body code)
