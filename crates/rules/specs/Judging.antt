-- Extraction's rules on a sheet's bytes and tables: numbers 12 to 20, and the lowest that is broken.
-- Defined for bytes and tables of any contents; proofs/Rules says that for an accepted sheet and its tables each is the module's rule.
use Rattle.std.specs.Prelude.{ℕ, zero, suc, ◌+◌, Bool, false, not, ◌&&◌, ◌||◌, List, get_or, set, replicate, ltb, leb, eqb}
use Rattle.values.specs.Values.{pick}
use Rattle.sheet.specs.declared.Layout.{Layout}
use Rattle.pseudocode.specs.declared.Instruction.{Instruction}
use Rattle.pseudocode.specs.declared.Instruction.TheVariants.{Wait, Act}
use Rattle.pseudocode.specs.Fetching.{fetch_at}
use Rattle.masks.specs.Masks.{bits, any_mark}
use Rattle.events.specs.Cycle.{any_below}
use Rattle.nextstate.specs.Rules.{is_posedge}
use Rattle.tables.specs.Readers.{at_most}
use Rattle.rules.specs.Writers.{plain_below, later_below}
use Rattle.rules.specs.Reading.{reading_below}
use Rattle.rules.specs.Walking.{starts_running_from, runs_away_from}

-- ---- the tables' entries: eight threads, eighty variables

-- Is register r marked at thread i?
unfoldable pub marked : List ℕ → ℕ → ℕ → Bool
marked ms i r = pick (ltb i 8) (get_or (bits (get_or ms i 0)) r false) false

-- The marks of variable v.
unfoldable pub entry : List ℕ → ℕ → ℕ
entry rs v = pick (ltb v 80) (get_or rs v 0) 0

-- How many instructions of thread i are looked at.
unfoldable pub size_of : List ℕ → ℕ → ℕ
size_of sizes i = pick (ltb i 8) (at_most 256 (get_or sizes i 0)) 0

module _ (ps ls : List ℕ) where
  -- ---- "12 two threads write one register."

  unfoldable pub writes_at : ℕ → ℕ → Bool
  writes_at i r = marked ps i r || marked ls i r

  unfoldable pub other_writes : ℕ → ℕ → ℕ → Bool
  other_writes i r j = not (eqb i j) && writes_at j r

  unfoldable pub written_again : ℕ → ℕ → ℕ → Bool
  written_again threads i r = any_below threads (other_writes i r)

  unfoldable pub writes_too : ℕ → ℕ → ℕ → Bool
  writes_too threads r i = writes_at i r && written_again threads i r

  unfoldable pub written_twice : ℕ → ℕ → Bool
  written_twice threads r = any_below threads (writes_too threads r)

  unfoldable pub two_writers_at : ℕ → ℕ → Bool
  two_writers_at threads registers = any_below registers (written_twice threads)

-- ---- "13 one written both ways."

unfoldable pub written_by : List ℕ → ℕ → ℕ → Bool
written_by ms threads r = any_below threads (λ i. marked ms i r)

unfoldable pub written_both : List ℕ → List ℕ → ℕ → ℕ → Bool
written_both ps ls threads r = written_by ps threads r && written_by ls threads r

unfoldable pub both_ways_at : List ℕ → List ℕ → ℕ → ℕ → Bool
both_ways_at ps ls threads registers = any_below registers (written_both ps ls threads)

-- ---- "14 a register written by plain assignment and read by another thread or a wire." `reading` are the threads that read a
-- variable, `readers` the wires.

unfoldable pub read_elsewhere_at : List ℕ → List ℕ → ℕ → ℕ → Bool
read_elsewhere_at reading readers i v = any_mark (set (bits (entry reading v)) i false) || any_mark (bits (entry readers v))

module _ (ps reading readers : List ℕ) where
  unfoldable pub shared_by : ℕ → ℕ → ℕ → Bool
  shared_by r v i = marked ps i r && read_elsewhere_at reading readers i v

  unfoldable pub shared_at : ℕ → ℕ → ℕ → Bool
  shared_at threads r v = any_below threads (shared_by r v)

  unfoldable pub plainly_shared_at : ℕ → ℕ → ℕ → Bool
  plainly_shared_at threads inputs registers = any_below registers (λ r. shared_at threads r (inputs + r))

-- ---- "15 a wait other than the single posedge of input 0."

unfoldable pub other_wait_of : Instruction → Bool
other_wait_of (Wait t) = not (eqb t.count 1 && (is_posedge t.t0.edge && eqb t.t0.variable 0))
other_wait_of (Act a) = false

unfoldable pub other_wait_in : List ℕ → List ℕ → ℕ → ℕ → Bool
other_wait_in s code i n = any_below n (λ p. other_wait_of (fetch_at s code i p))

unfoldable pub other_wait_below : List ℕ → List ℕ → List ℕ → ℕ → Bool
other_wait_below s code sizes threads = any_below threads (λ i. other_wait_in s code i (size_of sizes i))

-- ---- "18 clock read in an expression."

unfoldable pub clock_read_at : List ℕ → List ℕ → Bool
clock_read_at reading readers = any_mark (bits (get_or reading 0 0)) || any_mark (bits (get_or readers 0 0))

-- ---- "19 a wire reads itself or a higher wire."

module _ (readers : List ℕ) where
  -- Variable v is wire j.
  unfoldable pub upward_at : ℕ → ℕ → ℕ → Bool
  upward_at k v j = leb k j && get_or (bits (entry readers v)) k false

  unfoldable pub reads_above : ℕ → ℕ → ℕ → ℕ → Bool
  reads_above inputs registers wires k = any_below wires (λ j. upward_at k (inputs + registers + j) j)

  unfoldable pub reads_upward_at : ℕ → ℕ → ℕ → Bool
  reads_upward_at inputs registers wires = any_below wires (reads_above inputs registers wires)

-- ---- "20 over 32 waits."

unfoldable pub wait_of : Instruction → ℕ
wait_of (Wait t) = 1
wait_of (Act a) = 0

-- How many of thread i's first n instructions are waits.
unfoldable pub waits_in : List ℕ → List ℕ → ℕ → ℕ → ℕ
waits_in s code i zero = 0
waits_in s code i (suc n) = waits_in s code i n + wait_of (fetch_at s code i n)

unfoldable pub waits_of : List ℕ → List ℕ → List ℕ → ℕ → ℕ
waits_of s code sizes zero = 0
waits_of s code sizes (suc n) = waits_of s code sizes n + waits_in s code n (size_of sizes n)

unfoldable pub many_waits_at : List ℕ → List ℕ → List ℕ → ℕ → Bool
many_waits_at s code sizes threads = ltb 32 (waits_of s code sizes threads)

-- ---- the lowest rule that is broken, 0 where none is

-- Of 15 to 20.
unfoldable pub higher_rule : List ℕ → Layout → List ℕ → List ℕ → List ℕ → List ℕ → ℕ
higher_rule s l code sizes readers reading =
    pick (other_wait_below s code sizes l.threads) 15
    (pick (starts_running_from s l.definitions l.threads l.body) 16
    (pick (runs_away_from s l.definitions l.threads l.body) 17
    (pick (clock_read_at reading readers) 18
    (pick (reads_upward_at readers l.inputs l.registers l.wires) 19
    (pick (many_waits_at s code sizes l.threads) 20
    0)))))

-- A sheet's bytes and its tables: the code and the threads' sizes, for each variable the wires that read it; and those that are
-- filled for the rules alone.
pub record Tables : Type 0 where
  pub sheet : List ℕ
  pub layout : Layout
  pub code : List ℕ
  pub sizes : List ℕ
  pub readers : List ℕ
  pub plain : List ℕ
  pub later : List ℕ
  pub reading : List ℕ

abbrev pub tables_of : List ℕ → Layout → List ℕ → List ℕ → List ℕ → List ℕ → List ℕ → List ℕ → Tables
tables_of s l code sizes readers ps ls reading =
    record { sheet = s; layout = l; code = code; sizes = sizes; readers = readers; plain = ps; later = ls; reading = reading }

unfoldable pub lowest_rule : Tables → ℕ
lowest_rule t =
    let l = t.layout in
    pick (two_writers_at t.plain t.later l.threads l.registers) 12
    (pick (both_ways_at t.plain t.later l.threads l.registers) 13
    (pick (plainly_shared_at t.plain t.reading t.readers l.threads l.inputs l.registers) 14
    (higher_rule t.sheet l t.code t.sizes t.readers t.reading)))

unfoldable pub rule_at : List ℕ → Layout → List ℕ → List ℕ → List ℕ → ℕ
rule_at s l code sizes readers =
    lowest_rule
    (tables_of s l code sizes readers
    (plain_below s code sizes l.inputs (at_most 8 l.threads) (replicate 8 0))
    (later_below s code sizes l.inputs (at_most 8 l.threads) (replicate 8 0))
    (reading_below s l.definitions code sizes (at_most 8 l.threads) (replicate 80 0)))
