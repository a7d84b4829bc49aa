-- Two modules with waits in loops, read from their sheets and extracted: extraction accepts them, so that what is proved of the
-- modules it accepts speaks of such ones too.
use mathlib.Core.Path.{◌≡◌, refl, ap}
use Prim.Native.Nat.{ℕ}
use mathlib.Core.List.{List, [], ◌∷◌, ◌++◌}
use lib.ListN.{length, replicate}
use Rattle.values.specs.Values.{known}
use Rattle.values.specs.Planes.{value_at}
use Rattle.sheet.specs.Reading.{ok}
use Rattle.sheet.specs.Expression.{Expr, variable, constant, unary, binary}
use Rattle.sheet.specs.Statement.{assign, later, sequence, if_then, if_else, while, forever}
use Rattle.sheet.specs.Module.{Module, read}
use Rattle.events.specs.declared.Inputs.{Inputs}
use Rattle.events.proofs.Samples.{posedge-clock}
use Rattle.nextstate.specs.declared.Registers.{Registers}
use Rattle.nextstate.specs.declared.Clocked.{Clocked}
use Rattle.nextstate.specs.Nodes.{a_variable, a_constant, a_unary, a_binary, a_branch}
use Rattle.nextstate.specs.Extraction.{Tables, extracted, expressions, extract}
use Rattle.nextstate.specs.CycleRun.{clocked_in}
use Rattle.nextstate.proofs.Samples.{reading, walking, clocking, row, fills, at_first}

-- ---- the watchdog of tests/data

unfoldable pub watchdog-sheet : List ℕ
watchdog-sheet =
    0x05 ∷ 0x04 ∷ 0x02 ∷ 0x02 ∷ 0x01 ∷ 0x01 ∷ 0x0C ∷ 0x08 ∷ 0x01 ∷ 0x0C ∷ 0x08 ∷ 0x01 ∷ 0x10 ∷ 0x01 ∷ 0x01 ∷ 0x31 ∷ 0x08 ∷ 0x02 ∷ 0x02 ∷
    0x02 ∷ 0x05 ∷ 0x31 ∷ 0x08 ∷ 0x02 ∷ 0x06 ∷ 0x02 ∷ 0x03 ∷ 0x0C ∷ 0x10 ∷ 0x01 ∷ 0x01 ∷ 0x00 ∷ 0x0E ∷ 0x02 ∷ 0x01 ∷ 0x0C ∷ 0x23 ∷ 0x05 ∷
    0x0C ∷ 0x0C ∷ 0x00 ∷ 0x00 ∷ 0x00 ∷ 0x00 ∷ 0x0C ∷ 0x23 ∷ 0x06 ∷ 0x0C ∷ 0x08 ∷ 0x00 ∷ 0x00 ∷ 0x00 ∷ 0x00 ∷ 0x23 ∷ 0x07 ∷ 0x0C ∷ 0x01 ∷
    0x00 ∷ 0x00 ∷ 0x00 ∷ 0x00 ∷ 0x0C ∷ 0x23 ∷ 0x05 ∷ 0x02 ∷ 0x02 ∷ 0x06 ∷ 0x02 ∷ 0x09 ∷ 0x0C ∷ 0x23 ∷ 0x06 ∷ 0x0C ∷ 0x08 ∷ 0x01 ∷ 0x00 ∷
    0x00 ∷ 0x00 ∷ 0x0C ∷ 0x10 ∷ 0x01 ∷ 0x01 ∷ 0x00 ∷ 0x0C ∷ 0x46 ∷ 0x31 ∷ 0x03 ∷ 0x02 ∷ 0x09 ∷ 0x31 ∷ 0x03 ∷ 0x11 ∷ 0x02 ∷ 0x02 ∷ 0x01 ∷
    0x11 ∷ 0x02 ∷ 0x02 ∷ 0x0A ∷ 0x0C ∷ 0x23 ∷ 0x06 ∷ 0x31 ∷ 0x06 ∷ 0x02 ∷ 0x06 ∷ 0x0C ∷ 0x08 ∷ 0x01 ∷ 0x00 ∷ 0x00 ∷ 0x00 ∷ 0x10 ∷ 0x01 ∷
    0x01 ∷ 0x00 ∷ 0x0C ∷ 0x06 ∷ 0x02 ∷ 0x0A ∷ 0x0C ∷ 0x23 ∷ 0x07 ∷ 0x0C ∷ 0x01 ∷ 0x01 ∷ 0x00 ∷ 0x00 ∷ 0x00 ∷ 0x0C ∷ 0x10 ∷ 0x01 ∷ 0x01 ∷
    0x00 ∷ 0x0C ∷ 0x46 ∷ 0x31 ∷ 0x03 ∷ 0x11 ∷ 0x02 ∷ 0x02 ∷ 0x04 ∷ 0x11 ∷ 0x02 ∷ 0x02 ∷ 0x01 ∷ 0x10 ∷ 0x01 ∷ 0x01 ∷ 0x00 ∷ 0x23 ∷ 0x07 ∷
    0x0C ∷ 0x01 ∷ 0x00 ∷ 0x00 ∷ 0x00 ∷ 0x00 ∷ 0x23 ∷ 0x06 ∷ 0x0C ∷ 0x08 ∷ 0x00 ∷ 0x00 ∷ 0x00 ∷ 0x00 ∷ 0x0C ∷ 0x10 ∷ 0x01 ∷ 0x01 ∷ 0x00 ∷
    0x0E ∷ 0x02 ∷ 0x01 ∷ 0x23 ∷ 0x08 ∷ 0x0C ∷ 0x10 ∷ 0x00 ∷ 0x00 ∷ 0x00 ∷ 0x00 ∷ 0x06 ∷ 0x02 ∷ 0x07 ∷ 0x23 ∷ 0x08 ∷ 0x31 ∷ 0x06 ∷ 0x02 ∷
    0x08 ∷ 0x0C ∷ 0x10 ∷ 0x01 ∷ 0x00 ∷ 0x00 ∷ 0x00 ∷ []

-- Inputs: the clock, 1 reset, 2 a reading of 12 bits, 3 how often it may come again, 4 the alarm is seen. Registers: 5 the last reading,
-- 6 how often it came again, 7 the alarm, 8 for how long. Wires: 9 the reading came again, 10 it came too often.
unfoldable pub watchdog : Module Expr
watchdog =
    record {
      scope = record { inputs = 5; registers = 4; widths = 1 ∷ 1 ∷ 12 ∷ 8 ∷ 1 ∷ 12 ∷ 8 ∷ 1 ∷ 16 ∷ 1 ∷ 1 ∷ []; declared = 0; functions = [] };
      wires = binary 8 12 (variable 2) (variable 5) ∷ binary 8 8 (variable 6) (variable 3) ∷ [];
      threads =
          sequence posedge-clock
          (if_else (variable 1)
          (sequence (later 5 (constant 12 0)) (sequence (later 6 (constant 8 0)) (later 7 (constant 1 0))))
          (sequence (later 5 (variable 2))
          (if_then (variable 9)
          (sequence (later 6 (constant 8 1))
          (sequence posedge-clock
          (sequence
          (while (binary 3 1 (variable 9) (binary 3 1 (unary 2 1 (variable 1)) (unary 2 1 (variable 10))))
          (sequence (later 6 (binary 6 8 (variable 6) (constant 8 1))) posedge-clock))
          (sequence
          (if_then (variable 10)
          (sequence (later 7 (constant 1 1))
          (sequence posedge-clock
          (sequence
          (while (binary 3 1 (unary 2 1 (variable 4)) (unary 2 1 (variable 1))) posedge-clock)
          (later 7 (constant 1 0))))))
          (later 6 (constant 8 0)))))))))
          ∷ sequence posedge-clock
          (if_else (variable 1) (later 8 (constant 16 0)) (if_then (variable 7) (later 8 (binary 6 16 (variable 8) (constant 16 1)))))
          ∷ [];
    }

unfoldable pub watchdog-tables : Tables
watchdog-tables =
    record {
      nodes =
          a_variable 0 ∷ a_variable 1 ∷ a_variable 2 ∷ a_variable 3 ∷ a_variable 4 ∷ a_variable 5 ∷ a_variable 6 ∷ a_variable 7 ∷ a_variable 8 ∷
          a_variable 9 ∷ a_variable 10 ∷ a_constant 12 0 ∷ a_constant 8 0 ∷ a_constant 1 0 ∷ a_constant 8 0 ∷ a_constant 8 1 ∷ a_constant 8 9 ∷
          a_constant 8 0 ∷ a_branch 9 2 2 ∷ a_branch 9 15 6 ∷ a_branch 9 7 7 ∷ a_branch 9 16 17 ∷ a_branch 1 11 18 ∷ a_branch 1 12 19 ∷
          a_branch 1 13 20 ∷ a_branch 1 14 21 ∷ a_unary 2 1 ∷ a_unary 2 10 ∷ a_binary 3 26 27 ∷ a_binary 3 9 28 ∷ a_constant 8 1 ∷ a_binary 6 6 30 ∷
          a_constant 8 12 ∷ a_constant 1 1 ∷ a_constant 8 16 ∷ a_constant 8 0 ∷ a_constant 8 0 ∷ a_branch 10 5 5 ∷ a_branch 10 6 35 ∷
          a_branch 10 33 7 ∷ a_branch 10 34 36 ∷ a_branch 29 5 37 ∷ a_branch 29 31 38 ∷ a_branch 29 7 39 ∷ a_branch 29 32 40 ∷ a_unary 2 1 ∷
          a_unary 2 10 ∷ a_binary 3 45 46 ∷ a_binary 3 9 47 ∷ a_constant 8 1 ∷ a_binary 6 6 49 ∷ a_constant 8 12 ∷ a_constant 1 1 ∷ a_constant 8 16 ∷
          a_constant 8 0 ∷ a_constant 8 0 ∷ a_branch 10 5 5 ∷ a_branch 10 6 54 ∷ a_branch 10 52 7 ∷ a_branch 10 53 55 ∷ a_branch 48 5 56 ∷
          a_branch 48 50 57 ∷ a_branch 48 7 58 ∷ a_branch 48 51 59 ∷ a_unary 2 4 ∷ a_unary 2 1 ∷ a_binary 3 64 65 ∷ a_constant 8 18 ∷ a_constant 1 0 ∷
          a_constant 8 0 ∷ a_constant 8 0 ∷ a_branch 66 5 5 ∷ a_branch 66 6 69 ∷ a_branch 66 7 68 ∷ a_branch 66 67 70 ∷ a_unary 2 4 ∷ a_unary 2 1 ∷
          a_binary 3 75 76 ∷ a_constant 8 18 ∷ a_constant 1 0 ∷ a_constant 8 0 ∷ a_constant 8 0 ∷ a_branch 77 5 5 ∷ a_branch 77 6 80 ∷
          a_branch 77 7 79 ∷ a_branch 77 78 81 ∷ a_constant 16 0 ∷ a_constant 8 0 ∷ a_constant 16 1 ∷ a_binary 6 8 88 ∷ a_constant 8 0 ∷
          a_constant 8 0 ∷ a_branch 7 89 8 ∷ a_branch 7 90 91 ∷ a_branch 1 86 92 ∷ a_branch 1 87 93 ∷ [];
      rows =
          row (22 ∷ 23 ∷ 24 ∷ 8 ∷ []) 25
          ++ (row (41 ∷ 42 ∷ 43 ∷ 8 ∷ []) 44
          ++ (row (60 ∷ 61 ∷ 62 ∷ 8 ∷ []) 63
          ++ (row (71 ∷ 72 ∷ 73 ∷ 8 ∷ []) 74
          ++ (row (82 ∷ 83 ∷ 84 ∷ 8 ∷ []) 85
          ++ row (5 ∷ 6 ∷ 7 ∷ 94 ∷ []) 95))));
    }

pub watchdog-read : read watchdog-sheet ≡ ok watchdog
unfolding watchdog-sheet watchdog reading
watchdog-read = refl

pub watchdog-extracted : extracted watchdog ≡ ok watchdog-tables
unfolding watchdog watchdog-tables walking
watchdog-extracted = refl

pub watchdog-expressions : expressions watchdog-sheet ≡ ok watchdog-tables
unfolding expressions
watchdog-expressions = rw (watchdog-read, watchdog-extracted)

pub watchdog-accepted : (ns rs : List ℕ) → length ns ≡ 16384 → length rs ≡ 1056 → (extract watchdog-sheet ns rs).number ≡ 0
watchdog-accepted ns rs h g = ap (λ r. r.number) (fills watchdog-sheet watchdog-tables watchdog-read watchdog-extracted ns rs h g)

-- ---- cycle after cycle: a reading that comes again and again trips it

-- Inputs 1 up: reset, the reading 5, which may come twice, nothing seen.
abbrev with-reset : ℕ → Inputs
with-reset n = record { count = 4; value = n ∷ 5 ∷ 2 ∷ replicate 13 0; unknown = replicate 16 0 }

abbrev after : Clocked → Registers
after c = record { value = c.value; unknown = c.unknown; places = c.places }

unfoldable pub watched : List Inputs → Registers → Registers
watched [] g = g
watched (a ∷ more) g = watched more (after (clocked_in watchdog watchdog-tables g a))

-- The alarm after a reset and so many cycles with the one reading.
abbrev alarm : ℕ → Registers
alarm n = watched (with-reset 1 ∷ replicate n (with-reset 0)) (at_first (12 ∷ 8 ∷ 1 ∷ 16 ∷ []))

pub watchdog-trips :
    (value_at (alarm 3).value (alarm 3).unknown 2 ≡ known 0)
    × (value_at (alarm 4).value (alarm 4).unknown 2 ≡ known 1)
    × ((alarm 4).places ≡ 16 ∷ replicate 7 0)
unfolding watched watchdog watchdog-tables clocking
watchdog-trips = (refl, refl, refl)

-- ---- a turnstile: three threads, both kinds of assignment, a forever in the text

unfoldable pub turnstile-sheet : List ℕ
turnstile-sheet =
    0x03 ∷ 0x04 ∷ 0x02 ∷ 0x03 ∷ 0x01 ∷ 0x01 ∷ 0x04 ∷ 0x04 ∷ 0x04 ∷ 0x01 ∷ 0x01 ∷ 0x01 ∷ 0x01 ∷ 0x31 ∷ 0x08 ∷ 0x02 ∷ 0x03 ∷ 0x02 ∷ 0x02 ∷
    0x31 ∷ 0x03 ∷ 0x02 ∷ 0x01 ∷ 0x11 ∷ 0x02 ∷ 0x02 ∷ 0x07 ∷ 0x0C ∷ 0x10 ∷ 0x01 ∷ 0x01 ∷ 0x00 ∷ 0x0C ∷ 0x23 ∷ 0x03 ∷ 0x0C ∷ 0x04 ∷ 0x00 ∷
    0x00 ∷ 0x00 ∷ 0x00 ∷ 0x0C ∷ 0x10 ∷ 0x01 ∷ 0x01 ∷ 0x00 ∷ 0x46 ∷ 0x02 ∷ 0x08 ∷ 0x0C ∷ 0x03 ∷ 0x04 ∷ 0x31 ∷ 0x06 ∷ 0x02 ∷ 0x03 ∷ 0x0C ∷
    0x04 ∷ 0x01 ∷ 0x00 ∷ 0x00 ∷ 0x00 ∷ 0x0C ∷ 0x23 ∷ 0x03 ∷ 0x02 ∷ 0x04 ∷ 0x10 ∷ 0x01 ∷ 0x01 ∷ 0x00 ∷ 0x44 ∷ 0x0C ∷ 0x10 ∷ 0x01 ∷ 0x01 ∷
    0x00 ∷ 0x23 ∷ 0x05 ∷ 0x02 ∷ 0x07 ∷ 0x0C ∷ 0x10 ∷ 0x01 ∷ 0x01 ∷ 0x00 ∷ 0x0E ∷ 0x02 ∷ 0x05 ∷ 0x0C ∷ 0x03 ∷ 0x06 ∷ 0x0C ∷ 0x01 ∷ 0x01 ∷
    0x00 ∷ 0x00 ∷ 0x00 ∷ 0x10 ∷ 0x01 ∷ 0x01 ∷ 0x00 ∷ 0x03 ∷ 0x06 ∷ 0x0C ∷ 0x01 ∷ 0x00 ∷ 0x00 ∷ 0x00 ∷ 0x00 ∷ []

-- Inputs: the clock, 1 somebody passes, 2 how many may in a row. Registers: 3 how many did, 4 the sum for it, 5 the last may, 6 the
-- alarm. Wires: 7 as many as may, 8 one more.
unfoldable pub turnstile : Module Expr
turnstile =
    record {
      scope = record { inputs = 3; registers = 4; widths = 1 ∷ 1 ∷ 4 ∷ 4 ∷ 4 ∷ 1 ∷ 1 ∷ 1 ∷ 1 ∷ []; declared = 0; functions = [] };
      wires = binary 8 4 (variable 3) (variable 2) ∷ binary 3 1 (variable 1) (unary 2 1 (variable 7)) ∷ [];
      threads =
          sequence posedge-clock
          (sequence (later 3 (constant 4 0))
          (sequence posedge-clock
          (while (variable 8)
          (sequence (assign 4 (binary 6 4 (variable 3) (constant 4 1))) (sequence (later 3 (variable 4)) posedge-clock)))))
          ∷ forever (sequence posedge-clock (later 5 (variable 7)))
          ∷ sequence posedge-clock
          (if_else (variable 5) (sequence (assign 6 (constant 1 1)) posedge-clock) (assign 6 (constant 1 0)))
          ∷ [];
    }

unfoldable pub turnstile-tables : Tables
turnstile-tables =
    record {
      nodes =
          a_variable 0 ∷ a_variable 1 ∷ a_variable 2 ∷ a_variable 3 ∷ a_variable 4 ∷ a_variable 5 ∷ a_variable 6 ∷ a_variable 7 ∷ a_variable 8 ∷
          a_constant 4 0 ∷ a_constant 8 2 ∷ a_constant 4 1 ∷ a_binary 6 3 11 ∷ a_constant 8 6 ∷ a_constant 8 0 ∷ a_branch 8 12 3 ∷ a_branch 8 12 4 ∷
          a_branch 8 13 14 ∷ a_constant 4 1 ∷ a_binary 6 3 18 ∷ a_constant 8 6 ∷ a_constant 8 0 ∷ a_branch 8 19 3 ∷ a_branch 8 19 4 ∷
          a_branch 8 20 21 ∷ a_constant 8 0 ∷ a_constant 1 1 ∷ a_constant 8 3 ∷ a_constant 1 0 ∷ a_constant 8 0 ∷ a_branch 5 26 28 ∷
          a_branch 5 27 29 ∷ a_constant 8 0 ∷ [];
      rows =
          row (9 ∷ 4 ∷ 5 ∷ 6 ∷ []) 10
          ++ (row (15 ∷ 16 ∷ 5 ∷ 6 ∷ []) 17
          ++ (row (22 ∷ 23 ∷ 5 ∷ 6 ∷ []) 24
          ++ (row (3 ∷ 4 ∷ 7 ∷ 6 ∷ []) 25
          ++ (row (3 ∷ 4 ∷ 5 ∷ 30 ∷ []) 31
          ++ row (3 ∷ 4 ∷ 5 ∷ 6 ∷ []) 32))));
    }

pub turnstile-read : read turnstile-sheet ≡ ok turnstile
unfolding turnstile-sheet turnstile reading
turnstile-read = refl

pub turnstile-extracted : extracted turnstile ≡ ok turnstile-tables
unfolding turnstile turnstile-tables walking
turnstile-extracted = refl

pub turnstile-expressions : expressions turnstile-sheet ≡ ok turnstile-tables
unfolding expressions
turnstile-expressions = rw (turnstile-read, turnstile-extracted)

pub turnstile-accepted : (ns rs : List ℕ) → length ns ≡ 16384 → length rs ≡ 1056 → (extract turnstile-sheet ns rs).number ≡ 0
turnstile-accepted ns rs h g = ap (λ r. r.number) (fills turnstile-sheet turnstile-tables turnstile-read turnstile-extracted ns rs h g)
