-- Courses computed on a module that extraction refuses: two threads write one register, a wire reads it, the waits are of other edges
-- than the clock's rise. It meets rule 17, so that its threads do what they mean (feeder-wait-to-wait).
use mathlib.Core.Path.{◌≡◌, refl}
use mathlib.Core.Bool.{false}
use mathlib.Core.List.{List, [], ◌∷◌}
use Prim.Native.Nat.{ℕ, ◌<◌}
use lib.ListN.{length, get_or}
use Rattle.values.specs.declared.Value.{Value}
use Rattle.values.specs.Values.{known, all_unknown}
use Rattle.values.specs.declared.Edge.TheVariants.{Change, Negedge}
use Rattle.sheet.specs.declared.EdgeTerm.{EdgeTerm}
use Rattle.sheet.specs.Reading.{ok}
use Rattle.sheet.specs.Expression.{Expr, variable, constant, binary}
use Rattle.sheet.specs.Statement.{Stmt, empty, assign, later, sequence, while, forever, wait}
use Rattle.sheet.specs.Module.{Module, read}
use Rattle.nextstate.specs.Rules.{runs_away, rule}
use Rattle.nextstate.proofs.Samples.{reading, judging, turning}
use Rattle.meaning.specs.Meaning.{Write, stored, deferred, values_after, ends, stops, prefixed, followed, nothing, meaning}
use Rattle.meaning.specs.Waking.{WaitToWait}
use Rattle.meaning.proofs.Waking.{of-a-sheet}

-- ---- the module

unfoldable pub feeder-sheet : List ℕ
feeder-sheet =
    0x02 ∷ 0x02 ∷ 0x01 ∷ 0x02 ∷ 0x01 ∷ 0x04 ∷ 0x04 ∷ 0x04 ∷ 0x04 ∷ 0x31 ∷ 0x06 ∷ 0x02 ∷ 0x02 ∷ 0x02 ∷ 0x03 ∷ 0x0C ∷ 0x03 ∷ 0x02 ∷ 0x02 ∷
    0x01 ∷ 0x0C ∷ 0x23 ∷ 0x03 ∷ 0x02 ∷ 0x02 ∷ 0x0C ∷ 0x03 ∷ 0x02 ∷ 0x31 ∷ 0x06 ∷ 0x02 ∷ 0x02 ∷ 0x0C ∷ 0x04 ∷ 0x01 ∷ 0x00 ∷ 0x00 ∷ 0x00 ∷
    0x0C ∷ 0x23 ∷ 0x03 ∷ 0x02 ∷ 0x02 ∷ 0x0C ∷ 0x10 ∷ 0x02 ∷ 0x02 ∷ 0x00 ∷ 0x00 ∷ 0x04 ∷ 0x46 ∷ 0x31 ∷ 0x09 ∷ 0x02 ∷ 0x04 ∷ 0x02 ∷ 0x01 ∷
    0x0C ∷ 0x03 ∷ 0x02 ∷ 0x02 ∷ 0x04 ∷ 0x10 ∷ 0x01 ∷ 0x00 ∷ 0x04 ∷ 0x0C ∷ 0x10 ∷ 0x01 ∷ 0x00 ∷ 0x02 ∷ 0x03 ∷ 0x02 ∷ 0x0C ∷ 0x04 ∷ 0x00 ∷
    0x00 ∷ 0x00 ∷ 0x00 ∷ []

-- A falling clock or a change of the wire; a change of the wire.
abbrev falls-or-changes : List EdgeTerm
falls-or-changes = record { edge = Negedge; variable = 0 } ∷ record { edge = Change; variable = 4 } ∷ []

abbrev changes : List EdgeTerm
changes = record { edge = Change; variable = 4 } ∷ []

abbrev loop : Stmt Expr
loop = while (binary 9 4 (variable 4) (variable 1)) (sequence (assign 2 (variable 4)) (wait changes))

abbrev body : Stmt Expr
body =
    sequence (assign 2 (variable 1))
    (sequence (later 3 (variable 2))
    (sequence (assign 2 (binary 6 4 (variable 2) (constant 4 1)))
    (sequence (later 3 (variable 2))
    (sequence (wait falls-or-changes)
    loop))))

-- Inputs: the clock, 1 how much. Registers: 2 assigned at once, by both threads; 3 later. Wire 4 is their sum.
unfoldable pub feeder : Module Expr
feeder =
    record {
      scope = record { inputs = 2; registers = 2; widths = 1 ∷ 4 ∷ 4 ∷ 4 ∷ 4 ∷ []; declared = 0; functions = [] };
      wires = binary 6 4 (variable 2) (variable 3) ∷ [];
      threads = body ∷ sequence (wait (record { edge = Change; variable = 2 } ∷ [])) (assign 2 (constant 4 0)) ∷ [];
    }

pub feeder-read : read feeder-sheet ≡ ok feeder
unfolding feeder-sheet feeder reading
feeder-read = refl

pub feeder-refused : rule feeder ≡ 12
unfolding feeder judging
feeder-refused = refl

feeder-waits : runs_away feeder ≡ false
unfolding feeder judging
feeder-waits = refl

pub feeder-wait-to-wait : (i : ℕ) → i < length feeder.threads → WaitToWait feeder-sheet feeder i
feeder-wait-to-wait = of-a-sheet feeder-sheet feeder feeder-read feeder-waits

-- ---- courses of its first thread

abbrev x-4 : Value
x-4 = all_unknown 4

-- How much, and the sum on the wire.
abbrev values : Value → Value → ℕ → Value
values much sum v = get_or (known 1 ∷ much ∷ x-4 ∷ x-4 ∷ sum ∷ []) v x-4

-- What is behind either wait: the loop, and the whole anew.
abbrev rest : Stmt Expr
rest = sequence (sequence empty loop) (forever body)

abbrev first-writes : List Write
first-writes = stored 2 (known 7) ∷ deferred 3 (known 7) ∷ stored 2 (known 8) ∷ deferred 3 (known 8) ∷ []

-- From the start: a store is seen by what follows it, and both pending values of one register are listed, one by one.
pub start-course : meaning (forever body) (values (known 7) x-4) ≡ stops first-writes falls-or-changes rest
unfolding turning meaning followed prefixed nothing values_after
start-course = refl

-- Behind the wait, with a sum below: the loop's body is done and the loop remains.
pub below-course : meaning rest (values (known 7) (known 3)) ≡ stops (stored 2 (known 3) ∷ []) changes rest
unfolding turning meaning followed prefixed nothing values_after
below-course = refl

-- With a sum not below, or unknown: the loop is over before its body is done, and the thread begins anew.
pub over-course : meaning rest (values (known 7) (known 7)) ≡ stops first-writes falls-or-changes rest
unfolding turning meaning followed prefixed nothing values_after
over-course = refl

pub unknown-course : meaning rest (values (known 7) x-4) ≡ stops first-writes falls-or-changes rest
unfolding turning meaning followed prefixed nothing values_after
unknown-course = refl

-- ---- statements that end

-- A loop whose condition fails ends with nothing done; a sequence of assignments ends with what both did.
pub loop-course : meaning loop (values (known 7) (known 7)) ≡ ends []
unfolding turning meaning followed prefixed nothing values_after
loop-course = refl

pub two-course :
    meaning (sequence (assign 2 (constant 4 5)) (later 3 (variable 2))) (values (known 7) x-4)
    ≡ ends (stored 2 (known 5) ∷ deferred 3 (known 5) ∷ [])
unfolding turning meaning followed prefixed nothing values_after
two-course = refl
