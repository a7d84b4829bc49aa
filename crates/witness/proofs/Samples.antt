-- Samples of witnesses, computed: one of each rule that a small module breaks.
use mathlib.Core.Path.{◌≡◌, refl}
use mathlib.Core.List.{List, [], ◌∷◌}
use Rattle.values.specs.declared.Edge.TheVariants.{Negedge}
use Rattle.sheet.specs.Expression.{Expr, variable, constant, unary}
use Rattle.sheet.specs.Statement.{Stmt, empty, assign, later, sequence, if_then, while, wait}
use Rattle.sheet.specs.Module.{Module}
use Rattle.events.specs.Cycle.{instr_at}
use Rattle.events.proofs.Samples.{module-of, posedge-clock}
use Rattle.nextstate.proofs.Samples.{judging, walking, waits, flip_flop}
use Rattle.witness.specs.Witness.{lowest, bare, a_register, a_place, refuses, double_written, written_both_ways, shared_register, odd_wait, running_thread, runaway_thread}
use Rattle.witness.specs.Witness.{clock_reader, upward_wire, surplus_wait, overflowing_walk, higher_witness, witness}
use Rattle.witness.specs.Seeking.{a_wire}

-- What the samples compute with.
unfoldable seeking : Unit {0}
unfolding judging walking witness higher_witness lowest refuses double_written written_both_ways shared_register odd_wait running_thread runaway_thread clock_reader upward_wire surplus_wait overflowing_walk instr_at
seeking = tt

-- Registers 0 and 1 are variables 1 and 2.
abbrev threads-of : List (Stmt Expr) → Module Expr
threads-of ts = module-of 2 (8 ∷ 8 ∷ []) [] ts

abbrev on-clock : Stmt Expr → Stmt Expr
on-clock a = sequence posedge-clock a

abbrev zero-8 : Expr
zero-8 = constant 8 0

-- Threads 1 and 2 write register 1, which is variable 2; register 1 is written by thread 0 in both ways; thread 1 reads what thread 0
-- writes plainly, and then a wire does.
pub written :
    (witness (threads-of (on-clock (later 1 zero-8) ∷ on-clock (later 2 zero-8) ∷ on-clock (later 2 zero-8) ∷ [])) ≡ a_register 12 1 1 2)
    × (witness (threads-of (on-clock (sequence (assign 2 zero-8) (later 2 zero-8)) ∷ [])) ≡ a_register 13 1 0 0)
    × (witness (threads-of (on-clock (assign 1 zero-8) ∷ on-clock (if_then (variable 1) (later 2 zero-8)) ∷ [])) ≡ a_register 14 0 0 1)
    × (witness (module-of 1 (8 ∷ 8 ∷ []) (unary 1 8 (variable 1) ∷ []) (on-clock (assign 1 zero-8) ∷ [])) ≡ a_wire 14 0 0 0 0)
unfolding seeking
written = (refl, refl, refl, refl)

-- Thread 1's wait at place 1 is for a negedge; thread 1 is empty; thread 0 has a loop that doesn't wait.
pub waiting :
    (witness (threads-of (posedge-clock ∷ on-clock (wait (record { edge = Negedge; variable = 0 } ∷ [])) ∷ [])) ≡ a_place 15 1 1)
    × (witness (threads-of (posedge-clock ∷ empty ∷ [])) ≡ a_place 16 1 0)
    × (witness (threads-of (on-clock (while (variable 1) (later 1 zero-8)) ∷ [])) ≡ a_place 17 0 0)
unfolding seeking
waiting = (refl, refl, refl)

-- The condition at place 1 reads the clock, and then a wire does; wire 0 reads wire 1.
pub reading :
    (witness (threads-of (on-clock (if_then (variable 0) (later 1 zero-8)) ∷ [])) ≡ a_place 18 0 1)
    × (witness (module-of 1 (8 ∷ 1 ∷ []) (unary 1 1 (variable 0) ∷ []) (posedge-clock ∷ [])) ≡ a_wire 18 0 0 0 0)
    × (witness (module-of 1 (8 ∷ 8 ∷ 8 ∷ []) (variable 3 ∷ variable 1 ∷ []) (posedge-clock ∷ [])) ≡ a_wire 19 0 0 0 1)
unfolding seeking
reading = (refl, refl, refl)

-- The 33rd wait is thread 1's at place 16; document 01's flip-flop breaks no rule.
pub counting : (witness (threads-of (waits 15 ∷ waits 16 ∷ [])) ≡ a_place 20 1 16) × (witness flip_flop ≡ bare 0)
unfolding seeking waits
counting = (refl, refl)
