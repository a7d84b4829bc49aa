-- `verilog_errors::faults::token_at` meets its contract. The loop's invariant: the first from `i` on is the first of all.
-- Assumes nothing.
use borrow.Author.Rules.{rules}
use mathlib.Core.Path.{◌≡◌, sym, ◌∙◌}
use Prim.Native.Nat.{◌-◌}
use native.Mathlib.Omega.{arith}
use Rattle.verilog_names.specs.Chosen.{chosen, has_role}
use Rattle.verilog_names.specs.Order.{first_or, next_of}
use Rattle.verilog_names.proofs.Ordering.{first-here, first_on, first_done}
use Rattle.verilog_errors.proofs.Faulting.{token-all, stands_here, stands-elsewhere}
use Rattle.verilog_errors.proofs.faults.token_at.Given as goal

abbrev pub invariant-loop-i : goal.invariant-loop-i
invariant-loop-i l =
    first_or l.n (chosen (has_role l.places l.place) (l.n - l.i) l.i) ≡ next_of l.places l.n l.place 0
