-- `verilog_errors::faults::first_named` meets its contract. The loop's invariant: the first from `i` on is the first of all.
-- Assumes nothing.
use borrow.Author.Rules.{rules}
use mathlib.Core.Path.{◌≡◌, sym, ◌∙◌}
use Prim.Native.Nat.{◌-◌}
use native.Mathlib.Omega.{arith}
use Rattle.verilog_names.specs.Chosen.{chosen}
use Rattle.verilog_names.specs.Order.{first_or}
use Rattle.verilog_names.proofs.Ordering.{first-here, first_on, first_done}
use Rattle.verilog_errors.specs.Faults.{is_named, first_named}
use Rattle.verilog_errors.proofs.Faulting.{named-all}
use Rattle.verilog_errors.proofs.faults.first_named.Given as goal

abbrev pub invariant-loop-i : goal.invariant-loop-i
invariant-loop-i l =
    first_or l.n (chosen (is_named l.numbers l.roles l.low l.high l.id) (l.n - l.i) l.i) ≡ first_named l.numbers l.roles l.n l.low l.high l.id
