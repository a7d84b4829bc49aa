-- `tabulate::digit_count` meets its contract. The loop's invariant: the digits counted and those of the rest are one more
-- than the number's. Assumes nothing.
use Prim.Native.Nat.{◌≤◌, ◌+◌, ◌-◌}
use mathlib.Core.Path.{◌≡◌}
use native.Mathlib.Omega.{arith}
use lib.ListN.{length}
use Rattle.writing.specs.Numbers.{decimal}
use Rattle.writing.proofs.Numbers.{decimal-twenty}
use Rattle.tabulate.proofs.Tabulate.{digits_last, digits-next}
use borrow.Author.Rules.{rules}
use Rattle.tabulate.proofs.digit_count.Given as goal

abbrev pub invariant-loop-rest : goal.invariant-loop-rest
invariant-loop-rest l =
    (l.rest ≤ l.n) × (l.count + length (decimal l.rest) ≡ length (decimal l.n) + 1)

abbrev pub decreases-loop-rest : goal.decreases-loop-rest
decreases-loop-rest l =
    l.rest
