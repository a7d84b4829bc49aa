-- `naming::same_name` meets its contract. The loop's invariant: the texts are equal if their rests are.
-- Assumes nothing.
use Prim.Native.Nat.{◌≤◌}
use mathlib.Core.Path.{◌≡◌, refl, sym, ◌∙◌, ap}
use native.Mathlib.Omega.{arith}
use borrow.Author.Rules.{rules}
use lib.ListN.{length, drop}
use Rattle.naming.specs.Naming.{name_of, same_text}
use Rattle.naming.proofs.Naming.{name_of-past, length-name_of, get_d-name_of}
use Rattle.naming.proofs.Naming.{same_text-length, same_text-step, same_text-differ, same_text-rest}
use Rattle.naming.proofs.same_name.Given as goal

abbrev pub invariant-loop-i : goal.invariant-loop-i
invariant-loop-i l =
    (l.i ≤ l.n) × (l.n ≤ 32) × (same_text (drop l.i (name_of l.names l.v)) (drop l.i l.name) ≡ same_text (name_of l.names l.v) l.name)
