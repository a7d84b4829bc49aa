-- `naming::put_name` meets its contract. The loop's invariant: what is still to be put gives the whole.
-- Assumes nothing.
use Prim.Native.Nat.{◌≤◌}
use mathlib.Core.Path.{◌≡◌, refl, sym, ◌∙◌, ap}
use mathlib.Core.List.{[], ◌∷◌}
use native.Mathlib.Omega.{arith}
use borrow.Author.Rules.{rules}
use lib.ListN.{length, drop, drop_of_length-le}
use Rattle.writing.specs.Buffer.{filled, puts}
use Rattle.writing.proofs.Buffer.{puts-step, puts-nil}
use Rattle.naming.specs.Naming.{name_of}
use Rattle.naming.proofs.Naming.{name_of-past, length-name_of, get_d-name_of}
use Rattle.naming.proofs.put_name.Given as goal

abbrev pub invariant-loop-i : goal.invariant-loop-i
invariant-loop-i l =
    (l.i ≤ l.n) × (l.n ≤ 32) × (puts (filled l.text l.p) (drop l.i (name_of l.names l.v)) ≡ puts (filled l.initial.text l.pos) (name_of l.names l.v))
