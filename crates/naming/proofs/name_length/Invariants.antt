-- `naming::name_length` meets its contract. The loop's invariant: the bytes passed and the rest of the name are the whole.
-- Assumes nothing.
use Prim.Native.Nat.{◌≤◌, ◌-◌, ◌+◌, ◌*◌}
use mathlib.Core.Path.{◌≡◌, sym, ap}
use borrow.Author.Rules.{rules}
use lib.ListN.{length}
use Rattle.naming.specs.Naming.{name_from, name_of}
use Rattle.naming.proofs.Naming.{name_of-past, count_none, count-end, count-all, count-more}
use Rattle.naming.proofs.name_length.Given as goal

abbrev pub invariant-loop-n : goal.invariant-loop-n
invariant-loop-n l =
    (l.n ≤ 32) × (l.n + length (name_from (32 - l.n) l.names (l.v * 32 + l.n)) ≡ length (name_of l.names l.v))
