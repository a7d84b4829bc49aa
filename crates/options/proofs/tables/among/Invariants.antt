-- `options::tables::among` meets its contract. The loop's invariant: the rest of the line gives what the whole gives. Assumes nothing.
use Prim.Native.Nat.{◌≤◌, ◌<◌, ◌+◌}
use mathlib.Core.Bool.{true}
use mathlib.Core.Path.{◌≡◌}
use lib.ListN.{length, drop}
use Rattle.options.specs.Tables.{among_from}
use Rattle.options.proofs.tables.among.Given as goal

abbrev pub invariant-loop-i : goal.invariant-loop-i
invariant-loop-i l =
    (l.k ≤ l.base + l.i) × (l.n ≤ l.i) × (length l.line < 65536) × (among_from l.word l.k l.n l.same (drop l.i l.line) ≡ among_from l.word l.base 0 true l.line)
