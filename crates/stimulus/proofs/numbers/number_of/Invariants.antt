-- `stimulus::numbers::number_of` meets its contract. The loop's invariant: the digits from `i` on make the number what the whole makes it.
-- Assumes nothing.
use mathlib.Core.Path.{◌≡◌}
use lib.ListN.{drop}
use Rattle.stimulus.specs.Numbers.{grown_by, number_of}
use Rattle.stimulus.proofs.numbers.number_of.Given as goal

abbrev pub invariant-loop-i : goal.invariant-loop-i
invariant-loop-i l =
    grown_by l.hex l.a (drop l.i l.word) ≡ number_of l.hex (drop l.from l.word)
