-- `stimulus::numbers::bits_of` meets its contract. The loop's invariant: the digits from `i` on make the bits what the whole makes them.
-- Assumes nothing.
use mathlib.Core.Path.{◌≡◌}
use lib.ListN.{drop}
use Rattle.stimulus.specs.Numbers.{spelt_by, bits_of}
use Rattle.stimulus.proofs.numbers.bits_of.Given as goal

abbrev pub invariant-loop-i : goal.invariant-loop-i
invariant-loop-i l =
    spelt_by l.a (drop l.i l.word) ≡ bits_of (drop l.from l.word)
