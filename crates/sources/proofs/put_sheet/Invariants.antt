-- `sources::put_sheet` meets its contract. The loop's invariant: the bytes that are left give the whole. Assumes nothing.
use mathlib.Core.Path.{◌≡◌}
use lib.ListN.{length, drop}
use Rattle.writing.specs.Buffer.{filled, puts}
use Rattle.sources.specs.Contents.{hex_from}
use Rattle.sources.proofs.put_sheet.Given as goal

abbrev pub invariant-loop-i : goal.invariant-loop-i
invariant-loop-i l =
    puts (filled l.out l.p) (hex_from (length l.sheet) l.i (drop l.i l.sheet)) ≡ puts (filled l.initial.out l.pos)
    (hex_from (length l.sheet) 0 l.sheet)
