-- `drawing::put_escaped` meets its contract. The loop's invariant: what is still to be put gives the whole. Assumes nothing.
use mathlib.Core.Path.{◌≡◌}
use lib.ListN.{drop}
use Rattle.drawing.specs.Drawing.{escaped_byte}
use Rattle.tabulate.specs.Tabulate.{columns}
use Rattle.writing.specs.Buffer.{filled, puts}
use Rattle.drawing.proofs.put_escaped.Given as goal

abbrev pub invariant-loop-b : goal.invariant-loop-b
invariant-loop-b l =
    puts (filled l.text l.p) (columns escaped_byte (drop l.b-index l.word))
    ≡ puts (filled l.initial.text l.pos) (columns escaped_byte l.word)
