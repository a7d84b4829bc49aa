-- `waveform::put_values` meets its contract. The loop's invariant: what is still to be put gives the whole.
-- Assumes nothing.
use Prim.Native.Nat.{◌≤◌, ◌-◌}
use mathlib.Core.Path.{◌≡◌, sym, ◌∙◌, ap}
use native.Mathlib.Omega.{arith}
use lib.ListN.{get_or}
use Rattle.values.specs.Cells.{cell_at}
use Rattle.writing.specs.Buffer.{filled, puts}
use Rattle.naming.specs.Naming.{texts, within}
use Rattle.naming.proofs.Naming.{texts-next, texts-done, within-80}
use Rattle.waveform.specs.Waveform.{value_line, value_of}
use borrow.Author.Rules.{rules}
use Rattle.waveform.proofs.put_values.Given as goal

abbrev pub invariant-loop-v : goal.invariant-loop-v
invariant-loop-v l =
    (l.v ≤ l.end) × (l.end ≤ 80) × (puts (filled l.text l.p) (texts (value_of l.widths (cell_at l.row)) (l.end - l.v) l.v)
    ≡ puts (filled l.initial.text l.pos) (texts (value_of l.widths (cell_at l.row)) (within l.n) 0))
