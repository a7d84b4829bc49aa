-- `waveform::print_changes` meets its contract. The loop's invariant: what is still to be put gives the whole.
-- Assumes nothing.
use Prim.Native.Nat.{◌≤◌, ◌-◌}
use mathlib.Core.Path.{◌≡◌, sym, ◌∙◌, ap}
use native.Mathlib.Omega.{arith}
use mathlib.Core.List.{[]}
use lib.ListN.{get_or}
use Rattle.values.specs.Values.{pick, same}
use Rattle.values.specs.Cells.{cell_at}
use Rattle.writing.specs.Buffer.{filled, puts}
use Rattle.naming.specs.Naming.{texts, within}
use Rattle.naming.proofs.Naming.{texts-next, texts-done, within-80}
use Rattle.waveform.specs.Waveform.{value_line, value_of, change_of, changes}
use borrow.Author.Rules.{rules}
use Rattle.waveform.proofs.print_changes.Given as goal

abbrev pub invariant-loop-v : goal.invariant-loop-v
invariant-loop-v l =
    (l.v ≤ l.end) × (l.end ≤ 80)
    × (puts (filled l.text l.p) (texts (change_of l.widths (cell_at l.old) (cell_at l.new)) (l.end - l.v) l.v)
    ≡ puts (filled l.initial.text l.pos) (changes l.widths l.n (cell_at l.old) (cell_at l.new)))
