-- `listings::print_code` meets its contract. The loop's invariant: what is still to be put gives the whole. Assumes nothing.
use Prim.Native.Nat.{◌≤◌, ◌-◌}
use mathlib.Core.Path.{◌≡◌}
use Rattle.writing.specs.Buffer.{filled, puts}
use Rattle.listings.specs.Lines.{code_lines}
use Rattle.listings.proofs.print_code.Given as goal

abbrev pub invariant-loop-place : goal.invariant-loop-place
invariant-loop-place l =
    (l.place ≤ l.size) × (puts (filled l.text l.p) (code_lines l.sheet l.definitions l.code l.thread (l.size - l.place) l.place) ≡ puts (filled l.initial.text l.pos) (code_lines l.sheet l.definitions l.code l.thread l.size 0))
