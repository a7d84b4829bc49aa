-- `verilog::put_terms` meets its contract. The loop's invariant: what is still to be put gives the whole. Assumes nothing.
use Prim.Native.Nat.{◌≤◌, ◌+◌, ◌-◌, ◌*◌}
use mathlib.Core.Path.{◌≡◌}
use lib.ListN.{length}
use Rattle.writing.specs.Buffer.{filled, puts}
use Rattle.naming.specs.Naming.{name_of}
use Rattle.verilog.specs.Printing.{terms_at}
use Rattle.verilog.proofs.put_terms.Given as goal

abbrev pub invariant-loop-k : goal.invariant-loop-k
invariant-loop-k l =
    (l.k ≤ l.count) × (l.q ≡ l.start + 2 * l.k) × (l.start ≤ length l.sheet)
    × (puts (filled l.text l.p) (terms_at (name_of l.names) l.sheet (l.count - l.k) l.k l.q) ≡ puts (filled l.initial.text l.pos)
    (terms_at (name_of l.names) l.sheet l.n 0 l.at))
