-- `text::print_terms` meets its contract. The loop's invariant: what is still to be put gives the whole.
-- Assumes nothing.
use Prim.Native.Nat.{◌≤◌}
use mathlib.Core.Path.{◌≡◌}
use lib.ListN.{drop}
use Rattle.writing.specs.Buffer.{filled, puts}
use Rattle.text.specs.Listing.{show_terms}
use Rattle.text.specs.Printing.{term_list}
use Rattle.text.proofs.print_terms.Given as goal

abbrev pub invariant-loop-k : goal.invariant-loop-k
invariant-loop-k l =
    (l.k ≤ l.n) × (puts (filled l.text l.p) (show_terms (drop l.k (term_list l.t))) ≡ puts (filled l.initial.text l.pos) (show_terms (term_list l.t)))
