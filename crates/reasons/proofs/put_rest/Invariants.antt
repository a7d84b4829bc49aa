-- `reasons::put_rest` meets its contract. The loop's invariant: what is left of the line gives the whole. Assumes nothing.
use mathlib.Core.Path.{◌≡◌, refl, sym, ap, ◌∙◌}
use borrow.Author.Rules.{rules}
use lib.ListN.{length, drop}
use Rattle.writing.specs.Buffer.{filled, puts}
use Rattle.writing.proofs.Buffer.{puts-nil}
use Rattle.reasons.specs.Reasons.{first_line}
use Rattle.reasons.proofs.Reasons.{first-none, first-end, first_step}
use Rattle.reasons.proofs.put_rest.Given as goal

abbrev pub invariant-loop-i : goal.invariant-loop-i
invariant-loop-i l =
    puts (filled l.text l.p) (first_line (drop l.i l.table)) ≡ puts (filled l.initial.text l.pos) (first_line (drop l.from l.table))
