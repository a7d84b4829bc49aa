-- `verilog_errors::spots::put_part` meets its contract. The loop's invariant: what is left of the part gives the whole. Assumes nothing.
use borrow.Author.Rules.{rules}
use mathlib.Core.Path.{◌≡◌, refl, sym, ◌∙◌}
use mathlib.Core.List.{map}
use lib.ListN.{length}
use Rattle.writing.specs.Buffer.{filled, puts}
use Rattle.verilog_errors.specs.Spots.{part, sign_of}
use Rattle.verilog_errors.proofs.Spotting.{shown-none, shown-past, shown-step}
use Rattle.verilog_errors.proofs.spots.put_part.Given as goal

abbrev pub invariant-loop-i : goal.invariant-loop-i
invariant-loop-i l =
    puts (filled l.out l.p) (map (sign_of l.blank) (part l.text l.i l.left)) ≡ puts
    (filled l.initial.out l.pos) (map (sign_of l.blank) (part l.text l.from l.n))
