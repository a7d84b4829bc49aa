-- `verilog_errors::spots::spot_of` meets its contract. The loop's invariant: what is left of the way leads to the place. Assumes nothing.
use borrow.Author.Rules.{rules}
use mathlib.Core.Path.{◌≡◌, refl, sym, ◌∙◌}
use lib.ListN.{length, drop}
use Rattle.verilog_errors.specs.Spots.{spot_from, spot_at, spot_of}
use Rattle.verilog_errors.proofs.Spotting.{spot-over, spot_past, spot-step}
use Rattle.verilog_errors.proofs.spots.spot_of.Given as goal

abbrev pub invariant-loop-i : goal.invariant-loop-i
invariant-loop-i l =
    spot_from l.left (drop l.i l.text) l.s ≡ spot_from l.place l.text (spot_at 1 1)
