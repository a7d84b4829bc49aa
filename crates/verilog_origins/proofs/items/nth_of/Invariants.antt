-- `verilog_origins::items::nth_of` meets its contract. The loop's invariant: what is left to be counted from `i` on is token k of all.
-- Assumes nothing.
use mathlib.Core.Path.{◌≡◌}
use Prim.Native.Nat.{◌-◌}
use lib.ListN.{get_or}
use Rattle.verilog_names.specs.Chosen.{capped, chosen, has_role}
use Rattle.verilog_origins.specs.Items.{nth_of}
use Rattle.verilog_origins.proofs.items.nth_of.Given as goal

abbrev pub invariant-loop-i : goal.invariant-loop-i
invariant-loop-i l =
    get_or (chosen (has_role l.row l.entry) (l.n - l.i) l.i) l.left l.n ≡ nth_of l.row (capped l.count) l.entry l.k
