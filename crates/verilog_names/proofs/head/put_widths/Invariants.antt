-- `verilog_names::head::put_widths` meets its contract. The loop's invariant: what is still to be put gives the whole.
-- Assumes nothing.
use mathlib.Core.Path.{◌≡◌}
use Prim.Native.Nat.{◌-◌}
use Rattle.writing.specs.Buffer.{filled, puts}
use Rattle.verilog_names.specs.Chosen.{chosen, has_role}
use Rattle.verilog_names.specs.Head.{widths_of}
use Rattle.verilog_names.proofs.head.put_widths.Given as goal

abbrev pub invariant-loop-i : goal.invariant-loop-i
invariant-loop-i l =
    puts (filled l.text l.p) (widths_of l.widths (chosen (has_role l.roles l.role) (l.count - l.i) l.i))
    ≡ puts (filled l.initial.text l.pos) (widths_of l.widths (chosen (has_role l.roles l.role) l.count 0))
