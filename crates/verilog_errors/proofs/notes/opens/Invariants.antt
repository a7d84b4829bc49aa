-- `verilog_errors::notes::opens` meets its contract. The loop's invariant: what is left of the word decides. Assumes nothing.
use borrow.Author.Rules.{rules}
use mathlib.Core.Path.{◌≡◌, refl, sym, ◌∙◌}
use Prim.Native.Nat.{◌-◌}
use lib.ListN.{length, take, drop}
use Rattle.verilog_errors.specs.Notes.{opens}
use Rattle.verilog_errors.proofs.Noting.{opens-none, opens-past, opens-short, opens-other, opens-same}
use Rattle.verilog_errors.proofs.notes.opens.Given as goal

abbrev pub invariant-loop-i : goal.invariant-loop-i
invariant-loop-i l =
    opens (take l.left (drop l.i l.word)) (drop l.j l.table) ≡ opens (take l.n l.word) (drop l.from l.table)
