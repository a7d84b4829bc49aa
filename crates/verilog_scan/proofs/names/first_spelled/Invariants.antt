-- `verilog_scan::names::first_spelled` meets its contract. The loop's invariant: the first from `i` on is the first of all.
-- Assumes nothing.
use lib.ListN.{take}
use Rattle.verilog_scan.proofs.Spelling.{Sought}
use Rattle.verilog_scan.proofs.names.first_spelled.Given as goal

abbrev pub invariant-loop-i : goal.invariant-loop-i
invariant-loop-i l =
    Sought l.text l.word (take l.names l.starts) l.i
