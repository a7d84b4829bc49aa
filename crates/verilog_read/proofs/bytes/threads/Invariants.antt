-- `verilog_read::bytes::threads` meets its contract. The loop's invariant: what is still to be written gives the whole. Assumes nothing.
use borrow.Author.Rules.{rules}
use mathlib.Core.Path.{◌≡◌}
use Prim.Native.Nat.{◌-◌}
use native.Mathlib.Omega.{arith}
use Rattle.writing.specs.Buffer.{filled}
use Rattle.verilog_names.specs.Chosen.{capped}
use Rattle.verilog_names.proofs.Chosen.{capped-kept}
use Rattle.verilog_read.specs.Read.{each, thread_at}
use Rattle.verilog_read.proofs.Turns.{each_all, each_turn, each_over}
use Rattle.verilog_read.proofs.bytes.threads.Given as goal

abbrev pub invariant-loop-i : goal.invariant-loop-i
invariant-loop-i l =
    each (thread_at l.kinds l.table l.roles l.count) (l.n - l.i) l.i (filled l.out l.p) ≡ each (thread_at l.kinds l.table l.roles l.count) (capped l.count) 0 (filled l.initial.out l.pos)
