-- `verilog_labels::rows::name_all` meets its contract. The loop's invariant: what is still to be laid gives the whole.
-- Assumes nothing.
use borrow.Author.Rules.{rules}
use mathlib.Core.Path.{◌∙◌}
use mathlib.Core.Logic.{⊎_elim}
use native.Mathlib.Omega.{arith}
use Rattle.verilog_labels.proofs.Laying.{Laying, laying-first, laying-in, laying-out, laying-last}
use Rattle.verilog_labels.proofs.rows.name_all.Given as goal

abbrev pub invariant-loop-i : goal.invariant-loop-i
invariant-loop-i l =
    Laying l.text l.begun l.roles l.count l.role l.from l.initial.places l.initial.lengths l.places l.lengths l.k l.i
