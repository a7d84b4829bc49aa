-- `verilog_errors::notes::put_sentence` meets its contract. The loop's invariant: the lines that are left give the sentence. Assumes nothing.
use borrow.Author.Rules.{rules}
use mathlib.Core.Path.{◌≡◌, refl, sym, ap, ◌∙◌}
use Prim.Native.Nat.{◌-◌}
use lib.ListN.{take, drop}
use Rattle.writing.specs.Buffer.{filled, puts}
use Rattle.verilog_errors.specs.Notes.{sentence_by}
use Rattle.verilog_errors.proofs.Noting.{sentence-none, sentence-hit, sentence-miss}
use Rattle.verilog_errors.proofs.notes.put_sentence.Given as goal

abbrev pub invariant-loop : goal.invariant-loop
invariant-loop l =
    puts (filled l.out l.pos) (sentence_by (64 - l.counter) (take l.n l.word) (drop l.from l.table)) ≡ puts
    (filled l.initial.out l.pos) (sentence_by 64 (take l.n l.word) l.table)
