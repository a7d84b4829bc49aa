-- `verilog_errors::choices::put_list` meets its contract. The loop's invariant: the rows that are left give the whole. Assumes nothing.
use borrow.Author.Rules.{rules}
use mathlib.Core.Path.{◌≡◌, refl, sym, ◌∙◌}
use mathlib.Core.Bool.{true}
use Prim.Native.Nat.{◌-◌}
use Rattle.writing.specs.Buffer.{filled, puts}
use Rattle.verilog_errors.specs.Choices.{could_row, choices_from}
use Rattle.verilog_errors.proofs.Choosing.{rows-over, rows-turn}
use Rattle.verilog_errors.proofs.choices.put_list.Given as goal

abbrev pub invariant-loop-n : goal.invariant-loop-n
invariant-loop-n l =
    puts (filled l.out l.p) (choices_from (could_row l.kinds l.numbers l.count l.at) (45 - l.n) l.n l.first)
    ≡ puts (filled l.initial.out l.pos) (choices_from (could_row l.kinds l.numbers l.count l.at) 45 0 true)
