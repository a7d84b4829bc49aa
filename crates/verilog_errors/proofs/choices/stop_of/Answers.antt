-- `verilog_errors::choices::stop_of` meets its contract. Assumes nothing.
use borrow.Author.Rules.{rules}
use mathlib.Core.Path.{ap}
use Rattle.verilog_items.specs.Notes.{Notes}
use Rattle.verilog_errors.specs.Choices.{stop_in}
use Rattle.verilog_errors.proofs.choices.stop_of.Goals as goal

pub returns : goal.returns
unfolding stop_in
returns c =
    ap (λ (s : Notes). s.text.put.next) c.read-end.ensures
