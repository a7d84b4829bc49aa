-- `verilog_errors::choices::put_choices` meets its contract. Assumes nothing.
use borrow.Author.Rules.{rules}
use Rattle.verilog_errors.proofs.Choosing.{choices-whole}
use Rattle.verilog_errors.proofs.choices.put_choices.Goals as goal

pub returns : goal.returns
returns c =
    choices-whole _ _ _ c.scan.ensures c.short-count.ensures
    c.stop_of-at.ensures c.put_list.ensures
