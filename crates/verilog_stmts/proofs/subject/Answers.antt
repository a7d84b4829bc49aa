-- `verilog_stmts::subject` meets its contract. Assumes nothing.
use mathlib.Core.Path.{ap}
use Rattle.verilog_stmts.specs.Stmts.{subject, at_place}
use Rattle.verilog_stmts.proofs.subject.Goals as goal

pub returns : goal.returns
unfolding subject
returns c =
    ap (λ s. at_place c.args.at.pos s) c.condition-e.ensures
