-- `verilog_stmts::heading` meets its contract. Assumes nothing.
use mathlib.Core.Path.{ap}
use mathlib.Core.List.{[], ◌∷◌}
use Rattle.verilog_stmts.specs.Steps.{write}
use Rattle.verilog_stmts.specs.Stmts.{heading, value, at_token}
use Rattle.verilog_stmts.proofs.Picks.{behind}
use Rattle.verilog_stmts.proofs.heading.Goals as goal

pub returns : goal.returns
unfolding heading
returns c =
    ap (λ s. at_token c.args.at.next s)
    (behind (λ s. value c.args.kinds.now
    c.args.numbers.now
    c.args.count
    (at_token c.args.subject s))
    (behind (λ s. write (0x31 ∷ 0x08 ∷ []) s) c.write-a.ensures
    c.write_pair-b.ensures) c.value-e.ensures)
