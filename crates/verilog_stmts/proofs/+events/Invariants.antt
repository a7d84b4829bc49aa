use Rattle.verilog_stmts.proofs.+events.Given as goal

abbrev pub decreases-events : goal.decreases-events
decreases-events l = l.fuel
