use Prim.Native.Nat.{◌+◌, ◌*◌}
use Rattle.verilog_stmts.proofs.+block_block_rest_case_items_case_statement_conditional_defaulted_items_behind_labelled_or_null_statement.Given as goal

abbrev pub decreases-block : goal.decreases-block
decreases-block l = l.fuel * 262144 + 131082

abbrev pub decreases-block_rest : goal.decreases-block_rest
decreases-block_rest l = l.fuel * 262144 + 2 * l.turns + 4

abbrev pub decreases-case_items : goal.decreases-case_items
decreases-case_items l = l.fuel * 262144 + 2 * l.turns + 4

abbrev pub decreases-case_statement : goal.decreases-case_statement
decreases-case_statement l = l.fuel * 262144 + 131082

abbrev pub decreases-conditional : goal.decreases-conditional
decreases-conditional l = l.fuel * 262144 + 2

abbrev pub decreases-defaulted : goal.decreases-defaulted
decreases-defaulted l = l.fuel * 262144 + 2

abbrev pub decreases-items_behind : goal.decreases-items_behind
decreases-items_behind l = l.fuel * 262144 + 2 * l.turns + 5

abbrev pub decreases-labelled : goal.decreases-labelled
decreases-labelled l = l.fuel * 262144 + 2

abbrev pub decreases-or_null : goal.decreases-or_null
decreases-or_null l = l.fuel * 262144 + 1

abbrev pub decreases-statement : goal.decreases-statement
decreases-statement l = l.fuel * 262144
