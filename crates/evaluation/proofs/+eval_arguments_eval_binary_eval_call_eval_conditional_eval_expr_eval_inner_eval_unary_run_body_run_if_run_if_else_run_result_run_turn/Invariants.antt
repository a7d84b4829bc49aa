-- An expression in a sheet is evaluated, and a body is run, by functions that call each other; each meets its contract.
-- The measure goes by the number of the functions that may be called, then by the depth: a call runs a body that calls earlier functions only, and
-- an expression of depth d hands its operands on at depth d - 1. Assumes nothing.
use Prim.Native.Nat.{◌+◌, ◌-◌, ◌*◌}
use Rattle.evaluation.proofs.+eval_arguments_eval_binary_eval_call_eval_conditional_eval_expr_eval_inner_eval_unary_run_body_run_if_run_if_else_run_result_run_turn.Given as goal

abbrev pub decreases-eval_arguments : goal.decreases-eval_arguments
decreases-eval_arguments l = 20000 * l.names.callable + 512 * l.depth + (l.count - l.k) + 1

abbrev pub decreases-eval_binary : goal.decreases-eval_binary
decreases-eval_binary l = 20000 * l.names.callable + 512 * l.depth + 1

abbrev pub decreases-eval_call : goal.decreases-eval_call
decreases-eval_call l = 20000 * l.names.callable + 512 * l.depth + 300

abbrev pub decreases-eval_conditional : goal.decreases-eval_conditional
decreases-eval_conditional l = 20000 * l.names.callable + 512 * l.depth + 1

abbrev pub decreases-eval_expr : goal.decreases-eval_expr
decreases-eval_expr l = 20000 * l.names.callable + 512 * l.depth

abbrev pub decreases-eval_inner : goal.decreases-eval_inner
decreases-eval_inner l = 20000 * l.names.callable + 512 * l.depth + 301

abbrev pub decreases-eval_unary : goal.decreases-eval_unary
decreases-eval_unary l = 20000 * l.names.callable + 512 * l.depth + 1

abbrev pub decreases-run_body : goal.decreases-run_body
decreases-run_body l = 20000 * l.names.callable + 4 * l.depth + 8300

abbrev pub decreases-run_if : goal.decreases-run_if
decreases-run_if l = 20000 * l.names.callable + 4 * l.depth + 8302

abbrev pub decreases-run_if_else : goal.decreases-run_if_else
decreases-run_if_else l = 20000 * l.names.callable + 4 * l.depth + 8302

abbrev pub decreases-run_result : goal.decreases-run_result
decreases-run_result l = 20000 * l.names.callable + 8300

abbrev pub decreases-run_turn : goal.decreases-run_turn
decreases-run_turn l = 20000 * l.names.callable + 4 * l.depth + 8302
