-- What an expression is worth (document 01, "Values and pseudo-code"; document 02, [5]), and which variables it reads.
use Rattle.std.specs.Prelude.{ℕ, Bool, false, ◌||◌, List, [], ◌∷◌, ◌++◌, eqb, get_or}
use Rattle.values.specs.declared.Value.{Value}
use Rattle.values.specs.Values.{pick, known, all_unknown, nowhere, holds}
use Rattle.values.specs.Operators as operators
use Rattle.sheet.specs.Expression.{Expr, variable, constant, unknown, unary, binary, conditional, call, Arguments, no_more, argument}
use Rattle.sheet.specs.Expression.{Body, nothing, result, in_turn, if_then, if_else}

-- ---- frame: the values of a body's variables, of the arguments' values and the result's

-- "Inside a body, variable bytes 0 up name the parameters and the next byte the result".
abbrev pub frame : List Value → Value → ℕ → Value
frame ys r v = get_or (ys ++ (r ∷ [])) v nowhere

-- ---- eval: the value, where the variables have the values of an environment

-- "A value is a number below 2^width or x as a whole." "An operator with an x operand gives x; ?: gives x on an
-- x condition and else the chosen arm": that is in the operators.
unfoldable mutual
  pub eval : (ℕ → Value) → Expr → Value
  eval env (variable v) = env v
  eval env (constant w n) = known n
  eval env (unknown w) = all_unknown w
  eval env (unary o w a) = operators.unary o w (eval env a)
  eval env (binary o w a b) = operators.binary o w (eval env a) (eval env b)
  eval env (conditional c a b) = operators.choice (eval env c) (eval env a) (eval env b)
  -- "Working out a call runs its body"; "the result, the only target, which starts unknown".
  eval env (call n w ys b) = run (eval_all env ys) b (all_unknown w)

  pub eval_all : (ℕ → Value) → Arguments → List Value
  eval_all env no_more = []
  eval_all env (argument e ys) = eval env e ∷ eval_all env ys

  -- The result after a body, on these arguments, where it was r before: "A condition holds if some known bit is 1".
  pub run : List Value → Body → Value → Value
  run ys nothing r = r
  run ys (result e) r = eval (frame ys r) e
  run ys (in_turn a b) r = run ys b (run ys a r)
  run ys (if_then e a) r = pick (holds (eval (frame ys r) e)) (run ys a r) r
  run ys (if_else e a b) r = pick (holds (eval (frame ys r) e)) (run ys a r) (run ys b r)

-- ---- reads: does the variable stand in the expression?

-- A call reads what its arguments read: what stands in a body are the body's own variables.
unfoldable mutual
  pub reads : Expr → ℕ → Bool
  reads (variable v) n = eqb v n
  reads (constant w k) n = false
  reads (unknown w) n = false
  reads (unary o w a) n = reads a n
  reads (binary o w a b) n = reads a n || reads b n
  reads (conditional c a b) n = reads c n || reads a n || reads b n
  reads (call f w ys b) n = reads_all ys n

  pub reads_all : Arguments → ℕ → Bool
  reads_all no_more n = false
  reads_all (argument e ys) n = reads e n || reads_all ys n
