-- What is done along a body, on its tree and on its instructions: working it out and walking it go by the same two ways.
use Rattle.std.specs.Prelude.{ℕ, zero, suc, ◌+◌, List, ltb}
use Rattle.values.specs.declared.Value.{Value}
use Rattle.values.specs.Values.{pick, holds}
use Rattle.sheet.specs.Expression.{Expr, Body, nothing, result, in_turn, if_then, if_else}
use Rattle.evaluation.specs.Evaluation.{frame, eval}
use Rattle.bodies.specs.Steps.{Step, set!, go, ifnot}

-- K is what is left to do. An assignment to the result goes on with what is left; an if has two things left, where its
-- condition holds and else.
module _ {K : Type 0} (assign : Expr → K → K) (branch : Expr → K → K → K) where
  -- On the tree, before what is left behind the body.
  unfoldable pub along : Body → K → K
  along nothing k = k
  along (result e) k = assign e k
  along (in_turn a b) k = along a (along b k)
  along (if_then e a) k = branch e (along a k) k
  along (if_else e a b) k = branch e (along a k) (along b k)

  -- One instruction, at place p; `next` goes on at a place.
  unfoldable pub step : (ℕ → K) → ℕ → Step Expr → K
  step next p (set! e) = assign e (next (p + 1))
  step next p (go g) = next g
  step next p (ifnot e g) = branch e (next (p + 1)) (next g)

  -- The instructions from place p on, before what is left at the body's end. Each leads ahead, so that as many as there are
  -- between p and the end are enough.
  unfoldable pub steps : (ℕ → Step Expr) → ℕ → K → ℕ → ℕ → K
  steps fetch end k zero p = k
  steps fetch end k (suc n) p = pick (ltb p end) (step (steps fetch end k n) p (fetch p)) k

-- ---- working out, on these arguments: what is left to do with the result

abbrev pub work_assign : List Value → Expr → (Value → Value) → Value → Value
work_assign ys e k r = k (eval (frame ys r) e)

abbrev pub work_branch : List Value → Expr → (Value → Value) → (Value → Value) → Value → Value
work_branch ys e a b r = pick (holds (eval (frame ys r) e)) (a r) (b r)

-- The result behind the instructions from place p to the end, at most n of them, where it was r before.
abbrev pub run_steps : List Value → (ℕ → Step Expr) → ℕ → ℕ → ℕ → Value → Value
run_steps ys fetch end n p r = steps (work_assign ys) (work_branch ys) fetch end (λ (v : Value). v) n p r
