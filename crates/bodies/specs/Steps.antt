-- A function's body laid out as instructions, in document 01's shapes: the result is the only target, so that it is not named,
-- and goals lie ahead only.
use Rattle.std.specs.Prelude.{ℕ, ◌+◌, List, [], ◌∷◌, ◌++◌}
use Rattle.sheet.specs.Expression.{Expr, Body, nothing, result, in_turn, if_then, if_else}

-- E is what stands for an expression: its tree, or its place in the sheet.
pub data Step (E : Type 0) : Type 0 where
  set! : E → Step E
  go : ℕ → Step E
  ifnot : E → ℕ → Step E

-- The step with f of its expression.
unfoldable pub map_step : {D E : Type 0} → (D → E) → Step D → Step E
map_step f (set! e) = set! (f e)
map_step f (go g) = go g
map_step f (ifnot e g) = ifnot (f e) g

-- How many instructions a body has.
unfoldable pub size_of : Body → ℕ
size_of nothing = 0
size_of (result e) = 1
size_of (in_turn a b) = size_of a + size_of b
size_of (if_then e a) = size_of a + 1
size_of (if_else e a b) = size_of a + size_of b + 2

-- The instructions of a body whose first one stands at place n. "At place n, with body sizes s and t:
-- if is `ifnot E go n+1+s`; if-else is `ifnot E go n+2+s`, first body, `go n+2+s+t`, second".
unfoldable pub lay_out : Body → ℕ → List (Step Expr)
lay_out nothing n = []
lay_out (result e) n = set! e ∷ []
lay_out (in_turn a b) n = lay_out a n ++ lay_out b (n + size_of a)
lay_out (if_then e a) n = ifnot e (n + 1 + size_of a) ∷ lay_out a (n + 1)
lay_out (if_else e a b) n =
    ifnot e (n + 2 + size_of a) ∷ (lay_out a (n + 1) ++ (go (n + 2 + size_of a + size_of b) ∷ lay_out b (n + 2 + size_of a)))
