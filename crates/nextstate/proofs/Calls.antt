-- The nodes of a call, computed.
use mathlib.Core.Path.{◌≡◌, refl}
use mathlib.Core.List.{[], ◌∷◌}
use Rattle.sheet.specs.Reading.{ok}
use Rattle.sheet.specs.Expression.{Expr, variable, constant, binary, call, no_more, argument, result, in_turn, if_then}
use Rattle.nextstate.specs.Nodes.{a_variable, a_constant, an_unknown, a_binary, a_branch}
use Rattle.nextstate.specs.Walk.{emit, express}

-- "its arguments, an unknown node for the result": f(5), whose body is f = a.
pub call-order : express (λ v. v) (call 0 8 (argument (constant 8 5) no_more) (result (variable 0))) []
    ≡ ok (record { nodes = a_constant 8 5 ∷ an_unknown 8 ∷ []; node = 0 })
unfolding express emit
call-order = refl

-- f(a, limit): if (limit < a) f = limit; f = f + 1; called as f(v1, v2).
abbrev capped : Expr
capped =
    call 0 8 (argument (variable 1) (argument (variable 2) no_more))
    (in_turn
    (if_then (binary 9 8 (variable 1) (variable 0)) (result (variable 1)))
    (result (binary 6 8 (variable 2) (constant 8 1))))

-- "then its body's walk, branching that alone": both legs of the if go to the body's end, so that each has a sum.
pub legs-to-the-end : express (λ v. v) capped (a_variable 0 ∷ a_variable 1 ∷ a_variable 2 ∷ [])
    ≡ ok (record {
      nodes =
          a_variable 0 ∷ a_variable 1 ∷ a_variable 2 ∷ an_unknown 8 ∷ a_binary 9 2 1 ∷ a_constant 8 1 ∷ a_binary 6 2 5 ∷ a_constant 8 1 ∷
          a_binary 6 3 7 ∷ a_branch 4 6 8 ∷ [];
      node = 9;
    })
unfolding express emit
legs-to-the-end = refl
