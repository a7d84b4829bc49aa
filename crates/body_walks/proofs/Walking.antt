-- The walk along a body's instructions puts the nodes that the walk of its tree puts. Assumes nothing.
use mathlib.Core.Path.{◌≡◌, refl, sym, ap, ◌∙◌}
use Prim.Native.Nat.{ℕ, ◌+◌, ◌≤◌}
use mathlib.Core.List.{List}
use Rattle.sheet.specs.Reading.{Res, ◌>>=◌}
use Rattle.sheet.specs.Expression.{Expr, Body, nothing, result, in_turn, if_then, if_else}
use Rattle.nextstate.specs.Nodes.{Node, a_branch}
use Rattle.nextstate.specs.Walk.{Emitted, emit, held_in, ends, express, follow}
use Rattle.bodies.specs.Steps.{Step, size_of, lay_out}
use Rattle.bodies.specs.Along.{along}
use Rattle.bodies.proofs.Steps.{Lies}
use Rattle.bodies.proofs.Along.{steps-along}
use Rattle.body_walks.specs.Walking.{Onward, walk_assign, walk_branch, walk_steps}

module _ (ys : List ℕ) where
  -- On the tree.
  follow-along : (b : Body) (next : Onward) → follow ys b next ≡ along (walk_assign ys) (walk_branch ys) b next
  unfolding follow along
  follow-along nothing next = refl
  follow-along (result e) next = refl
  follow-along (in_turn a b) next = ap (follow ys a) (follow-along b next) ∙ follow-along a (along (walk_assign ys) (walk_branch ys) b next)
  follow-along (if_then e a) next = ap (λ (k : Onward). walk_branch ys e k next) (follow-along a next)
  follow-along (if_else e a b) next =
      let x = follow-along a next in
      let y = follow-along b next in
      λ i. walk_branch ys e (x i) (y i)

  -- On the instructions: what the walk of the tree gives, from any node of the result and any nodes.
  pub walk-steps : (fetch : ℕ → Step Expr) (b : Body) (p n r : ℕ) (t : List Node) → Lies fetch p (lay_out b p) → size_of b ≤ n
      → walk_steps ys fetch (p + size_of b) n p r t ≡ follow ys b ends r t
  walk-steps fetch b p n r t h l =
      ap (λ (k : Onward). k r t) (steps-along (walk_assign ys) (walk_branch ys) fetch ends b p n h l ∙ sym (follow-along b ends))
