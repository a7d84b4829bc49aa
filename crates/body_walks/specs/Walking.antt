-- A body's walk along its instructions (document 02, [5]): "Extraction puts for a call its arguments, an unknown node for the
-- result, then its body's walk, branching that alone."
use Rattle.std.specs.Prelude.{ℕ, List}
use Rattle.sheet.specs.Reading.{Res, ◌>>=◌}
use Rattle.sheet.specs.Expression.{Expr}
use Rattle.nextstate.specs.Nodes.{Node, a_branch}
use Rattle.nextstate.specs.Walk.{Emitted, emit, held_in, ends, express}
use Rattle.bodies.specs.Steps.{Step}
use Rattle.bodies.specs.Along.{steps}

-- What is left to walk, from the result's node and the nodes so far.
abbrev pub Onward : Type 0
Onward = ℕ → List Node → Res Emitted

-- An assignment's expression, on the arguments' nodes: its node is the result's.
abbrev pub walk_assign : List ℕ → Expr → Onward → Onward
walk_assign ys e k r t = do
  x ← express (held_in ys r) e t
  k x.node x.nodes

-- Document 01: "At `ifnot`: the condition, the held leg, the other leg", each to the end, then one branch node, for the result.
abbrev pub walk_branch : List ℕ → Expr → Onward → Onward → Onward
walk_branch ys e a b r t = do
  c ← express (held_in ys r) e t
  x ← a r c.nodes
  y ← b r x.nodes
  emit y.nodes (a_branch c.node x.node y.node)

-- The walk from place p to the body's end, of at most n instructions.
abbrev pub walk_steps : List ℕ → (ℕ → Step Expr) → ℕ → ℕ → ℕ → Onward
walk_steps ys fetch end n p = steps (walk_assign ys) (walk_branch ys) fetch end ends n p
