-- One node of lent tables, as the code reads it.
use Rattle.std.specs.Prelude.{ℕ, zero, suc, ◌+◌, ◌*◌, Bool, true, false, ◌&&◌, List, get_or, ltb, eqb}
use Rattle.values.specs.Values.{pick}
use Rattle.nextstate.specs.Nodes.{Node, a_variable, a_constant, an_unknown, a_unary, a_binary, a_conditional, a_branch, node_at}

-- ---- node_in: node n of the 4,096 in the lent words; past them an unknown constant of width 0, which no table may hold

unfoldable pub node_in : List ℕ → ℕ → Node
node_in ws n = pick (ltb n 4096) (node_at ws n) (an_unknown 0)

-- ---- is_operator: is a node one that works something out, and no variable or constant?

unfoldable pub is_operator : Node → Bool
is_operator (a_variable v) = false
is_operator (a_constant w n) = false
is_operator (an_unknown w) = false
is_operator (a_unary o a) = true
is_operator (a_binary o a b) = true
is_operator (a_conditional c a b) = true
is_operator (a_branch c a b) = true

-- ---- node_count: one past the last node with a word that isn't 0. "what isn't filled is set to 0"; node 0, which is variable 0,
-- has no other words and is always there.

-- Are node n's four words 0?
unfoldable pub blank : List ℕ → ℕ → Bool
blank ws n =
    eqb (get_or ws (4 * n) 0) 0 && (eqb (get_or ws (4 * n + 1) 0) 0 && (eqb (get_or ws (4 * n + 2) 0) 0 && eqb (get_or ws (4 * n + 3) 0) 0))

-- Among the nodes below n.
unfoldable pub count_below : List ℕ → ℕ → ℕ
count_below ws zero = 1
count_below ws (suc n) = pick (blank ws n) (count_below ws n) (suc n)

unfoldable pub node_count : List ℕ → ℕ
node_count ws = count_below ws 4096
