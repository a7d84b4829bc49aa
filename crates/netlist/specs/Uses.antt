-- How often a node is used, as an operand or as an entry of a row: 0, 1, or 2 for more.
use Rattle.std.specs.Prelude.{ℕ, zero, suc, ◌+◌, ◌*◌, min, Bool, ◌&&◌, List, [], ◌∷◌, get_or, set, replicate, ltb, leb}
use Rattle.values.specs.Values.{pick}
use Rattle.nextstate.specs.Nodes.{Node, a_variable, a_constant, an_unknown, a_unary, a_binary, a_conditional, a_branch}
use Rattle.netlist.specs.Cells.{node_in, is_operator}

-- ---- operands_of

unfoldable pub operands_of : Node → List ℕ
operands_of (a_variable v) = []
operands_of (a_constant w n) = []
operands_of (an_unknown w) = []
operands_of (a_unary o a) = a ∷ []
operands_of (a_binary o a b) = a ∷ b ∷ []
operands_of (a_conditional c a b) = c ∷ a ∷ b ∷ []
operands_of (a_branch c a b) = c ∷ a ∷ b ∷ []

-- ---- counted: one use more of a node. A number past the table is no node's.

unfoldable pub one_more : ℕ → ℕ
one_more u = pick (ltb u 2) (u + 1) 2

unfoldable pub counted : List ℕ → ℕ → List ℕ
counted us n = pick (ltb n 4096) (set us n (one_more (get_or us n 0))) us

unfoldable pub all_counted : List ℕ → List ℕ → List ℕ
all_counted us [] = us
all_counted us (n ∷ ns) = all_counted (counted us n) ns

-- ---- uses_of

-- `us` with the operands of the first n nodes counted.
unfoldable pub operand_uses : List ℕ → List ℕ → ℕ → List ℕ
operand_uses ws us zero = us
operand_uses ws us (suc n) = all_counted (operand_uses ws us n) (operands_of (node_in ws n))

-- `us` with the first k entries counted.
unfoldable pub entry_uses : List ℕ → List ℕ → ℕ → List ℕ
entry_uses rs us zero = us
entry_uses rs us (suc k) = counted (entry_uses rs us k) (get_or rs k 0)

-- Each node's uses, by the first `count` nodes and the first `waits` rows of 33 entries; there are 4,096 nodes and 32 rows at most.
unfoldable pub uses_of : List ℕ → List ℕ → ℕ → ℕ → List ℕ
uses_of ws rs count waits = entry_uses rs (operand_uses ws (replicate 4096 0) (min count 4096)) (33 * min waits 32)

-- ---- named: which nodes have a line of their own, being used more than once

unfoldable pub named : List ℕ → List ℕ → ℕ → Bool
named ws us n = is_operator (node_in ws n) && leb 2 (get_or us n 0)
