-- One node of lent tables, as the code reads it and judges it. The widths and marks of the nodes before it come from functions of any
-- kind; proofs/Cells says that with those of a list they are nextstate's node_fits, node_width and lands.
use Rattle.std.specs.Prelude.{Bool, false, ◌&&◌, List, ℕ, ◌-◌, ◌^◌, ◌%◌, get_or, ltb, leb, eqb}
use Rattle.values.specs.Values.{pick}
use Rattle.values.specs.Operators.{unary_width, binary_width}
use Rattle.nextstate.specs.Nodes.{Node, a_variable, a_constant, an_unknown, a_unary, a_binary, a_conditional, a_branch}
use Rattle.nodes.specs.declared.Cell.{Cell}
use Rattle.nodes.specs.declared.Cell.TheVariants.{Variable, Constant, Blank, Unary, Binary, Conditional, Branch}

-- ---- the code's answer as a node

unfoldable pub node_of : Cell → Node
node_of (Variable v) = a_variable v
node_of (Constant w n) = a_constant w n
node_of (Blank w) = an_unknown w
node_of (Unary o a) = a_unary o a
node_of (Binary o a b) = a_binary o a b
node_of (Conditional c a b) = a_conditional c a b
node_of (Branch c a b) = a_branch c a b

-- The last clause of `node_from`.
unfoldable pub operator_of : ℕ → ℕ → ℕ → Node
operator_of k a b =
    pick (leb 11 k) (pick (leb k 12) (a_unary (k - 10) a) (pick (leb k 19) (a_binary (k - 10) a b) (an_unknown 0))) (an_unknown 0)

-- ---- the widths of the nodes, as they lie in the code's table of 4,096

unfoldable pub size_in : List ℕ → ℕ → ℕ
size_in us n = pick (ltb n 4096) (get_or us n 0) 0

-- ---- does node number n fit, where there are so many variables?

-- A constant's or unknown's width is 1 to 32.
unfoldable pub is_width : ℕ → Bool
is_width w = leb 1 w && leb w 32

-- The arms of an operator, ?: or branch are earlier nodes of one width.
unfoldable pub arms_fit : ℕ → (ℕ → ℕ) → ℕ → ℕ → Bool
arms_fit n size a b = ltb a n && (ltb b n && eqb (size a) (size b))

module _ (variables n : ℕ) (size : ℕ → ℕ) where
  unfoldable pub fits_at : Node → Bool
  fits_at (a_variable v) = ltb v variables
  fits_at (a_constant w k) = is_width w && ltb k (2 ^ w)
  fits_at (an_unknown w) = is_width w
  fits_at (a_unary o a) = ltb a n
  fits_at (a_binary o a b) = arms_fit n size a b
  fits_at (a_conditional c a b) = ltb c n && arms_fit n size a b
  fits_at (a_branch c a b) = ltb c n && arms_fit n size a b

-- ---- the width of a node, in a byte: one that fits has at most 32

module _ (ws : List ℕ) (size : ℕ → ℕ) where
  unfoldable pub width_at : Node → ℕ
  width_at (a_variable v) = get_or ws v 0
  width_at (a_constant w n) = w % 256
  width_at (an_unknown w) = w % 256
  width_at (a_unary o a) = unary_width o (size a)
  width_at (a_binary o a b) = binary_width o (size a)
  width_at (a_conditional c a b) = size a
  width_at (a_branch c a b) = size a

-- ---- does node number n stand for a wait? `waits` says of a place whether it is one, g of the nodes before

-- The marks of the nodes, as they lie in the code's table.
unfoldable pub marks_in : List Bool → ℕ → Bool
marks_in xs n = pick (ltb n 4096) (get_or xs n false) false

module _ (waits : ℕ → Bool) (n : ℕ) (g : ℕ → Bool) where
  unfoldable pub lands_at : Node → Bool
  lands_at (a_variable v) = false
  lands_at (a_constant w p) = eqb w 8 && waits p
  lands_at (an_unknown w) = false
  lands_at (a_unary o a) = false
  lands_at (a_binary o a b) = false
  lands_at (a_conditional c a b) = false
  lands_at (a_branch c a b) = (ltb a n && g a) && (ltb b n && g b)
