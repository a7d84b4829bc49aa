-- The nodes of lent tables, copied into a plan: node n of document 01's words is worked out into cell 80 + n, and a node that is a
-- variable is that variable's own cell. Defined for words of any contents.
use Rattle.std.specs.Prelude.{List, ℕ, zero, suc, ◌+◌, ◌*◌, ltb, leb, get_or, set}
use Rattle.values.specs.Values.{pick, ◌is◌then◌else◌}
use Rattle.plan_exprs.specs.Flatten.{put_node}

-- ---- cell_in: where the value of node n of these words is found

-- "A node is four 16-bit words: kind (0 variable, ..) and operands (a variable: its number; ..)"
unfoldable pub cell_in : List ℕ → ℕ → ℕ
cell_in ns n = get_or ns (4 * n) 0 is 0 then get_or ns (4 * n + 1) 0 else 80 + n

-- ---- a node of kind k with the words a, b, c: its operands are cells

unfoldable pub first_of : List ℕ → ℕ → ℕ → ℕ
first_of ns k a = k is 0 then a else cell_in ns a

-- "a constant: width, low half, high half"
unfoldable pub second_of : List ℕ → ℕ → ℕ → ℕ → ℕ
second_of ns k b c = k is 1 then b + 65536 * c else cell_in ns b

-- The third word is an unknown constant's width, that of an operator's operands, or the third operand of a ?: and of a branch.
unfoldable pub third_of : List ℕ → List ℕ → ℕ → ℕ → ℕ → ℕ
third_of ns us k a c = k is 2 then a else pick (ltb k 20) (get_or us a 0) (cell_in ns c)

module _ (ns us : List ℕ) where
  unfoldable pub put_words : ℕ → ℕ → ℕ → ℕ → ℕ → List ℕ → List ℕ
  put_words n k a b c ws = put_node (80 + n) k (first_of ns k a) (second_of ns k b c) (third_of ns us k a c) ws

  unfoldable pub copy_node : ℕ → List ℕ → List ℕ
  copy_node n ws = put_words n (get_or ns (4 * n) 0) (get_or ns (4 * n + 1) 0) (get_or ns (4 * n + 2) 0) (get_or ns (4 * n + 3) 0) ws

  -- The nodes below n.
  unfoldable pub copy_to : ℕ → List ℕ → List ℕ
  copy_to zero ws = ws
  copy_to (suc n) ws = copy_node n (copy_to n ws)

  -- There are 4,096.
  unfoldable pub copy_all : ℕ → List ℕ → List ℕ
  copy_all count ws = pick (leb count 4096) (copy_to count ws) ws

-- ---- lows: for each node the lowest node that its value needs

unfoldable pub low_in : List ℕ → ℕ → ℕ
low_in ls n = pick (ltb n 4096) (get_or ls n 0) 0

unfoldable pub least : ℕ → ℕ → ℕ
least a b = pick (ltb a b) a b

module _ (ns ls : List ℕ) where
  -- The lower of x and what node n needs; a variable needs no node.
  unfoldable pub lower : ℕ → ℕ → ℕ
  lower n x = get_or ns (4 * n) 0 is 0 then x else least (low_in ls n) x

  -- A node below the operators needs itself, a unary operator its operand too, a binary one two, ?: and a branch three.
  unfoldable pub lowest : ℕ → ℕ → ℕ → ℕ → ℕ → ℕ
  lowest x k a b c =
      pick (ltb k 11) x
      (pick (ltb k 13) (lower a x)
      (pick (ltb k 20) (lower b (lower a x))
      (lower c (lower b (lower a x)))))

unfoldable pub low_node : List ℕ → ℕ → List ℕ → List ℕ
low_node ns n ls =
    set ls n (lowest ns ls n (get_or ns (4 * n) 0) (get_or ns (4 * n + 1) 0) (get_or ns (4 * n + 2) 0) (get_or ns (4 * n + 3) 0))

-- Of the nodes below n.
unfoldable pub lows_to : List ℕ → ℕ → List ℕ → List ℕ
lows_to ns zero ls = ls
lows_to ns (suc n) ls = low_node ns n (lows_to ns n ls)

unfoldable pub low_all : List ℕ → ℕ → List ℕ → List ℕ
low_all ns count ls = pick (leb count 4096) (lows_to ns count ls) ls
