-- Nodes of the extracted expressions (document 01, "Extraction and the cycle run"), how they lie in the lent words, and what they
-- are worth.
use Rattle.std.specs.Prelude.{ℕ, ◌+◌, ◌*◌, ◌-◌, ◌/◌, ◌%◌, List, [], ◌∷◌, ◌++◌, length, get_or, replicate, leb}
use Rattle.values.specs.declared.Value.{Value}
use Rattle.values.specs.Values.{pick, ◌is◌then◌else◌, known, all_unknown, nowhere, holds}
use Rattle.values.specs.Operators.{unary_width, binary_width, unary, binary, choice}

-- An operand is the number of an earlier node.
pub data Node : Type 0 where
  a_variable : ℕ → Node
  a_constant : ℕ → ℕ → Node
  an_unknown : ℕ → Node
  a_unary : ℕ → ℕ → Node
  a_binary : ℕ → ℕ → ℕ → Node
  a_conditional : ℕ → ℕ → ℕ → Node
  a_branch : ℕ → ℕ → ℕ → Node

-- ---- words: "A node is four 16-bit words: kind (0 variable, 1 constant, 2 unknown constant, 10 plus the operator, 40 branch) and
-- operands (a variable: its number; a constant: width, low half, high half; unknown: width), unused words 0."

unfoldable pub four_words : ℕ → ℕ → ℕ → ℕ → List ℕ
four_words k a b c = k ∷ a ∷ b ∷ c ∷ []

unfoldable pub node_words : Node → List ℕ
node_words (a_variable v) = four_words 0 v 0 0
node_words (a_constant w n) = four_words 1 w (n % 65536) (n / 65536)
node_words (an_unknown w) = four_words 2 w 0 0
node_words (a_unary o a) = four_words (10 + o) a 0 0
node_words (a_binary o a b) = four_words (10 + o) a b 0
node_words (a_conditional c a b) = four_words 20 c a b
node_words (a_branch c a b) = four_words 40 c a b

unfoldable pub all_words : List Node → List ℕ
all_words [] = []
all_words (n ∷ ns) = node_words n ++ all_words ns

-- "what isn't filled is set to 0"
unfoldable pub padded : ℕ → List ℕ → List ℕ
padded n l = l ++ replicate (n - length l) 0

-- ---- a node read from the lent words

-- By its four words. A kind that is none reads as an unknown constant of width 0, which no table may hold.
unfoldable pub node_from : ℕ → ℕ → ℕ → ℕ → Node
node_from k a b c =
    k is 0 then a_variable a else
    k is 1 then a_constant a (b + 65536 * c) else
    k is 2 then an_unknown a else
    k is 20 then a_conditional a b c else
    k is 40 then a_branch a b c else
    pick (leb 11 k) (pick (leb k 12) (a_unary (k - 10) a) (pick (leb k 19) (a_binary (k - 10) a b) (an_unknown 0))) (an_unknown 0)

unfoldable pub node_at : List ℕ → ℕ → Node
node_at ws n = node_from (get_or ws (4 * n) 0) (get_or ws (4 * n + 1) 0) (get_or ws (4 * n + 2) 0) (get_or ws (4 * n + 3) 0)

-- ---- what a node is worth, where the variables have the values of f and the nodes before it those of vs and the widths us

-- Of variables with the widths ws.
unfoldable pub node_width : List ℕ → List ℕ → Node → ℕ
node_width ws us (a_variable v) = get_or ws v 0
node_width ws us (a_constant w n) = w
node_width ws us (an_unknown w) = w
node_width ws us (a_unary o a) = unary_width o (get_or us a 0)
node_width ws us (a_binary o a b) = binary_width o (get_or us a 0)
node_width ws us (a_conditional c a b) = get_or us a 0
node_width ws us (a_branch c a b) = get_or us a 0

-- "A branch node takes its first arm only if the condition holds, x included among the failures."
unfoldable pub node_value : List ℕ → (ℕ → Value) → List Value → Node → Value
node_value us f vs (a_variable v) = f v
node_value us f vs (a_constant w n) = known n
node_value us f vs (an_unknown w) = all_unknown w
node_value us f vs (a_unary o a) = unary o (get_or us a 0) (get_or vs a nowhere)
node_value us f vs (a_binary o a b) = binary o (get_or us a 0) (get_or vs a nowhere) (get_or vs b nowhere)
node_value us f vs (a_conditional c a b) = choice (get_or vs c nowhere) (get_or vs a nowhere) (get_or vs b nowhere)
node_value us f vs (a_branch c a b) = pick (holds (get_or vs c nowhere)) (get_or vs a nowhere) (get_or vs b nowhere)

-- ---- nodes worked out once each, in order

pub record Worked : Type 0 where
  pub widths : List ℕ
  pub values : List Value

module _ (ws : List ℕ) (f : ℕ → Value) where
  unfoldable pub work_out : List Node → Worked → Worked
  work_out [] w = w
  work_out (n ∷ ns) w =
      work_out ns
      (record {
        widths = w.widths ++ (node_width ws w.widths n ∷ []);
        values = w.values ++ (node_value w.widths f w.values n ∷ []);
      })

  unfoldable pub worked : List Node → Worked
  worked ns = work_out ns (record { widths = []; values = [] })
