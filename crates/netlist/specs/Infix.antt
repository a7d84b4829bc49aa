-- Nodes as text with infix operators. A node that is used once stands where it is used; one that is used more than once, and is no
-- variable or constant, has a line of its own and stands elsewhere by its number: so no node is written out twice.
use Rattle.std.specs.Prelude.{ℕ, zero, suc, ◌%◌, List, ◌∷◌, ◌++◌, eqb}
use Rattle.values.specs.Values.{pick}
use Rattle.writing.specs.Ascii.{ascii, byte}
use Rattle.writing.specs.Numbers.{decimal}
use Rattle.naming.specs.Naming.{name_of}
use Rattle.signs.specs.Signs.{sign, constant_text, unknown_text}
use Rattle.nextstate.specs.Nodes.{Node, a_variable, a_constant, an_unknown, a_unary, a_binary, a_conditional, a_branch}
use Rattle.netlist.specs.Cells.{node_in}
use Rattle.netlist.specs.Uses.{named}

-- ---- node_name: as n57

unfoldable pub node_name : ℕ → List ℕ
node_name n = byte "n" ∷ decimal n

-- ---- written: a node, where `operand` gives the text of a node by its number. A branch is not ?:, it takes its second arm on x.
-- A width is that of a byte: no table may hold one over 32.

unfoldable pub written : List ℕ → (ℕ → List ℕ) → Node → List ℕ
written names operand (a_variable v) = name_of names v
written names operand (a_constant w n) = constant_text (w % 256) n
written names operand (an_unknown w) = unknown_text (w % 256)
written names operand (a_unary o a) = sign o ++ operand a
written names operand (a_binary o a b) = ascii "(" ++ operand a ++ sign o ++ operand b ++ ascii ")"
written names operand (a_conditional c a b) =
    ascii "(" ++ operand c ++ ascii " ? " ++ operand a ++ ascii " : " ++ operand b ++ ascii ")"
written names operand (a_branch c a b) =
    ascii "if(" ++ operand c ++ ascii ", " ++ operand a ++ ascii ", " ++ operand b ++ ascii ")"

-- ---- infix: a node as an operand

module _ (names ws us : List ℕ) where
  -- As an operand of node n: by its number where it has a line of its own or isn't earlier, else written out.
  unfoldable pub operand_below : ℕ → ℕ → List ℕ
  operand_below zero m = node_name m
  operand_below (suc n) m =
      pick (eqb m n) (pick (named ws us n) (node_name n) (written names (operand_below n) (node_in ws n))) (operand_below n m)

  -- In a row; a number past the table is no node's.
  unfoldable pub infix_text : ℕ → List ℕ
  infix_text n = operand_below 4096 n

  -- Written out.
  unfoldable pub own_text : ℕ → List ℕ
  own_text n = written names (operand_below n) (node_in ws n)

  -- ---- lines

  -- n57 = (r2 + 8'd1)
  unfoldable pub node_line : ℕ → List ℕ
  node_line n = node_name n ++ ascii " = " ++ own_text n ++ ascii "\n"

  -- A register's next value, as "  r2 <= n57"; `target` is its variable.
  unfoldable pub entry_line : ℕ → ℕ → List ℕ
  entry_line target n = ascii "  " ++ name_of names target ++ ascii " <= " ++ infix_text n ++ ascii "\n"

  -- The place of the next wait.
  unfoldable pub place_line : ℕ → List ℕ
  place_line n = ascii "  next place: " ++ infix_text n ++ ascii "\n"
