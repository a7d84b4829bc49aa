-- Nodes as a Graphviz graph: a line for each node, with a label, and one for each of its operands.
use Rattle.std.specs.Prelude.{ℕ, ◌%◌, List, [], ◌∷◌, ◌++◌, eqb}
use Rattle.values.specs.Values.{pick}
use Rattle.writing.specs.Ascii.{ascii, byte}
use Rattle.naming.specs.Naming.{name_of}
use Rattle.signs.specs.Signs.{sign, constant_text, unknown_text}
use Rattle.nextstate.specs.Nodes.{Node, a_variable, a_constant, an_unknown, a_unary, a_binary, a_conditional, a_branch}
use Rattle.netlist.specs.Cells.{node_in}
use Rattle.netlist.specs.Infix.{node_name}

-- ---- label

-- A text without its blanks, for an operator's sign.
unfoldable pub unblanked : List ℕ → List ℕ
unblanked [] = []
unblanked (b ∷ bs) = pick (eqb b (byte " ")) (unblanked bs) (b ∷ unblanked bs)

unfoldable pub label : List ℕ → Node → List ℕ
label names (a_variable v) = name_of names v
label names (a_constant w n) = constant_text (w % 256) n
label names (an_unknown w) = unknown_text (w % 256)
label names (a_unary o a) = unblanked (sign o)
label names (a_binary o a b) = unblanked (sign o)
label names (a_conditional c a b) = ascii "?:"
label names (a_branch c a b) = ascii "if"

-- ---- edges

-- "  n5 -> n3"
unfoldable pub edge : ℕ → ℕ → List ℕ
edge n m = ascii "  " ++ node_name n ++ ascii " -> " ++ node_name m

unfoldable pub plain_edge : ℕ → ℕ → List ℕ
plain_edge n m = edge n m ++ ascii ";\n"

-- With a letter: the condition c, the arm a that it chooses, the other arm b.
unfoldable pub lettered_edge : ℕ → ℕ → ℕ → List ℕ
lettered_edge n m letter = edge n m ++ ascii " [label=\"" ++ (letter ∷ []) ++ ascii "\"];\n"

unfoldable pub arms : ℕ → ℕ → ℕ → ℕ → List ℕ
arms n c a b = lettered_edge n c (byte "c") ++ lettered_edge n a (byte "a") ++ lettered_edge n b (byte "b")

unfoldable pub edges : ℕ → Node → List ℕ
edges n (a_variable v) = []
edges n (a_constant w k) = []
edges n (an_unknown w) = []
edges n (a_unary o a) = plain_edge n a
edges n (a_binary o a b) = plain_edge n a ++ plain_edge n b
edges n (a_conditional c a b) = arms n c a b
edges n (a_branch c a b) = arms n c a b

-- ---- a node

unfoldable pub dot_node : List ℕ → List ℕ → ℕ → List ℕ
dot_node names ws n =
    ascii "  " ++ node_name n ++ ascii " [label=\"" ++ label names (node_in ws n) ++ ascii "\"];\n" ++ edges n (node_in ws n)
