-- What is printed of small tables, computed by the definitions.
use mathlib.Core.Path.{◌≡◌, refl}
use Prim.Native.Nat.{ℕ}
use mathlib.Core.List.{List, [], ◌∷◌, ◌++◌}
use lib.ListN.{replicate, take}
use Rattle.writing.specs.Ascii.{ascii}
use Rattle.writing.specs.Numbers.{digits, decimal}
use Rattle.naming.specs.Naming.{plain_mark, plain_number, plain_name, plain_byte, plain_bytes, plain_table, name_from, name_of}
use Rattle.signs.specs.Signs.{sign, constant_text, unknown_text}
use Rattle.nextstate.specs.Nodes.{Node, a_variable, a_constant, a_unary, a_binary, a_conditional, a_branch, four_words, node_words, all_words, node_from, node_at}
use Rattle.netlist.specs.Cells.{node_in, is_operator, blank, count_below}
use Rattle.netlist.specs.Uses.{operands_of, one_more, counted, all_counted, operand_uses, entry_uses, uses_of, named}
use Rattle.netlist.specs.Infix.{node_name, written, operand_below, infix_text, own_text, node_line, entry_line, place_line}
use Rattle.netlist.specs.Dot.{unblanked, label, edge, plain_edge, lettered_edge, arms, edges, dot_node}

-- ---- what the samples compute with: an `unfolding` line that names one of these opens all that its own line names

unfoldable pub reading : Unit {0}
unfolding all_words node_words four_words node_at node_from node_in operands_of one_more counted all_counted operand_uses entry_uses uses_of is_operator named
reading = tt

unfoldable pub naming : Unit {0}
unfolding name_of name_from plain_table plain_bytes plain_byte plain_name plain_number plain_mark decimal digits ascii sign constant_text unknown_text
naming = tt

unfoldable pub printing : Unit {0}
unfolding reading naming node_name written operand_below infix_text own_text node_line entry_line place_line
printing = tt

-- ---- a counter: i0 the clock, i1 a step, r0 the count. The sum n4 is used twice.

abbrev nodes : List Node
nodes =
    a_variable 0 ∷ a_variable 1 ∷ a_variable 2 ∷ a_constant 8 1 ∷ a_binary 6 2 3 ∷ a_unary 2 1 ∷ a_conditional 5 2 4 ∷ a_branch 1 6 4 ∷ []

abbrev words : List ℕ
words = all_words nodes

-- One row: r0 becomes n7, the place is n3.
abbrev row : List ℕ
row = 7 ∷ replicate 31 0 ++ (3 ∷ [])

abbrev names : List ℕ
names = plain_table 2 1

abbrev counts : List ℕ
counts = uses_of words row 8 1

pub counted-uses : take 8 counts ≡ (2 ∷ 2 ∷ 2 ∷ 2 ∷ 2 ∷ 1 ∷ 1 ∷ 1 ∷ [])
unfolding reading
counted-uses = refl

pub sum-line : node_line names words counts 4 ≡ ascii "n4 = (r0 + 8'd1)\n"
unfolding printing
sum-line = refl

pub register-line : entry_line names words counts 2 7 ≡ ascii "  r0 <= if(i1, (!i1 ? r0 : n4), n4)\n"
unfolding printing
register-line = refl

pub place-line : place_line names words counts 3 ≡ ascii "  next place: 8'd1\n"
unfolding printing
place-line = refl

-- An operand that isn't earlier, and a number past the table, stand by their numbers.
pub no_operand :
    (own_text names (all_words (a_variable 0 ∷ a_unary 1 1 ∷ [])) [] 1 ≡ ascii "~n1")
    × (infix_text names words counts 5000 ≡ ascii "n5000")
unfolding printing
no_operand = (refl, refl)

-- Eight nodes, in any table that is 0 from there on; none at all counts as node 0.
pub node_counts :
    (count_below words 12 ≡ 8)
    × (count_below [] 12 ≡ 1)
unfolding reading count_below blank
node_counts = (refl, refl)

pub graph :
    (dot_node names words 4 ≡ ascii "  n4 [label=\"+\"];\n  n4 -> n2;\n  n4 -> n3;\n")
    × (dot_node names words 7
    ≡ ascii "  n7 [label=\"if\"];\n  n7 -> n1 [label=\"c\"];\n  n7 -> n6 [label=\"a\"];\n  n7 -> n4 [label=\"b\"];\n")
    × (dot_node names words 3 ≡ ascii "  n3 [label=\"8'd1\"];\n")
unfolding printing unblanked label edge plain_edge lettered_edge arms edges dot_node
graph = (refl, refl, refl)
