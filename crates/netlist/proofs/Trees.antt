-- What the text says. It is the text of a tree, whose leaves are variables, constants and nodes by their numbers; and wherever widths and
-- values of the nodes meet every node's own equation, the tree of a node has the node's width and value. So a node that is written out
-- where it is used says there what its number says. Assumes nothing.
use mathlib.Core.Path.{◌≡◌, refl, sym, ap, ◌∙◌}
use mathlib.Core.Bool.{Bool, true, false}
use mathlib.Core.List.{List, ◌++◌}
use Prim.Native.Nat.{ℕ, zero, suc, ◌%◌, ◌≤◌, ◌<◌}
use native.Mathlib.Omega.{arith}
use lib.ListN.{get_or}
use lib.Dec.{eqb}
use borrow.Author.Tests.{eqb-true}
use Rattle.values.specs.declared.Value.{Value}
use Rattle.values.specs.Values.{pick, known, all_unknown, nowhere, holds}
use Rattle.values.specs.Operators.{unary_width, binary_width, unary, binary, choice}
use Rattle.writing.specs.Ascii.{ascii}
use Rattle.naming.specs.Naming.{name_of}
use Rattle.signs.specs.Signs.{sign, constant_text, unknown_text}
use Rattle.nextstate.specs.Nodes.{Node, a_variable, a_constant, an_unknown, a_unary, a_binary, a_conditional, a_branch, node_width, node_value}
use Rattle.netlist.specs.Cells.{node_in}
use Rattle.netlist.specs.Uses.{named}
use Rattle.netlist.specs.Infix.{node_name, written, operand_below, infix_text, own_text}

-- ---- trees

pub data Tree : Type 0 where
  variable : ℕ → Tree
  constant : ℕ → ℕ → Tree
  unknown : ℕ → Tree
  number : ℕ → Tree
  unary_of : ℕ → Tree → Tree
  binary_of : ℕ → Tree → Tree → Tree
  conditional : Tree → Tree → Tree → Tree
  branch : Tree → Tree → Tree → Tree

-- A node, where `operand` gives the tree of a node by its number.
unfoldable pub grown : (ℕ → Tree) → Node → Tree
grown operand (a_variable v) = variable v
grown operand (a_constant w n) = constant w n
grown operand (an_unknown w) = unknown w
grown operand (a_unary o a) = unary_of o (operand a)
grown operand (a_binary o a b) = binary_of o (operand a) (operand b)
grown operand (a_conditional c a b) = conditional (operand c) (operand a) (operand b)
grown operand (a_branch c a b) = branch (operand c) (operand a) (operand b)

-- Node m as an operand of node n, as `operand_below`.
unfoldable pub tree_below : List ℕ → List ℕ → ℕ → ℕ → Tree
tree_below ws us zero m = number m
tree_below ws us (suc n) m =
    pick (eqb m n) (pick (named ws us n) (number n) (grown (tree_below ws us n) (node_in ws n))) (tree_below ws us n m)

-- ---- the text of a tree

unfoldable pub shown : List ℕ → Tree → List ℕ
shown names (variable v) = name_of names v
shown names (constant w n) = constant_text (w % 256) n
shown names (unknown w) = unknown_text (w % 256)
shown names (number n) = node_name n
shown names (unary_of o a) = sign o ++ shown names a
shown names (binary_of o a b) = ascii "(" ++ shown names a ++ sign o ++ shown names b ++ ascii ")"
shown names (conditional c a b) =
    ascii "(" ++ shown names c ++ ascii " ? " ++ shown names a ++ ascii " : " ++ shown names b ++ ascii ")"
shown names (branch c a b) =
    ascii "if(" ++ shown names c ++ ascii ", " ++ shown names a ++ ascii ", " ++ shown names b ++ ascii ")"

module _ (names : List ℕ) where
  two : (o : ℕ) {a b x y : List ℕ} → a ≡ x → b ≡ y
      → ascii "(" ++ a ++ sign o ++ b ++ ascii ")" ≡ ascii "(" ++ x ++ sign o ++ y ++ ascii ")"
  two o p q = cc

  three : (s t u : List ℕ) {a b c x y z : List ℕ} → a ≡ x → b ≡ y → c ≡ z
      → s ++ a ++ t ++ b ++ u ++ c ++ ascii ")" ≡ s ++ x ++ t ++ y ++ u ++ z ++ ascii ")"
  three s t u p q r = cc

  shown-grown : (f : ℕ → Tree) (g : ℕ → List ℕ) → ((m : ℕ) → shown names (f m) ≡ g m)
      → (d : Node) → shown names (grown f d) ≡ written names g d
  unfolding shown grown written
  shown-grown f g h (a_variable v) = refl
  shown-grown f g h (a_constant w n) = refl
  shown-grown f g h (an_unknown w) = refl
  shown-grown f g h (a_unary o a) = ap (λ x. sign o ++ x) (h a)
  shown-grown f g h (a_binary o a b) = two o (h a) (h b)
  shown-grown f g h (a_conditional c a b) = three (ascii "(") (ascii " ? ") (ascii " : ") (h c) (h a) (h b)
  shown-grown f g h (a_branch c a b) = three (ascii "if(") (ascii ", ") (ascii ", ") (h c) (h a) (h b)

  module _ (ws us : List ℕ) where
    shown-below : (n m : ℕ) → shown names (tree_below ws us n m) ≡ operand_below names ws us n m
    unfolding shown tree_below operand_below
    shown-below zero m = refl
    shown-below (suc n) m =
        by (eqb m n) (named ws us n)
        (shown-grown (tree_below ws us n) (operand_below names ws us n) (λ k. shown-below n k) (node_in ws n))
        (shown-below n m)
      where
        by : (t u : Bool)
            → shown names (grown (tree_below ws us n) (node_in ws n)) ≡ written names (operand_below names ws us n) (node_in ws n)
            → shown names (tree_below ws us n m) ≡ operand_below names ws us n m
            → shown names (pick t (pick u (number n) (grown (tree_below ws us n) (node_in ws n))) (tree_below ws us n m))
            ≡ pick t (pick u (node_name n) (written names (operand_below names ws us n) (node_in ws n))) (operand_below names ws us n m)
        by true true p q = refl
        by true false p q = p
        by false u p q = q

    -- The text of a node in a row is that of its tree.
    pub shown-infix : (n : ℕ) → shown names (tree_below ws us 4096 n) ≡ infix_text names ws us n
    unfolding infix_text
    shown-infix n = shown-below 4096 n

    -- The text of a node that has a line of its own.
    pub shown-own : (n : ℕ) → shown names (grown (tree_below ws us n) (node_in ws n)) ≡ own_text names ws us n
    unfolding own_text
    shown-own n = shown-grown (tree_below ws us n) (operand_below names ws us n) (shown-below n) (node_in ws n)

-- ---- the width and the value of a tree: variables have the widths vw and the values of f, nodes the widths ls and the values vs

module _ (vw : List ℕ) (f : ℕ → Value) (ls : List ℕ) (vs : List Value) where
  unfoldable pub width_of : Tree → ℕ
  width_of (variable v) = get_or vw v 0
  width_of (constant w n) = w
  width_of (unknown w) = w
  width_of (number n) = get_or ls n 0
  width_of (unary_of o a) = unary_width o (width_of a)
  width_of (binary_of o a b) = binary_width o (width_of a)
  width_of (conditional c a b) = width_of a
  width_of (branch c a b) = width_of a

  unfoldable pub value_of : Tree → Value
  value_of (variable v) = f v
  value_of (constant w n) = known n
  value_of (unknown w) = all_unknown w
  value_of (number n) = get_or vs n nowhere
  value_of (unary_of o a) = unary o (width_of a) (value_of a)
  value_of (binary_of o a b) = binary o (width_of a) (value_of a) (value_of b)
  value_of (conditional c a b) = choice (value_of c) (value_of a) (value_of b)
  value_of (branch c a b) = pick (holds (value_of c)) (value_of a) (value_of b)

  -- Every node's own equation.
  pub record Meets (ws : List ℕ) : Type 0 where
    pub widths : (n : ℕ) → n < 4096 → get_or ls n 0 ≡ node_width vw ls (node_in ws n)
    pub values : (n : ℕ) → n < 4096 → get_or vs n nowhere ≡ node_value ls f vs (node_in ws n)

  module _ (g : ℕ → Tree) (h : (m : ℕ) → width_of (g m) ≡ get_or ls m 0) where
    width-grown : (d : Node) → width_of (grown g d) ≡ node_width vw ls d
    unfolding width_of grown node_width
    width-grown (a_variable v) = refl
    width-grown (a_constant w n) = refl
    width-grown (an_unknown w) = refl
    width-grown (a_unary o a) = ap (λ w. unary_width o w) (h a)
    width-grown (a_binary o a b) = ap (λ w. binary_width o w) (h a)
    width-grown (a_conditional c a b) = h a
    width-grown (a_branch c a b) = h a

    module _ (k : (m : ℕ) → value_of (g m) ≡ get_or vs m nowhere) where
      value-grown : (d : Node) → value_of (grown g d) ≡ node_value ls f vs d
      unfolding value_of grown node_value
      value-grown (a_variable v) = refl
      value-grown (a_constant w n) = refl
      value-grown (an_unknown w) = refl
      value-grown (a_unary o a) = let p = h a in let q = k a in cc
      value-grown (a_binary o a b) = let p = h a in let q = k a in let r = k b in cc
      value-grown (a_conditional c a b) = let p = k c in let q = k a in let r = k b in cc
      value-grown (a_branch c a b) =
          ap (λ x. pick (holds x) (value_of (g a)) (value_of (g b))) (k c)
          ∙ ap (λ x. pick (holds (get_or vs c nowhere)) x (value_of (g b))) (k a)
          ∙ ap (λ x. pick (holds (get_or vs c nowhere)) (get_or vs a nowhere) x) (k b)

  module _ (ws us : List ℕ) (s : Meets ws) where
    width-below : (n m : ℕ) → n ≤ 4096 → width_of (tree_below ws us n m) ≡ get_or ls m 0
    unfolding width_of tree_below
    width-below zero m l = refl
    width-below (suc n) m l =
        by (eqb m n) refl (named ws us n)
        (width-grown (tree_below ws us n) (λ j. width-below n j (omega arith)) (node_in ws n) ∙ sym (s.widths n (omega arith)))
        (width-below n m (omega arith))
      where
        by : (t : Bool) → eqb m n ≡ t → (u : Bool)
            → width_of (grown (tree_below ws us n) (node_in ws n)) ≡ get_or ls n 0
            → width_of (tree_below ws us n m) ≡ get_or ls m 0
            → width_of (pick t (pick u (number n) (grown (tree_below ws us n) (node_in ws n))) (tree_below ws us n m)) ≡ get_or ls m 0
        by true e true p q = ap (λ j. get_or ls j 0) (sym (eqb-true m n e))
        by true e false p q = p ∙ ap (λ j. get_or ls j 0) (sym (eqb-true m n e))
        by false e u p q = q

    value-below : (n m : ℕ) → n ≤ 4096 → value_of (tree_below ws us n m) ≡ get_or vs m nowhere
    unfolding value_of tree_below
    value-below zero m l = refl
    value-below (suc n) m l =
        by (eqb m n) refl (named ws us n)
        (value-grown (tree_below ws us n) (λ j. width-below n j (omega arith)) (λ j. value-below n j (omega arith)) (node_in ws n)
        ∙ sym (s.values n (omega arith)))
        (value-below n m (omega arith))
      where
        by : (t : Bool) → eqb m n ≡ t → (u : Bool)
            → value_of (grown (tree_below ws us n) (node_in ws n)) ≡ get_or vs n nowhere
            → value_of (tree_below ws us n m) ≡ get_or vs m nowhere
            → value_of (pick t (pick u (number n) (grown (tree_below ws us n) (node_in ws n))) (tree_below ws us n m)) ≡ get_or vs m nowhere
        by true e true p q = ap (λ j. get_or vs j nowhere) (sym (eqb-true m n e))
        by true e false p q = p ∙ ap (λ j. get_or vs j nowhere) (sym (eqb-true m n e))
        by false e u p q = q

    -- The tree of a node in a row has the node's value.
    pub infix-value : (n : ℕ) → value_of (tree_below ws us 4096 n) ≡ get_or vs n nowhere
    infix-value n = value-below 4096 n (omega arith)

    -- So has the tree of a node that has a line of its own.
    pub own_value : (n : ℕ) → n < 4096 → value_of (grown (tree_below ws us n) (node_in ws n)) ≡ get_or vs n nowhere
    own_value n h =
        value-grown (tree_below ws us n) (λ j. width-below n j (omega arith)) (λ j. value-below n j (omega arith)) (node_in ws n)
        ∙ sym (s.values n h)
