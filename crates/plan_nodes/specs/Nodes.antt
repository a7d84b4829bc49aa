-- Nodes, worked out one after the other in a plane of cells. Defined for nodes of any contents: an operand that names no cell is cell 0,
-- an operator's number and a width count modulo 256.
use Rattle.std.specs.Prelude.{List, ℕ, zero, suc, ◌-◌, ◌%◌, ltb, leb, set}
use Rattle.values.specs.declared.Value.{Value}
use Rattle.values.specs.Values.{pick, ◌is◌then◌else◌, known, all_unknown, holds}
use Rattle.values.specs.Operators.{unary, binary, choice}
use Rattle.values.specs.Cells.{cell_of, cell_at}
use Rattle.plan.specs.Sections.{cells, slot_of}
use Rattle.plan.specs.Plan.{Node}

-- ---- worth_of: what a node is worth; g gives the cells' values

-- Document 01's kinds below the operators: "0 variable, 1 constant, 2 unknown constant". A constant's number is the second word.
-- An unknown constant's width is the third word; a kind that is none counts as one.
unfoldable pub leaf_of : (ℕ → Value) → Node → Value
leaf_of g x =
    x.kind is 1 then known x.second else
    x.kind is 0 then g (slot_of x.first) else
    all_unknown (x.third % 256)

-- "10 plus the operator" has its operands' cells and, but for ?:, their width in the third word.
-- "40 branch": "A branch node takes its first arm only if the condition holds, x included among the failures."
unfoldable pub worth_of : (ℕ → Value) → Node → Value
worth_of g x =
    pick (ltb x.kind 11) (leaf_of g x)
    (pick (ltb x.kind 13) (unary op (x.third % 256) first)
    (pick (ltb x.kind 20) (binary op (x.third % 256) first second)
    (x.kind is 20 then choice first second third else
    x.kind is 40 then pick (holds first) second third else
    all_unknown (x.third % 256))))
  where
    op : ℕ
    op = (x.kind - 10) % 256

    first : Value
    first = g (slot_of x.first)

    second : Value
    second = g (slot_of x.second)

    third : Value
    third = g (slot_of x.third)

-- ---- work_from: so many nodes from node i on, each into its own cell

unfoldable pub work_node : (ℕ → Node) → ℕ → List ℕ → List ℕ
work_node f i cs = set cs i (cell_of (worth_of (cell_at cs) (f i)))

unfoldable pub work_from : (ℕ → Node) → ℕ → ℕ → List ℕ → List ℕ
work_from f i zero cs = cs
work_from f i (suc n) cs = work_from f (suc i) n (work_node f i cs)

-- Past the last cell nothing is worked out.
unfoldable pub work : (ℕ → Node) → ℕ → ℕ → List ℕ → List ℕ
work f lo hi cs = pick (leb hi cells) (work_from f lo (hi - lo) cs) cs
