-- `plan_nodes::worth` meets its contract, by the kind.
use Rattle.values.specs.Cells.{cell_at}
use Rattle.plan_nodes.proofs.Nodes.{worth-leaf, worth-unary, worth-binary, worth-choice, worth-branch, worth-none}
use Rattle.plan_nodes.proofs.worth.Goals as goal

pub returns-then-kind-lt-UNARY : goal.returns-then-kind-lt-UNARY
returns-then-kind-lt-UNARY c =
    rw (worth-leaf _ _ _ _ _ c.if-kind-lt-UNARY.true, c.leaf.ensures)

pub returns-then-kind-lt-BINARY : goal.returns-then-kind-lt-BINARY
unfolding cell_at
returns-then-kind-lt-BINARY c =
    rw (
      c.unary_cell.ensures,
      c.low-then-kind-lt-BINARY.ensures,
      c.low.ensures,
      c.slot.ensures.value,
      worth-unary _ _ _ _ _ c.if-kind-lt-UNARY.false c.if-kind-lt-BINARY.true,
    )

pub returns-then-kind-lt-CHOICE : goal.returns-then-kind-lt-CHOICE
unfolding cell_at
returns-then-kind-lt-CHOICE c =
    rw (
      c.binary_cell.ensures,
      c.low-then-kind-lt-CHOICE-2.ensures,
      c.low-then-kind-lt-CHOICE.ensures,
      c.slot.ensures.value,
      c.slot-2.ensures.value,
      worth-binary _ _ _ _ _ c.if-kind-lt-UNARY.false c.if-kind-lt-BINARY.false c.if-kind-lt-CHOICE.true,
    )

pub returns-then-kind-eq-CHOICE : goal.returns-then-kind-eq-CHOICE
unfolding cell_at
returns-then-kind-eq-CHOICE c =
    rw (
      c.choice_cell.ensures,
      c.slot.ensures.value,
      c.slot-2.ensures.value,
      c.slot-3.ensures.value,
      worth-choice _ _ _ _ _ c.if-kind-lt-UNARY.false c.if-kind-lt-CHOICE.false c.if-kind-eq-CHOICE.true,
    )

pub returns-then-kind-eq-BRANCH : goal.returns-then-kind-eq-BRANCH
unfolding cell_at
returns-then-kind-eq-BRANCH c =
    rw (
      c.branch_cell.ensures,
      c.slot.ensures.value,
      c.slot-2.ensures.value,
      c.slot-3.ensures.value,
      worth-branch _ _ _ _ _ c.if-kind-lt-UNARY.false c.if-kind-lt-CHOICE.false c.if-kind-eq-CHOICE.false c.if-kind-eq-BRANCH.true,
    )

pub returns : goal.returns
returns c =
    rw (
      c.store.ensures,
      c.all_unknown.ensures,
      c.low-2.ensures,
      worth-none _ _ _ _ _ c.if-kind-lt-UNARY.false c.if-kind-lt-CHOICE.false c.if-kind-eq-CHOICE.false c.if-kind-eq-BRANCH.false,
    )
