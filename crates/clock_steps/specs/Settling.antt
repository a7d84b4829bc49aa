-- "Settling sets the wires from 0 up, each to its expression's value": on a plan and a plane of cells of any contents.
use Rattle.std.specs.Prelude.{List, ℕ, zero, suc, ◌+◌, ltb, get_or, set}
use Rattle.values.specs.Values.{pick}
use Rattle.plan.specs.Sections.{slot_of}
use Rattle.plan.specs.Plan.{Plan}
use Rattle.plan_nodes.specs.Nodes.{work}

-- A cell's contents put into variable v's cell; there are 80.
unfoldable pub put_cell : ℕ → ℕ → List ℕ → List ℕ
put_cell v c cs = pick (ltb v 80) (set cs v c) cs

module _ (q : Plan) where
  -- The cell of a wire's value.
  unfoldable pub root_of : ℕ → ℕ
  root_of k = slot_of (q.wire k).root

  -- The nodes of wire k worked out.
  unfoldable pub work_wire : ℕ → List ℕ → List ℕ
  work_wire k cs = work q.node (q.wire k).first (root_of k + 1) cs

  -- The value copied into the wire's own cell, after those of inputs and registers.
  unfoldable pub settle_wire : ℕ → List ℕ → List ℕ
  settle_wire k cs = put_cell (q.inputs + q.registers + k) (get_or (work_wire k cs) (root_of k) 0) (work_wire k cs)

  -- The wires below k.
  unfoldable pub settle_to : ℕ → List ℕ → List ℕ
  settle_to zero cs = cs
  settle_to (suc k) cs = settle_wire k (settle_to k cs)

  unfoldable pub settle : List ℕ → List ℕ
  settle cs = settle_to q.wires cs
