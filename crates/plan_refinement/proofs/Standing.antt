-- An expression that lies flattened in the plan's nodes stands in the plan. Assumes nothing.
use mathlib.Core.Path.{◌≡◌, ap, ◌∙◌}
use mathlib.Core.List.{List}
use Prim.Native.Nat.{ℕ, ◌+◌, ◌-◌, ◌<◌, ◌≤◌}
use native.Mathlib.Omega.{arith}
use lib.ListN.{length, get_or}
use borrow.Author.Tests.{le-leb}
use Rattle.values.specs.declared.Value.{Value}
use Rattle.sheet.specs.Expression.{Expr}
use Rattle.evaluation.specs.Evaluation.{eval}
use Rattle.values.specs.Cells as cell
use Rattle.values.specs.Cells.{cell_at}
use Rattle.plan.specs.declared.Expression.{Expression}
use Rattle.plan.specs.Plan.{Node, Plan}
use Rattle.plan.proofs.Sections.{slot_same}
use Rattle.plan_nodes.specs.Nodes.{work_from, work}
use Rattle.plan_nodes.specs.Flat.{Flat, a-variable, a-constant, an-unknown, a-unary, a-binary, a-conditional}
use Rattle.plan_nodes.proofs.Flat.{Done, flat-eval}
use Rattle.plan_engine.specs.Live.{root_of, evaluate, worth}
use Rattle.plan_refinement.specs.Refinement.{Stands}

-- The nodes from the first to the root are as many as the expression has.
flat-count : {f : ℕ → Node} {base n r k : ℕ} {e : Expr} → base ≤ n → Flat f base n e r k → r + 1 - n ≡ k
flat-count b (a-variable h) = omega arith
flat-count b (a-constant h e) = omega arith
flat-count b (an-unknown w e) = omega arith
flat-count b (a-unary h i j x e) = omega arith
flat-count b (a-binary h i j x y e) = omega arith
flat-count b (a-conditional x y z e) = omega arith

module _ (q : Plan) (base : ℕ) (e : Expr) (x : Expression) (k : ℕ) (flat : Flat q.node base x.first e x.root k)
    (few : base ≤ 80) (above : 80 ≤ x.first) (room : x.first + k ≤ 4176) (root : x.root < x.first + k) where
  worked-from : (cs : List ℕ) → evaluate q x cs ≡ work_from q.node x.first k cs
  unfolding evaluate root_of work
  worked-from cs =
      rw (
        slot_same x.root (omega arith),
        le-leb (x.root + 1) 4176 (omega arith),
        flat-count (omega arith) flat,
      )

  worth-at : (f : ℕ → Value) (cs : List ℕ)
      → Done cs (work_from q.node x.first k cs) x.first x.root k (eval f e) → cell.value_of (worth q x cs) ≡ eval f e
  unfolding worth root_of cell_at
  worth-at f cs d = rw (worked-from cs, slot_same x.root (omega arith)) d.value

  pub flat-stands : Stands q e x
  flat-stands cs f l h =
      let d = flat-eval q.node base cs f l (omega arith) room (λ v u. h v (omega arith)) flat in
      let w = worked-from cs in
      record {
        value = worth-at f cs d;
        kept = λ v u. ap (λ (ds : List ℕ). get_or ds v 0) w ∙ d.kept v (omega arith);
        long = ap length w ∙ d.long ∙ l;
      }
