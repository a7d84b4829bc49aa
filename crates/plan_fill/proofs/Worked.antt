-- An expression that lies in the plan is worked out to its value: its nodes are those from `first` to `root`. Assumes nothing.
use mathlib.Core.Path.{◌≡◌, ap, ◌∙◌}
use mathlib.Core.List.{List}
use Prim.Native.Nat.{ℕ, ◌+◌, ◌-◌, ◌≤◌, ◌<◌}
use native.Mathlib.Omega.{arith}
use lib.ListN.{length}
use Rattle.values.specs.declared.Value.{Value}
use Rattle.sheet.specs.Expression.{Expr}
use Rattle.evaluation.specs.Evaluation.{eval}
use Rattle.values.specs.Cells.{cell_at}
use Rattle.plan.specs.declared.Expression.{Expression}
use Rattle.plan.specs.Plan.{Node}
use Rattle.plan_nodes.specs.Nodes.{work, work_from}
use Rattle.plan_nodes.specs.Flat.{Flat, a-variable, a-constant, an-unknown, a-unary, a-binary, a-conditional}
use Rattle.plan_nodes.proofs.Nodes.{work-within}
use Rattle.plan_nodes.proofs.Flat.{Done, flat-eval}
use Rattle.plan_fill.specs.Holding.{Lies}

-- The root is the last node; a variable has none.
pub flat-last : {f : ℕ → Node} {base n r k : ℕ} {e : Expr} → base ≤ n → Flat f base n e r k → r + 1 - n ≡ k
flat-last h (a-variable v) = omega arith
flat-last h (a-constant v e) = omega arith
flat-last h (an-unknown w e) = omega arith
flat-last h (a-unary p q x y e) = omega arith
flat-last h (a-binary p q x y z e) = omega arith
flat-last h (a-conditional x y z e) = omega arith

-- On cells whose variables have the values of an environment.
pub lies-worked : (f : ℕ → Node) (base : ℕ) (e : Expr) (x : Expression) (cs : List ℕ) (env : ℕ → Value) → base ≤ 80 → length cs ≡ 4176
    → ((v : ℕ) → v < base → cell_at cs v ≡ env v) → (y : Lies f base 4176 e x)
    → Done cs (work f x.first (x.root + 1) cs) x.first x.root y.nodes (eval env e)
lies-worked f base e x cs env few long same y =
    let a = y.above in
    let b = y.room in
    let c = y.root in
    let d = flat-last (omega arith) y.flat in
    let all : work f x.first (x.root + 1) cs ≡ work_from f x.first y.nodes cs =
    work-within f x.first (x.root + 1) cs (omega arith) ∙ ap (λ (n : ℕ). work_from f x.first n cs) d in
    rw all (flat-eval f base cs env long (omega arith) b same y.flat)
