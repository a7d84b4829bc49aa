-- From bytes to a value: the nodes of an expression that the sheet's reader accepted, worked out on cells whose variables have the
-- values of an environment, leave `eval` of its tree in the root's cell. Assumes nothing.
use mathlib.Core.Path.{◌≡◌}
use mathlib.Core.List.{List}
use Prim.Native.Nat.{ℕ, ◌+◌, ◌≤◌, ◌<◌}
use lib.ListN.{length}
use Rattle.values.specs.declared.Value.{Value}
use Rattle.sheet.specs.Expression.{Expr, Scope, Parsed}
use Rattle.sheet.proofs.Expression.{Reads}
use Rattle.evaluation.specs.Evaluation.{eval}
use Rattle.values.specs.Cells.{cell_at}
use Rattle.plan.specs.Plan.{node_at}
use Rattle.plan_nodes.specs.Nodes.{work_from}
use Rattle.plan_nodes.proofs.Flat.{flat-eval}
use Rattle.plan_exprs.specs.Flatten.{add_at}
use Rattle.plan_exprs.proofs.Flatten.{count, Widths, add-flat}

pub worked : (c : Scope) → c.declared ≡ 0 → (s : List ℕ) → length s ≤ 8192 → {d p : ℕ} {q : Parsed Expr} → Reads c s d p q
    → (n : ℕ) (ws : List ℕ) → Widths c.widths ws → length c.widths ≤ n → n + count q.item ≤ 4176
    → (cs : List ℕ) (env : ℕ → Value) → length cs ≡ 4176 → ((v : ℕ) → v < length c.widths → cell_at cs v ≡ env v)
    → let r = add_at d s p n ws in
    cell_at (work_from (node_at r.words) n (count q.item) cs) r.added.root ≡ eval env q.item
worked c alone s size {d} {p} x n ws w b h cs env l f =
    let r = add_at d s p n ws in
    (flat-eval (node_at r.words) (length c.widths) cs env l b h f (add-flat c alone s size n ws w h x).flat).value
