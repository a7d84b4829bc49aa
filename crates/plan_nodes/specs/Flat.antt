-- An expression that lies flattened in a table: operands first, left first; a variable is its own cell.
use Rattle.std.specs.Prelude.{◌≡◌, ℕ, suc, ◌+◌, ◌^◌, ◌<◌, ◌≤◌}
use Rattle.sheet.specs.Expression.{Expr, variable, constant, unknown, unary, binary, conditional}
use Rattle.plan.specs.Plan.{Node, node}

-- Flat f base n e r k: the k nodes from n on are those of e, whose value is in cell r; variables lie below base.
pub data Flat (f : ℕ → Node) (base : ℕ) : ℕ → Expr → ℕ → ℕ → Type 0 where
  a-variable : {n v : ℕ} → v < base → Flat f base n (variable v) v 0
  a-constant : {n w k : ℕ} → k < 2 ^ 32 → f n ≡ node 1 0 k 0 → Flat f base n (constant w k) n 1
  an-unknown : {n w : ℕ} → w ≤ 32 → f n ≡ node 2 0 0 w → Flat f base n (unknown w) n 1
  a-unary : {n o w r k : ℕ} {a : Expr} → 1 ≤ o → o ≤ 2 → w ≤ 32 → Flat f base n a r k
      → f (n + k) ≡ node (10 + o) r 0 w → Flat f base n (unary o w a) (n + k) (suc k)
  a-binary : {n o w r s k l : ℕ} {a b : Expr} → 3 ≤ o → o ≤ 9 → w ≤ 32 → Flat f base n a r k → Flat f base (n + k) b s l
      → f (n + k + l) ≡ node (10 + o) r s w → Flat f base n (binary o w a b) (n + k + l) (suc (k + l))
  a-conditional : {n q r s j k l : ℕ} {c a b : Expr} → Flat f base n c q j → Flat f base (n + j) a r k
      → Flat f base (n + j + k) b s l → f (n + j + k + l) ≡ node 20 q r s
      → Flat f base n (conditional c a b) (n + j + k + l) (suc (j + k + l))
