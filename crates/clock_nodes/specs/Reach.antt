-- How many nodes are copied: those up to the highest entry of the rows that is one of the 4,096, and one at least.
use Rattle.std.specs.Prelude.{List, ℕ, zero, suc, ◌+◌, ◌≤◌, ◌<◌, ltb, length, get_or}
use Rattle.values.specs.Values.{pick}

-- Those up to entry e, and n.
unfoldable pub furthest : ℕ → ℕ → ℕ
furthest n e = pick (ltb e 4096) (pick (ltb e n) n (e + 1)) n

-- By the first j entries.
unfoldable pub reach_below : List ℕ → ℕ → ℕ
reach_below rs zero = 1
reach_below rs (suc j) = furthest (reach_below rs j) (get_or rs j 0)

-- By all of them.
unfoldable pub reach : List ℕ → ℕ
reach rs = reach_below rs (length rs)

-- So many that every entry is one of them, or none of the 4,096.
pub record Counted (rs : List ℕ) (n : ℕ) : Type 0 where
  pub most : n ≤ 4096
  pub entry : (j : ℕ) → get_or rs j 0 < 4096 → get_or rs j 0 < n
