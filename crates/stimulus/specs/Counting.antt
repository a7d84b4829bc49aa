-- Counts of lines, words and cycles, and the first of several numbers.
use Rattle.std.specs.Prelude.{Bool, ℕ, zero, suc, ◌+◌, ltb, Option, Some, None}
use Rattle.values.specs.Values.{pick}

-- ---- counted: one more; a count stays below 2^32

unfoldable pub counted : ℕ → ℕ
counted n = pick (ltb n 4294967295) (n + 1) n

-- A place, where 0 is none.
abbrev pub found_at : ℕ → Option ℕ
found_at n = pick (ltb 0 n) (Some n) None

-- A number below another, which is none.
abbrev pub found_below : ℕ → ℕ → Option ℕ
found_below to n = pick (ltb n to) (Some n) None

-- ---- first_from: the first of n numbers from k on of which a test holds, else the one behind them

unfoldable pub first_from : (ℕ → Bool) → ℕ → ℕ → ℕ
first_from f zero k = k
first_from f (suc n) k = pick (f k) k (first_from f n (k + 1))
