-- A state's two planes, numbers and the marks of their unknown bits, as one plane of cells: a number, and its marks times
-- 4,294,967,296. Planes of any numbers of 32 bits are kept.
use Rattle.std.specs.Prelude.{ℕ, zero, suc, ◌+◌, ◌*◌, ◌<◌, ◌≡◌, List, length, get_or, set}
use Rattle.values.specs.Cells.{number_in, marks_in}

-- ---- one cell

unfoldable pub marked : ℕ → ℕ → ℕ
marked n u = n + u * 4294967296

-- ---- cells_below: the cells below n filled from two planes

unfoldable pub cells_below : List ℕ → List ℕ → ℕ → List ℕ → List ℕ
cells_below ns us zero cs = cs
cells_below ns us (suc n) cs = set (cells_below ns us n cs) n (marked (get_or ns n 0) (get_or us n 0))

-- ---- Planes: the planes of the first n cells are these

pub record Planes (ns us : List ℕ) (n : ℕ) (cs : List ℕ) : Type 0 where
  pub length-numbers : length ns ≡ n
  pub length-marks : length us ≡ n
  pub number : (v : ℕ) → v < n → get_or ns v 0 ≡ number_in (get_or cs v 0)
  pub marks : (v : ℕ) → v < n → get_or us v 0 ≡ marks_in (get_or cs v 0)
