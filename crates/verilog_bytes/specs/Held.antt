-- What a buffer holds of a list of bytes that is written into it. What passes its end is dropped and the position stays there, so
-- that a list of more than 65,536 bytes leaves the position at 65,536 and nothing is said of the contents.
use Rattle.std.specs.Prelude.{◌≡◌, List, ℕ, ◌≤◌, min, length, take}

-- The position behind so many bytes.
abbrev pub place_of : List ℕ → ℕ
place_of l = min (length l) 65536

pub record Held (bs : List ℕ) (p : ℕ) (l : List ℕ) : Type 0 where
  pub room : length bs ≡ 65536
  pub place : p ≡ place_of l
  pub front : length l ≤ 65536 → take (length l) bs ≡ l
