-- The lent buffer that a text is written into: 65,536 bytes, and the position of the next one.
use Rattle.std.specs.Prelude.{ℕ, ◌+◌, List, [], ◌∷◌, set, ltb}
use Rattle.values.specs.Values.{pick}

pub record Text : Type 0 where
  pub bytes : List ℕ
  pub at : ℕ

abbrev pub filled : List ℕ → ℕ → Text
filled bytes at = record { bytes = bytes; at = at }

-- One byte at the position, which goes on; past the end all stays as it is.
unfoldable pub put : Text → ℕ → Text
put t b = pick (ltb t.at 65536) (filled (set t.bytes t.at b) (t.at + 1)) t

-- One byte after the other.
unfoldable pub puts : Text → List ℕ → Text
puts t [] = t
puts t (b ∷ bs) = puts (put t b) bs
