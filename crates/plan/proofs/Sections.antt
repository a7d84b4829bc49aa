-- Laws of a plan's words: a word that names a cell is its number. Assumes nothing.
use mathlib.Core.Path.{◌≡◌}
use Prim.Native.Nat.{ℕ, ◌<◌}
use borrow.Author.Tests.{lt-ltb}
use Rattle.plan.specs.Sections.{cells, slot_of}

pub slot_same : (w : ℕ) → w < cells → slot_of w ≡ w
unfolding slot_of
slot_same w h = rw (lt-ltb w 4176 h)
