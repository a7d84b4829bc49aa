-- `binary_text::put_bits` meets its contract; the width falls with each call. Assumes nothing.
use Prim.Native.Nat.{ℕ, ◌<◌}
use mathlib.Core.Path.{sym, ap, ◌∙◌}
use borrow.Author.Rules.{rules}
use Rattle.writing.specs.Buffer.{puts, filled}
use Rattle.writing.proofs.Buffer.{both, puts-nil}
use Rattle.binary_text.proofs.BinaryText.{bits_none, bits-more}
use Rattle.binary_text.proofs.+put_bits.Given as goal

abbrev pub decreases-put_bits : goal.decreases-put_bits
decreases-put_bits l = l.width
