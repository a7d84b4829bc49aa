-- `waveform::put_shortened` meets its contract; the width falls with each call. Assumes nothing.
use Prim.Native.Nat.{ℕ, ◌<◌}
use mathlib.Core.Path.{sym, ap, ◌∙◌}
use borrow.Author.Rules.{rules}
use Rattle.writing.specs.Buffer.{puts, filled}
use Rattle.writing.proofs.Buffer.{both, puts-nil}
use Rattle.waveform.proofs.Waveform.{shortened-none, shortened-one, shortened-more}
use Rattle.waveform.proofs.+put_shortened.Given as goal

abbrev pub decreases-put_shortened : goal.decreases-put_shortened
decreases-put_shortened l = l.width
