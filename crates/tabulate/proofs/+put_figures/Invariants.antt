-- `tabulate::put_figures` meets its contract; the count of figures falls with each call. Assumes nothing.
use Prim.Native.Nat.{ℕ, ◌<◌}
use mathlib.Core.Path.{sym, ap, ◌∙◌}
use borrow.Author.Rules.{rules}
use Rattle.writing.specs.Buffer.{puts, filled}
use Rattle.writing.proofs.Buffer.{both, puts-nil}
use Rattle.tabulate.proofs.Tabulate.{figures-none, figures-more}
use Rattle.tabulate.proofs.+put_figures.Given as goal

abbrev pub decreases-put_figures : goal.decreases-put_figures
decreases-put_figures l = l.count
