-- `tabulate::put_figures` meets its contract; the count of figures falls with each call. Assumes nothing.
use Prim.Native.Nat.{ℕ, ◌<◌}
use mathlib.Core.Path.{sym, ap, ◌∙◌}
use borrow.Author.Rules.{rules}
use Rattle.writing.specs.Buffer.{puts, filled}
use Rattle.writing.proofs.Buffer.{both, puts-nil}
use Rattle.tabulate.proofs.Tabulate.{figures-none, figures-more}
use Rattle.tabulate.proofs.+put_figures.Goals as goal

pub returns-then-count-eq0 : goal.returns-then-count-eq0
returns-then-count-eq0 t c =
    let a = c.args in
    sym (puts-nil _) ∙ ap (λ x. puts (filled a.text.now a.pos) x) (sym (figures-none a.count a.n c.if-count-eq0.true))

pub returns : goal.returns
returns t c =
    let a = c.args in
    both _ _ _ _ _ c.put_figures-p.ensures
    (rw c.figure.ensures at c.put_byte.ensures)
    ∙ ap (λ x. puts (filled a.text.now a.pos) x) (sym (figures-more a.count a.n c.if-count-eq0.false))
