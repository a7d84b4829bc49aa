-- `waveform::put_shortened` meets its contract; the width falls with each call. Assumes nothing.
use Prim.Native.Nat.{ℕ, ◌<◌}
use mathlib.Core.Path.{sym, ap, ◌∙◌}
use borrow.Author.Rules.{rules}
use Rattle.writing.specs.Buffer.{puts, filled}
use Rattle.writing.proofs.Buffer.{both, puts-nil}
use Rattle.waveform.proofs.Waveform.{shortened-none, shortened-one, shortened-more}
use Rattle.waveform.proofs.+put_shortened.Goals as goal

pub returns-then-width-eq0 : goal.returns-then-width-eq0
returns-then-width-eq0 t c =
    let a = c.args in
    sym (puts-nil _) ∙ ap (λ x. puts (filled a.text.now a.pos) x) (sym (shortened-none a.width a.n c.if-width-eq0.true))

pub returns-then-n-lt2 : goal.returns-then-n-lt2
returns-then-n-lt2 t c =
    let a = c.args in
    let e = shortened-one a.width a.n c.if-width-eq0.false c.if-n-lt2.true in
    c.put_byte.ensures ∙ ap (λ x. puts (filled a.text.now a.pos) x) (sym e)

pub returns : goal.returns
returns t c =
    let a = c.args in
    let e = shortened-more a.width a.n c.if-width-eq0.false c.if-n-lt2.false in
    both _ _ _ _ _ c.put_shortened-p.ensures c.put_byte-2.ensures
    ∙ ap (λ x. puts (filled a.text.now a.pos) x) (sym e)
