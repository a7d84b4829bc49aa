-- `binary_text::put_bits` meets its contract; the width falls with each call. Assumes nothing.
use Prim.Native.Nat.{ℕ, ◌<◌}
use mathlib.Core.Path.{sym, ap, ◌∙◌}
use borrow.Author.Rules.{rules}
use Rattle.writing.specs.Buffer.{puts, filled}
use Rattle.writing.proofs.Buffer.{both, puts-nil}
use Rattle.binary_text.proofs.BinaryText.{bits_none, bits-more}
use Rattle.binary_text.proofs.+put_bits.Goals as goal

pub returns-then-width-eq0 : goal.returns-then-width-eq0
returns-then-width-eq0 t c =
    let a = c.args in
    sym (puts-nil _) ∙ ap (λ x. puts (filled a.text.now a.pos) x) (sym (bits_none a.width a.n a.marks c.if-width-eq0.true))

pub returns : goal.returns
returns t c =
    let a = c.args in
    both _ _ _ _ _ c.put_bits-p.ensures
    (rw c.bit.ensures at c.put_byte.ensures)
    ∙ ap (λ x. puts (filled a.text.now a.pos) x) (sym (bits-more a.width a.n a.marks c.if-width-eq0.false))
