-- `writing::put_decimal` meets its contract; the number falls with each call. Assumes nothing.
use mathlib.Core.Path.{sym, ap, ◌∙◌}
use borrow.Author.Rules.{rules}
use Rattle.writing.specs.Buffer.{puts, filled}
use Rattle.writing.proofs.Numbers.{decimal-less, decimal-more}
use Rattle.writing.proofs.Buffer.{both}
use Rattle.writing.proofs.+put_decimal.Goals as goal

pub returns-then-n-lt10 : goal.returns-then-n-lt10
returns-then-n-lt10 t c =
    let a = c.args in
    let e = decimal-less a.n c.if-n-lt10.true in
    c.put_byte.ensures ∙ ap (λ x. puts (filled a.text.now a.pos) x) (sym e)

pub returns : goal.returns
returns t c =
    let a = c.args in
    let e = decimal-more a.n c.if-n-lt10.false (search rules) in
    both _ _ _ _ _ c.put_decimal-p.ensures c.put_byte-2.ensures
    ∙ ap (λ x. puts (filled a.text.now a.pos) x) (sym e)
