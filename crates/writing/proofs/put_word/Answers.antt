-- `writing::put_word` meets its contract. The loop's invariant: what is still to be put gives the whole.
-- Assumes nothing.
use mathlib.Core.Path.{refl, sym, ◌∙◌, ap}
use borrow.Author.Rules.{rules}
use lib.ListN.{drop_of_length-le}
use Rattle.writing.specs.Buffer.{filled, puts}
use Rattle.writing.proofs.Buffer.{puts-step, puts-nil}
use Rattle.writing.proofs.put_word.Goals as goal

pub loop-letter-init : goal.loop-letter-init
loop-letter-init c =
    (search rules, refl)

pub loop-letter-preserved : goal.loop-letter-preserved
loop-letter-preserved c =
    let l = c.loop-letter in
    let word = c.args.word.now in (
      search rules,
      puts-step (filled l.text l.p) _ word l.letter-index c.loop-letter-test.true c.put_byte-p.ensures
          ∙ l.invariant.1,
    )

pub returns : goal.returns
returns c =
    let l = c.loop-letter in
    let e = drop_of_length-le c.args.word.now c.loop-letter-test.false in
    sym (puts-nil _) ∙ ap (λ x. puts (filled l.text l.p) x) (sym e) ∙ l.invariant.1
