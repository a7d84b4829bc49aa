-- `overview::found::put_found` meets its contract. Assumes nothing.
use borrow.Author.Rules.{rules}
use Rattle.writing.specs.Ascii.{ascii}
use Rattle.writing.proofs.Buffer.{both}
use borrow.Author.Tests.{eq-eqb, ne_eqb}
use Rattle.overview.specs.Found.{found_words}
use Rattle.overview.proofs.found.put_found.Goals as goal

pub returns-then-number-eq1 : goal.returns-then-number-eq1
unfolding ascii found_words
returns-then-number-eq1 c =
    rw (eq-eqb _ _ c.if-number-eq1.true) c.put_word.ensures

pub returns-then-number-eq11 : goal.returns-then-number-eq11
unfolding ascii found_words
returns-then-number-eq11 c =
    rw (ne_eqb _ _ c.if-number-eq1.false, eq-eqb _ _ c.if-number-eq11.true)
    (both _ _ _ _ _ c.put_labelled-a.ensures c.put_word-then-number-eq11.ensures)

pub returns : goal.returns
unfolding found_words
returns c =
    rw (ne_eqb _ _ c.if-number-eq1.false, ne_eqb _ _ c.if-number-eq11.false) c.put_byte_at.ensures
