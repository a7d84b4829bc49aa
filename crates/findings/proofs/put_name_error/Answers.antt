-- `findings::put_name_error` meets its contract. Assumes nothing.
use borrow.Author.Tests.{ne_eqb}
use Rattle.writing.specs.Ascii.{ascii}
use Rattle.findings.specs.Findings.{name_words}
use Rattle.findings.proofs.put_name_error.Goals as goal

pub returns-in-2 : goal.returns-in-2
unfolding ascii name_words
returns-in-2 c =
    rw c.in-2.is c.put_word.ensures

pub returns-in-3 : goal.returns-in-3
unfolding ascii name_words
returns-in-3 c =
    rw c.in-3.is c.put_word-in-3.ensures

pub returns-in_default : goal.returns-in_default
unfolding ascii name_words
returns-in_default c =
    let r = c.in_default.in_default-own.rest in
    rw (ne_eqb _ _ r.0.1, ne_eqb _ _ r.1) c.put_word-in_default.ensures
