-- `findings::put_hex_error` meets its contract. Assumes nothing.
use borrow.Author.Tests.{ne_eqb}
use Rattle.writing.specs.Ascii.{ascii}
use Rattle.findings.specs.Findings.{hex_words}
use Rattle.findings.proofs.put_hex_error.Goals as goal

pub returns-in-1 : goal.returns-in-1
unfolding ascii hex_words
returns-in-1 c =
    rw c.in-1.is c.put_word.ensures

pub returns-in_default : goal.returns-in_default
unfolding ascii hex_words
returns-in_default c =
    let r = c.in_default.in_default-own.rest in
    rw (ne_eqb _ _ r.1) c.put_word-in_default.ensures
