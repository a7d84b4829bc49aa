-- `verilog_errors::found::put_found` meets its contract. Assumes nothing.
use borrow.Author.Rules.{rules}
use mathlib.Core.Path.{sym, ◌∙◌}
use borrow.Author.Tests.{le-leb, lt-leb}
use Rattle.writing.specs.Ascii.{ascii}
use Rattle.verilog_errors.specs.Found.{found_words}
use Rattle.verilog_errors.proofs.found.put_found.Goals as goal

pub returns-then-text-place : goal.returns-then-text-place
unfolding ascii found_words
returns-then-text-place c =
    rw (le-leb _ _ c.if-text-place.true) c.put_word.ensures

pub returns-then-is_plain : goal.returns-then-is_plain
unfolding found_words
returns-then-is_plain c =
    rw (
      lt-leb _ _ c.if-text-place.false,
      sym c.is_plain.ensures
          ∙ c.if-is_plain.true,
    ) c.put_quoted.ensures

pub returns : goal.returns
unfolding found_words
returns c =
    rw (
      lt-leb _ _ c.if-text-place.false,
      sym c.is_plain.ensures
          ∙ c.if-is_plain.false,
    ) c.put_valued.ensures
