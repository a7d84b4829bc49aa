-- `options::judging::commanded` meets its contract, command by command. Assumes nothing.
use borrow.Author.Tests.{ne_eqb}
use mathlib.Core.Path.{ap, ◌∙◌}
use Rattle.options.specs.declared.Command.TheVariants.{Run}
use Rattle.options.specs.Requests.{commanded}
use Rattle.options.proofs.Rows.{commanded-run, commanded-extract}
use Rattle.options.proofs.judging.commanded.Goals as goal

pub returns-in-1 : goal.returns-in-1
unfolding commanded
returns-in-1 c =
    rw (c.in-1.is, c.word_of-sheet.ensures)

pub returns-in-2 : goal.returns-in-2
unfolding commanded
returns-in-2 c =
    rw (c.in-2.is, c.word_of-sheet.ensures)

pub returns-in-3 : goal.returns-in-3
unfolding commanded
returns-in-3 c =
    ap Run c.run_of.ensures ∙ commanded-run _ c.in-3.is

pub returns-in-4 : goal.returns-in-4
unfolding commanded
returns-in-4 c =
    rw (c.word_of-sheet.ensures, c.word_of.ensures, c.is_given.ensures)
    (commanded-extract c.args.o c.in-4.is)

pub returns-in-5 : goal.returns-in-5
unfolding commanded
returns-in-5 c =
    rw (c.in-5.is, c.word_of-sheet.ensures, c.word_of-in-5.ensures)

pub returns-in-8 : goal.returns-in-8
unfolding commanded
returns-in-8 c =
    rw (c.in-8.is, c.word_of-sheet.ensures, c.word_of-in-8.ensures)

pub returns-in_default : goal.returns-in_default
unfolding commanded
returns-in_default c =
    let r = c.in_default.in_default-own.rest in
    rw (
      ne_eqb _ _ r.0.0.0.0.0.1,
      ne_eqb _ _ r.0.0.0.0.1,
      ne_eqb _ _ r.0.0.0.1,
      ne_eqb _ _ r.0.0.1,
      ne_eqb _ _ r.0.1,
      ne_eqb _ _ r.1,
      c.word_of-sheet.ensures,
    )
