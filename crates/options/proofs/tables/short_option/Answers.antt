-- `options::tables::short_option` meets its contract. Assumes nothing.
use Rattle.writing.specs.Ascii.{ascii}
use Rattle.options.specs.Tables.{among, short_option}
use Rattle.options.proofs.tables.short_option.Goals as goal

pub returns : goal.returns
unfolding among ascii short_option
returns c =
    c.among.ensures
