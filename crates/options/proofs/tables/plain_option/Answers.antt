-- `options::tables::plain_option` meets its contract. Assumes nothing.
use Rattle.writing.specs.Ascii.{ascii}
use Rattle.options.specs.Tables.{among, plain_option}
use Rattle.options.proofs.tables.plain_option.Goals as goal

pub returns : goal.returns
unfolding among ascii plain_option
returns c =
    c.among.ensures
