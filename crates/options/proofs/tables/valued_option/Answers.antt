-- `options::tables::valued_option` meets its contract. Assumes nothing.
use Rattle.writing.specs.Ascii.{ascii}
use Rattle.options.specs.Tables.{among, valued_option}
use Rattle.options.proofs.tables.valued_option.Goals as goal

pub returns : goal.returns
unfolding among ascii valued_option
returns c =
    c.among.ensures
