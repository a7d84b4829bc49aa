-- `options::tables::lone_option` meets its contract. Assumes nothing.
use Rattle.writing.specs.Ascii.{ascii}
use Rattle.options.specs.Tables.{among, lone_option}
use Rattle.options.proofs.tables.lone_option.Goals as goal

pub returns : goal.returns
unfolding among ascii lone_option
returns c =
    c.among.ensures
