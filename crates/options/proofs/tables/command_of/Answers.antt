-- `options::tables::command_of` meets its contract. Assumes nothing.
use Rattle.writing.specs.Ascii.{ascii}
use Rattle.options.specs.Tables.{among, command_of}
use Rattle.options.proofs.tables.command_of.Goals as goal

pub returns : goal.returns
unfolding among ascii command_of
returns c =
    c.among.ensures
