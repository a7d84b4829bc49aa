-- `options::tables::option_of` meets its contract. Assumes nothing.
use Rattle.options.specs.Tables.{option_of}
use Rattle.options.proofs.tables.option_of.Goals as goal

pub returns : goal.returns
unfolding option_of
returns c =
    rw (
      c.either-3.ensures,
      c.valued_option-a.ensures,
      c.either-2.ensures,
      c.lone_option-b.ensures,
      c.either.ensures,
      c.plain_option-c.ensures,
      c.short_option-d.ensures,
    )
