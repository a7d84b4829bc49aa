-- `driving::saying::put_three` meets its contract. Assumes nothing.
use Rattle.driving.specs.Saying.{three}
use Rattle.driving.proofs.saying.put_three.Goals as goal

pub returns : goal.returns
unfolding three
returns c =
    rw (
      ← c.last_digit.ensures,
      ← c.last_digit-2.ensures,
      ← c.last_digit-3.ensures,
    ) c.put_word.ensures
