-- `comparison::saying::put_difference` meets its contract, case by case. Assumes nothing.
use mathlib.Core.Path.{sym}
use Rattle.writing.proofs.Buffer.{puts-nil}
use Rattle.comparison.specs.Saying.{difference_line}
use Rattle.comparison.proofs.saying.put_difference.Goals as goal

pub returns-in-Nowhere : goal.returns-in-Nowhere
unfolding difference_line
returns-in-Nowhere c =
    rw c.in-Nowhere.is (sym (puts-nil _))

pub returns-in-Variable : goal.returns-in-Variable
unfolding difference_line
returns-in-Variable c =
    rw c.in-Variable.is c.put_variable.ensures

pub returns-in-Place : goal.returns-in-Place
unfolding difference_line
returns-in-Place c =
    rw c.in-Place.is c.put_place.ensures
