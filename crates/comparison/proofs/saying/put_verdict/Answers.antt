-- `comparison::saying::put_verdict` meets its contract, case by case. Assumes nothing.
use Rattle.writing.specs.Ascii.{ascii}
use Rattle.writing.proofs.Buffer.{both}
use Rattle.comparison.specs.Saying.{verdict_line}
use Rattle.comparison.proofs.saying.put_verdict.Goals as goal

pub returns-in-Agreed : goal.returns-in-Agreed
unfolding verdict_line
returns-in-Agreed c =
    rw c.in-Agreed.is c.put_agreement.ensures

pub returns-in-Differs : goal.returns-in-Differs
unfolding ascii verdict_line
returns-in-Differs c =
    rw c.in-Differs.is (both _ _ _ _ _ (both _ _ _ _ _ (both _ _ _ _ _
    c.put_word-p.ensures
    c.put_decimal-q.ensures)
    c.put_word-r.ensures)
    c.put_difference.ensures)
