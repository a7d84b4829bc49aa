-- `explaining::print_thread` meets its contract. Assumes nothing.
use Rattle.writing.specs.Ascii.{ascii}
use Rattle.explaining.proofs.Walking.{thread-path}
use Rattle.explaining.proofs.print_thread.Goals as goal

pub returns : goal.returns
unfolding ascii
returns c =
    thread-path _ _ _ _ _ _ c.put_word-p.ensures
    c.put_decimal-q.ensures
    c.put_word-e.ensures
    c.print_point-w.ensures c.print_points.ensures
