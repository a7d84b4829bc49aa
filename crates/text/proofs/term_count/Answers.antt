-- `text::term_count` meets its contract. Assumes nothing.
use mathlib.Core.Path.{◌∙◌}
use Rattle.text.proofs.Printing.{count-min}
use Rattle.text.proofs.term_count.Goals as goal

pub returns : goal.returns
returns c =
    c.min.ensures ∙ count-min c.args.t
