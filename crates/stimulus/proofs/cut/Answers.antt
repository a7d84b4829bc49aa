-- `stimulus::cut` meets its contract. Assumes nothing.
use mathlib.Core.Path.{sym, ap, ◌∙◌}
use Rattle.values.specs.Planes.{marks_of}
use Rattle.stimulus.specs.Lines.{cut}
use Rattle.stimulus.proofs.cut.Goals as goal

pub returns : goal.returns
unfolding cut
returns c =
    rw (sym (c.marks_of-mask.ensures ∙ ap marks_of c.all_unknown.ensures))
