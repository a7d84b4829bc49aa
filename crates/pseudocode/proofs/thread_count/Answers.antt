-- The count of threads, at most 8.
use mathlib.Core.Path.{◌∙◌}
use Rattle.pseudocode.proofs.Compiling.{thread_count-min}
use Rattle.pseudocode.proofs.thread_count.Goals as goal

pub returns : goal.returns
returns c =
    c.min.ensures ∙ thread_count-min _
