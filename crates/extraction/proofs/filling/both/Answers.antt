-- `filling::both` meets its contract. Assumes nothing.
use mathlib.Core.Path.{sym, ap, ◌∙◌}
use Rattle.masks.specs.Masks.{mask}
use Rattle.masks.proofs.Masks.{mask-bits}
use borrow.Author.Rules.{rules}
use Rattle.extraction.proofs.filling.both.Goals as goal

pub returns : goal.returns
returns c =
    sym (mask-bits c.union.result (search rules)) ∙ ap mask c.union.ensures
