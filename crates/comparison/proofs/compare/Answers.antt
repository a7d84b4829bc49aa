-- `comparison::compare` meets its contract. Assumes nothing.
use mathlib.Core.Path.{sym, ◌∙◌}
use Rattle.comparison.proofs.Differences.{finding-1, finding-2, finding-3, finding-4}
use Rattle.comparison.proofs.compare.Goals as goal

pub returns-then-differs : goal.returns-then-differs
returns-then-differs c =
    c.apart.ensures
    ∙ finding-1 _ _ _ _ _ c.first_difference-d.ensures (sym c.differs.ensures ∙ c.if-differs.true)

pub returns-then-differs-2 : goal.returns-then-differs-2
returns-then-differs-2 c =
    c.apart-then-differs-2.ensures
    ∙ finding-2 _ _ _ _ _ c.first_difference-d.ensures (sym c.differs.ensures ∙ c.if-differs.false)
    c.first_difference-e.ensures (sym c.differs-2.ensures ∙ c.if-differs-2.true)

pub returns-then-differs-3 : goal.returns-then-differs-3
returns-then-differs-3 c =
    c.apart-then-differs-3.ensures
    ∙ finding-3 _ _ _ _ _ c.first_difference-d.ensures (sym c.differs.ensures ∙ c.if-differs.false)
    c.first_difference-e.ensures (sym c.differs-2.ensures ∙ c.if-differs-2.false)
    c.first_difference-f.ensures (sym c.differs-3.ensures ∙ c.if-differs-3.true)

pub returns : goal.returns
returns c =
    finding-4 _ _ _ _ _ c.first_difference-d.ensures (sym c.differs.ensures ∙ c.if-differs.false)
    c.first_difference-e.ensures (sym c.differs-2.ensures ∙ c.if-differs-2.false)
    c.first_difference-f.ensures (sym c.differs-3.ensures ∙ c.if-differs-3.false)
