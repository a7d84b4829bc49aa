-- `hextext::store` meets its contract. Assumes nothing.
use mathlib.Core.Path.{sym, ◌∙◌}
use Rattle.hextext.proofs.Steps.{stored-made, stored_past, stored-none}
use Rattle.hextext.proofs.store.Goals as goal

pub returns-then-not-completes : goal.returns-then-not-completes
returns-then-not-completes c =
    stored-none _ _ _ (sym c.completes.ensures ∙ c.if-not-completes.true)

pub returns-then-at-ge8193 : goal.returns-then-at-ge8193
returns-then-at-ge8193 c =
    stored_past _ _ _ (sym c.completes.ensures ∙ c.if-not-completes.false) c.if-at-ge8193.true

pub returns : goal.returns
returns c =
    stored-made _ _ _ _ c.digit_of-d.ensures (sym c.completes.ensures ∙ c.if-not-completes.false)
    c.if-at-ge8193.false
