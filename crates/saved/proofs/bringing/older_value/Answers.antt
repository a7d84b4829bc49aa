-- `saved::bringing::older_value` meets its contract. Assumes nothing.
use mathlib.Core.Path.{sym, ◌∙◌}
use Rattle.saved.specs.Older.{older_value}
use Rattle.saved.proofs.bringing.older_value.Goals as goal

pub returns-then-flag_at : goal.returns-then-flag_at
unfolding older_value
returns-then-flag_at c =
    let e = sym c.flag_at.ensures ∙ c.if-flag_at.true in
    rw e c.all_unknown.ensures

pub returns : goal.returns
unfolding older_value
returns c =
    let e = sym c.flag_at.ensures ∙ c.if-flag_at.false in
    rw (e, ← c.word_at.ensures) c.known.ensures
