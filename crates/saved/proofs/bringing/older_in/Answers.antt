-- `saved::bringing::older_in` meets its contract: part by part. Assumes nothing.
use mathlib.Core.Path.{refl}
use Rattle.saved.specs.Older.{older_in}
use Rattle.state.proofs.Accessors.{state-same}
use Rattle.saved.proofs.bringing.older_in.Goals as goal

pub returns : goal.returns
unfolding older_in
returns c =
    state-same _ _ c.older_numbers-value.ensures c.older_marks-unknown.ensures
    c.older_numbers-pending.ensures c.older_marks-unsure.ensures c.flags_at-held.ensures c.places_at-places.ensures
    c.flags_at-due.ensures refl
