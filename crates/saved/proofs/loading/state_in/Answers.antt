-- `saved::loading::state_in` meets its contract: part by part. Assumes nothing.
use Rattle.saved.specs.Saved.{state_in}
use Rattle.state.proofs.Accessors.{state-same}
use Rattle.saved.proofs.loading.state_in.Goals as goal

pub returns : goal.returns
unfolding state_in
returns c =
    state-same _ _ c.words_at-value.ensures c.words_at-unknown.ensures
    c.words_at-pending.ensures c.words_at-unsure.ensures c.flags_at-held.ensures c.places_at-places.ensures
    c.flags_at-due.ensures c.counters_at-counters.ensures
