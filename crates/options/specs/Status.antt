-- The status of a command: 0 where all went well, 1 where a sheet or a run is refused or a comparison differs, 2 where words or files
-- are wrong.
use Rattle.std.specs.Prelude.{ℕ}
use Rattle.options.specs.declared.Outcome.{Outcome}
use Rattle.options.specs.declared.Outcome.TheVariants.{Done, Refused, Different, Mistaken}

-- ---- joined: two things that a command did, one after the other; the first that did not end well counts

unfoldable pub joined : Outcome → Outcome → Outcome
joined Done b = b
joined Refused b = Refused
joined Different b = Different
joined Mistaken b = Mistaken

unfoldable pub status_of : Outcome → ℕ
status_of Done = 0
status_of Refused = 1
status_of Different = 1
status_of Mistaken = 2
