-- The number of a trace on no saved state; what the lent arrays hold after many cycles on prepared tables, and after a trace of them. Assumes nothing.
use mathlib.Core.Path.{◌≡◌, refl}
use mathlib.Core.List.{List}
use Prim.Native.Nat.{ℕ, ◌/◌, ◌≤◌, ◌<◌}
use borrow.Author.Tests.{eq-eqb, ne_eqb, le-leb, lt-leb}
use lib.ListN.{length}
use Rattle.prepared_cycles.specs.Traces.{rounds}
use Rattle.nextstate.specs.declared.Registers.{Registers}
use Rattle.clock_run.specs.declared.Rounds.{Rounds}
use Rattle.clock_run.specs.Rounds.{registers_of}
use Rattle.cycles.specs.Many.{ended}
use Rattle.cycles.specs.Claims.{cycled_of}
use Rattle.exports.specs.Clocked.{Arrays, arrays, after_cycles}
use Rattle.exports.specs.Plans.{untraced, after_trace}

module _ (ns w : List ℕ) where
  pub untraced-short : length w / 88 < rounds ns → 23 ≡ untraced ns w
  unfolding untraced
  untraced-short l = rw (lt-leb (rounds ns) (length w / 88) l) refl

  pub untraced-room : rounds ns ≤ length w / 88 → 31 ≡ untraced ns w
  unfolding untraced
  untraced-room l = rw (le-leb (rounds ns) (length w / 88) l) refl

module _ (lent : Arrays) (r d : Rounds) (e : r ≡ d) where
  pub rounds-none : r.cycles ≡ 0 → lent ≡ after_cycles lent (cycled_of d)
  unfolding after_cycles cycled_of ended
  rounds-none h = rw (← e, eq-eqb r.cycles 0 h)

  pub rounds-some : (r.cycles ≡ 0 → ⊥) →
      arrays r.last.value r.last.unknown r.last.places r.last.wire r.last.unsure ≡ after_cycles lent (cycled_of d)
  unfolding after_cycles cycled_of ended
  rounds-some h = rw (← e, ne_eqb r.cycles 0 h)

module _ (g : Registers) (r d : Rounds) (e : r ≡ d) where
  pub trace-none : r.cycles ≡ 0 → g ≡ after_trace g d
  unfolding after_trace
  trace-none h = rw (← e, eq-eqb r.cycles 0 h)

  pub trace-some : (r.cycles ≡ 0 → ⊥) → registers_of r.last ≡ after_trace g d
  unfolding after_trace
  trace-some h = rw (← e, ne_eqb r.cycles 0 h)
