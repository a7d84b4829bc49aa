-- What the lent arrays hold after a cycle run, and after many. Assumes nothing.
use mathlib.Core.Path.{◌≡◌}
use borrow.Author.Tests.{eq-eqb, ne_eqb}
use Rattle.nextstate.specs.declared.Clocked.{Clocked}
use Rattle.cycles.specs.declared.Cycled.{Cycled}
use Rattle.exports.specs.Clocked.{Arrays, arrays, after_cycle, after_cycles}

module _ (lent : Arrays) (c d : Clocked) (e : c ≡ d) where
  pub cycle-refused : (c.number ≡ 0 → ⊥) → lent ≡ after_cycle lent d
  unfolding after_cycle
  cycle-refused h = rw (← e, ne_eqb c.number 0 h)

  pub cycle-accepted : c.number ≡ 0 → arrays c.value c.unknown c.places c.wire c.unsure ≡ after_cycle lent d
  unfolding after_cycle
  cycle-accepted h = rw (← e, eq-eqb c.number 0 h)

module _ (lent : Arrays) (r d : Cycled) (e : r ≡ d) where
  pub cycles-none : r.cycles ≡ 0 → lent ≡ after_cycles lent d
  unfolding after_cycles
  cycles-none h = rw (← e, eq-eqb r.cycles 0 h)

  pub cycles-some : (r.cycles ≡ 0 → ⊥) → arrays r.value r.unknown r.places r.wire r.unsure ≡ after_cycles lent d
  unfolding after_cycles
  cycles-some h = rw (← e, ne_eqb r.cycles 0 h)
