-- The cycle run for C and Rust: registers, places, inputs and wires lie in lent arrays, which become what the call gives back. A
-- refused call alters none of them.
use Rattle.std.specs.Prelude.{ℕ, List, eqb}
use Rattle.values.specs.Values.{pick}
use Rattle.events.specs.declared.Inputs.{Inputs}
use Rattle.nextstate.specs.declared.Registers.{Registers}
use Rattle.nextstate.specs.declared.Clocked.{Clocked}
use Rattle.cycles.specs.declared.Cycled.{Cycled}

-- ---- what is handed

unfoldable pub registers_in : List ℕ → List ℕ → List ℕ → Registers
registers_in value unknown places = record { value = value; unknown = unknown; places = places }

unfoldable pub inputs_in : ℕ → List ℕ → List ℕ → Inputs
inputs_in count value unknown = record { count = count; value = value; unknown = unknown }

-- ---- the lent arrays: registers, the marks of their unknown bits, places, wires, their marks

pub record Arrays : Type 0 where
  pub value : List ℕ
  pub unknown : List ℕ
  pub places : List ℕ
  pub wire : List ℕ
  pub unsure : List ℕ

abbrev pub arrays : List ℕ → List ℕ → List ℕ → List ℕ → List ℕ → Arrays
arrays value unknown places wire unsure =
    record { value = value; unknown = unknown; places = places; wire = wire; unsure = unsure }

-- ---- what they hold then

-- One cycle: what it gave, or, where it was refused, what they held.
unfoldable pub after_cycle : Arrays → Clocked → Arrays
after_cycle lent c =
    pick (eqb c.number 0) (arrays c.value c.unknown c.places c.wire c.unsure) lent

-- Many: what the last accepted one gave, or, where none was accepted, what they held. A call that stops at a later row is no refused
-- call.
unfoldable pub after_cycles : Arrays → Cycled → Arrays
after_cycles lent r =
    pick (eqb r.cycles 0) lent (arrays r.value r.unknown r.places r.wire r.unsure)
