-- Samples, computed from the definitions. Assumes nothing.
use mathlib.Core.Path.{◌≡◌, refl}
use mathlib.Core.Bool.{true, false}
use mathlib.Core.List.{[], ◌∷◌}
use lib.ListN.{replicate}
use Rattle.values.specs.declared.Edge.TheVariants.{Change, Posedge}
use Rattle.pseudocode.specs.declared.Action.TheVariants.{Go}
use Rattle.pseudocode.specs.declared.Instruction.TheVariants.{Wait, Act}
use Rattle.pseudocode.specs.Instruction.{no_term, terms_of}
use Rattle.pseudocode.specs.Fetching.{term_at}
use Rattle.masks.specs.Masks.{bits, digits, odd}
use Rattle.tables.specs.Readers.{at_most, mark_variable, mark_binary, mark_conditional, mark_node, mark_at, readers_below}
use Rattle.tables.specs.Readers.{watch_variable, watch_terms, watch_instr}

-- Wire 0 is v3 + v5 and wire 1 is ~v3.
pub sample-readers : readers_below (0x31 ∷ 6 ∷ 0x02 ∷ 3 ∷ 0x02 ∷ 5 ∷ 0x11 ∷ 1 ∷ 0x02 ∷ 3 ∷ []) [] (0 ∷ 6 ∷ []) 2 (replicate 7 0)
    ≡ 0 ∷ 0 ∷ 0 ∷ 3 ∷ 0 ∷ 1 ∷ 0 ∷ []
unfolding readers_below mark_at mark_node mark_binary mark_conditional mark_variable bits digits odd
sample-readers = refl

-- The wait names v0 and v2.
pub sample-watched : watch_instr (Wait (terms_of (record { edge = Posedge; variable = 0 } ∷ record { edge = Change; variable = 2 } ∷ []))) (replicate 4 false)
    ≡ true ∷ false ∷ true ∷ false ∷ []
unfolding watch_instr watch_terms watch_variable term_at terms_of no_term at_most
sample-watched = refl

pub sample-unwatched : watch_instr (Act (Go 0)) (replicate 4 false) ≡ replicate 4 false
unfolding watch_instr
sample-unwatched = refl
