-- Samples, computed from the definitions. Assumes nothing.
use mathlib.Core.Path.{◌≡◌, refl}
use mathlib.Core.Bool.{true, false}
use mathlib.Core.List.{[], ◌∷◌}
use lib.ListN.{replicate}
use Rattle.values.specs.declared.Edge.TheVariants.{Change, Posedge}
use Rattle.values.specs.Edges.{edge_number}
use Rattle.values.specs.Operators.{binary_width}
use Rattle.sheet.specs.Expression.{variable}
use Rattle.pseudocode.specs.declared.Action.TheVariants.{Set, Go}
use Rattle.pseudocode.specs.declared.Instruction.TheVariants.{Wait, Act}
use Rattle.pseudocode.specs.Translation.{wait!, set!, go}
use Rattle.pseudocode.specs.Instruction.{no_term, terms_of}
use Rattle.pseudocode.specs.Fetching.{term_at}
use Rattle.masks.specs.Masks.{bits, digits, odd}
use Rattle.plan.specs.Plan.{width_at}
use Rattle.plan_exprs.specs.Flatten.{put_node, more, emit, add_at, add_node, add_binary}
use Rattle.tables.specs.Readers.{at_most, mark_variable}
use Rattle.plan_fill.specs.Filling.{up_to, put_four, watch_term, watch_instr, filling, put_term, fill_wait, fill_expr, fill_act, fill_instr}
use Rattle.plan_fill.specs.Holding.{any_below, named_by, names}

-- `set v1 := v3 + v5`, its words from 0 on and its node at 1.
pub sample-set : fill_instr (0x31 ∷ 6 ∷ 0x02 ∷ 3 ∷ 0x02 ∷ 5 ∷ []) (Act (Set 1 0)) 0 (filling 1 (replicate 8 9))
    ≡ filling 2 (1 ∷ 1 ∷ 1 ∷ 1 ∷ 16 ∷ 3 ∷ 5 ∷ 0 ∷ [])
unfolding fill_instr fill_act fill_expr add_at add_node add_binary emit put_node more put_four width_at binary_width
sample-set = refl

-- `go 2` has no node.
pub sample-go : fill_instr [] (Act (Go 2)) 0 (filling 1 (replicate 4 9)) ≡ filling 1 (3 ∷ 2 ∷ 0 ∷ 0 ∷ [])
unfolding fill_instr fill_act put_four
sample-go = refl

-- `wait posedge v0 or v2`, its words from 0 on and its terms as nodes 1 and 2.
pub sample-wait : fill_instr [] (Wait (terms_of (record { edge = Posedge; variable = 0 } ∷ record { edge = Change; variable = 2 } ∷ []))) 0
    (filling 1 (replicate 12 9))
    ≡ filling 3 (0 ∷ 2 ∷ 1 ∷ 0 ∷ 1 ∷ 0 ∷ 0 ∷ 0 ∷ 0 ∷ 2 ∷ 0 ∷ 0 ∷ [])
unfolding fill_instr fill_wait up_to put_term put_node more put_four term_at terms_of no_term at_most edge_number
sample-wait = refl

-- That wait of thread 1 marks v0 and v2.
pub sample-watchers : watch_instr 1 (Wait (terms_of (record { edge = Posedge; variable = 0 } ∷ record { edge = Change; variable = 2 } ∷ [])))
    (replicate 4 0) ≡ 2 ∷ 0 ∷ 2 ∷ 0 ∷ []
unfolding watch_instr up_to watch_term mark_variable term_at terms_of no_term at_most bits digits odd
sample-watchers = refl

pub sample-named : names (set! 1 (variable 0) ∷ wait! (record { edge = Posedge; variable = 2 } ∷ []) ∷ go 0 ∷ []) 2 ≡ true
unfolding names named_by any_below no_term
sample-named = refl

pub sample-unnamed : names (set! 1 (variable 0) ∷ wait! (record { edge = Posedge; variable = 2 } ∷ []) ∷ go 0 ∷ []) 0 ≡ false
unfolding names named_by any_below no_term
sample-unnamed = refl
