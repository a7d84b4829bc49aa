-- Samples, computed from the definitions: document 01's flip-flop, as trees and on the sheet's bytes, and a thread with a branch.
-- Assumes nothing.
use mathlib.Core.Path.{◌≡◌, refl}
use mathlib.Core.List.{List, [], ◌∷◌, ◌++◌}
use Prim.Native.Nat.{ℕ}
use lib.ListN.{replicate}
use Rattle.values.specs.declared.Edge.TheVariants.{Posedge}
use Rattle.values.specs.Edges.{edge_of}
use Rattle.sheet.specs.Reading.{ok}
use Rattle.sheet.specs.Expression.{Expr, variable, unary}
use Rattle.sheet.specs.Statement.{later, sequence, if_then, wait, size, is_register}
use Rattle.sheet.specs.Module.{Module}
use Rattle.pseudocode.specs.Translation.{translate, thread_code}
use Rattle.pseudocode.specs.Instruction.{no_term}
use Rattle.pseudocode.specs.Filling.{after}
use Rattle.pseudocode.specs.Fetching.{term_from, terms_from, terms_at, decode, fetch_at}
use Rattle.masks.specs.Masks.{bits, digits, odd}
use Rattle.state.specs.Rows.{list_of}
use Rattle.events.specs.Cycle.{variables, code_of, instr_at, is_wait}
use Rattle.nextstate.specs.Rules.{sets_at, defers_at, any_instr, plain_writes, defers, writes}
use Rattle.nextstate.specs.Nodes.{a_variable, a_constant, a_unary, a_branch}
use Rattle.nextstate.specs.Walk.{emit, express, own_row, own_rows, held_node, landed, merge_one, merge, visit, walk}
use Rattle.nextstate.specs.Extraction.{variable_nodes, walk_from, walks_below, threads_below}
use Rattle.extraction.specs.Emitting.{put_node, emit_words, emit_count, made, unmade, held_at, node_at, express_at}
use Rattle.extraction.specs.Walking.{fill_below, own_node, own_at, put_at, land_at, ended, wait_at, assign_at, act_at, visit_at, walk_at}
use Rattle.extraction.specs.Filling.{variables_below, row_below, put_row, filling, extent, waits}
use Rattle.extraction.specs.Filling.{walk_row, walk_from_at, walks_below_at, thread_at, threads_below_at}

-- ---- "Flip-flop sheet (hex): `02 01 00 01 01 08 08 0C 10 01 01 00 23 02 02 01`."

pub flip_flop : Module Expr
flip_flop =
    record {
      scope = record { inputs = 2; registers = 1; widths = 1 ∷ 8 ∷ 8 ∷ []; declared = 0; functions = [] };
      wires = [];
      threads = sequence (wait (record { edge = Posedge; variable = 0 } ∷ [])) (later 2 (variable 1)) ∷ [];
    }

-- The register takes the input's node; the walk ends at place 0.
pub flip-flop : threads_below flip_flop 1
    ≡ ok
    (record {
      nodes = a_variable 0 ∷ a_variable 1 ∷ a_variable 2 ∷ a_constant 8 0 ∷ [];
      rows = 1 ∷ (replicate 31 0 ++ (3 ∷ []));
    })
unfolding flip_flop threads_below walks_below walk_from walk visit express emit landed own_row own_rows held_node is_register code_of instr_at thread_code translate size variable_nodes variables list_of plain_writes defers any_instr sets_at defers_at is_wait
flip-flop = refl

pub flip_flop_sheet : List ℕ
flip_flop_sheet =
    0x02 ∷ 0x01 ∷ 0x00 ∷ 0x01 ∷ 0x01 ∷ 0x08 ∷ 0x08 ∷ 0x0C ∷ 0x10 ∷ 0x01 ∷ 0x01 ∷ 0x00 ∷ 0x23 ∷ 0x02 ∷ 0x02 ∷ 0x01 ∷ []

-- The wait, the later assignment and the `go` of its one thread, as two words each.
pub flip_flop_code : List ℕ
flip_flop_code = 72 ∷ 0 ∷ 114 ∷ 2 ∷ 3 ∷ 0 ∷ []

-- On bytes, in tables of 18 and 34 words.
pub flip-flop-words : threads_below_at flip_flop_sheet flip_flop_code (3 ∷ []) 2 1 (0 ∷ []) (1 ∷ []) 1
    (filling (extent 3 0) (variables_below 3 (replicate 18 0)) (replicate 34 0))
    ≡ filling (extent 4 1) (0 ∷ 0 ∷ 0 ∷ 0 ∷ 0 ∷ 1 ∷ 0 ∷ 0 ∷ 0 ∷ 2 ∷ 0 ∷ 0 ∷ 1 ∷ 8 ∷ 0 ∷ 0 ∷ 0 ∷ 0 ∷ [])
    (1 ∷ (replicate 31 0 ++ (3 ∷ 0 ∷ [])))
unfolding flip_flop_sheet flip_flop_code threads_below_at thread_at walks_below_at walk_from_at walk_row waits put_row row_below variables_below walk_at ended visit_at act_at assign_at wait_at land_at put_at own_at own_node fill_below express_at node_at made unmade held_at emit_words emit_count put_node after fetch_at decode terms_at terms_from term_from no_term edge_of bits digits odd
flip-flop-words = refl

-- ---- a branch: `wait; if (v1) v2 <= ~v2`

pub branching : Module Expr
branching =
    record {
      scope = record { inputs = 2; registers = 1; widths = 1 ∷ 1 ∷ 8 ∷ []; declared = 0; functions = [] };
      wires = [];
      threads =
          sequence (wait (record { edge = Posedge; variable = 0 } ∷ [])) (if_then (variable 1) (later 2 (unary 1 8 (variable 2)))) ∷ [];
    }

-- The held leg's nodes 3 and 4, the other leg's 5, a branch for the register and one for the place.
pub branch : threads_below branching 1
    ≡ ok
    (record {
      nodes =
          a_variable 0 ∷ a_variable 1 ∷ a_variable 2 ∷ a_unary 1 2 ∷ a_constant 8 0 ∷ a_constant 8 0 ∷ a_branch 1 3 2 ∷ a_branch 1 4 5 ∷ [];
      rows = 6 ∷ (replicate 31 0 ++ (7 ∷ []));
    })
unfolding branching threads_below walks_below walk_from walk visit express emit merge merge_one landed own_row own_rows held_node is_register code_of instr_at thread_code translate size variable_nodes variables list_of writes plain_writes defers any_instr sets_at defers_at is_wait
branch = refl
