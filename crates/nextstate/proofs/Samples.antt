-- Samples of extraction, the cycle book and the cycle run, computed: document 01's flip-flop, small modules for each rule, and the
-- misreadings that it names.
use mathlib.Core.Path.{◌≡◌, refl}
use Prim.Native.Nat.{ℕ, zero, suc, ◌-◌}
use mathlib.Core.Bool.{true, false}
use mathlib.Core.List.{List, [], ◌∷◌, ◌++◌}
use lib.ListN.{length, get_or, replicate}
use lib.Dec.{eqb}
use borrow.Author.Tests.{eq-eqb}
use Rattle.values.specs.declared.Value.{Value}
use Rattle.values.specs.declared.Edge.TheVariants.{Change, Posedge, Negedge}
use Rattle.values.specs.Values.{pick, known, ones, all_unknown, nowhere, holds, same, fits}
use Rattle.values.specs.Planes.{value_at, number_of, marks_of}
use Rattle.values.specs.Edges.{edge_of}
use Rattle.values.specs.Operators as operators
use Rattle.sheet.specs.declared.EdgeTerm.{EdgeTerm}
use Rattle.sheet.specs.Reading.{ok, no, byte_at, within, word, word_of, word_at}
use Rattle.sheet.specs.Expression.{Expr, variable, constant, unary, binary, kind_of, variable_at, node, read_expr, tree}
use Rattle.sheet.specs.Statement.{Stmt, empty, assign, later, sequence, if_then, if_else, while, forever, wait, size, is_register, read_terms, narrow, narrow_all, form_of, assignment, form, read_stmt}
use Rattle.sheet.specs.Functions.{read_widths, read_functions}
use Rattle.sheet.specs.Module.{Module, inputs_of, first_at, function_count, widths_at, read_head, read_wires, read_threads, whole_sheet, read_sheet, read}
use Rattle.evaluation.specs.Evaluation.{eval, reads}
use Rattle.pseudocode.specs.Translation.{translate, thread_code}
use Rattle.state.specs.Rows.{list_of}
use Rattle.events.specs.declared.Inputs.{Inputs}
use Rattle.events.specs.Cycle.{variables, code_of, instr_at, wire_expr, wire_variable, any_below, all_below, is_wait}
use Rattle.events.specs.Calls.{unset, width_of, input_of}
use Rattle.events.proofs.Samples.{module-of, posedge-clock, swapping}
use Rattle.nextstate.specs.declared.Registers.{Registers}
use Rattle.nextstate.specs.Rules.{sets_at, defers_at, reads_at, any_instr, plain_writes, defers, writes, thread_reads, wire_reads, some_thread, some_wire, some_register, two_writers, both_ways, read_elsewhere, plainly_shared, is_posedge, clock_edge, other_wait_at, other_wait, starts_waiting, body_of, starts_running, surely_waits, loops_wait, runs_away, clock_read, reads_upward, one, waits_before, waits_below, many_waits, rule}
use Rattle.nextstate.specs.Nodes.{Node, a_variable, a_constant, an_unknown, a_unary, a_binary, a_conditional, a_branch, four_words, node_words, all_words, padded, node_from, node_at, node_width, node_value, work_out, worked}
use Rattle.nextstate.specs.Walk.{emit, express, own_row, own_rows, held_node, landed, merge_one, merge, visit, walk}
use Rattle.nextstate.specs.Extraction.{Tables, variable_nodes, walk_from, walks_below, threads_below, extracted, expressions, filled, right_lengths, extract}
use Rattle.nextstate.specs.Book.{Book, put, settle_below, settle, settled, fed, row_of, entry, worth, taken, next_place, rise, opening, turned, turned_all, book}
use Rattle.nextstate.specs.CycleRun.{width?, node_fits, nodes_fit, widths_from, lands, landings, register_fits, row_fits, rows_fit, tables_fit, registers_fit, upper_inputs_fit, handed, clocked, with_register, with_wait, store_registers, store_places, stored, wire_value, refused, given, clocked_in, extractable, clocked_or, cycle_run}

-- ---- what the samples compute with: an `unfolding` line that names one of these opens all that its own line names

unfoldable pub reading : Unit {0}
unfolding read read_sheet whole_sheet read_head first_at inputs_of function_count widths_at read_widths read_functions read_wires read_threads read_stmt form form_of assignment read_terms narrow_all narrow is_register size tree read_expr kind_of node variable_at word_at word_of word within byte_at edge_of operators.unary_width operators.binary_width
reading = tt

unfoldable pub judging : Unit {0}
unfolding rule two_writers both_ways plainly_shared other_wait starts_running runs_away clock_read reads_upward many_waits sets_at defers_at reads_at any_instr plain_writes defers writes thread_reads wire_reads some_thread some_wire some_register read_elsewhere is_posedge clock_edge other_wait_at starts_waiting body_of surely_waits loops_wait one waits_before waits_below reads code_of wire_expr wire_variable any_below is_wait thread_code translate size
judging = tt

unfoldable pub walking : Unit {0}
unfolding judging extracted threads_below walks_below walk_from variable_nodes walk visit merge merge_one landed held_node own_rows own_row express emit list_of variables instr_at is_register
walking = tt

unfoldable pub turning : Unit {0}
unfolding judging book turned_all turned opening rise next_place taken worth entry row_of fed settled settle settle_below put worked work_out node_value node_width eval operators.unary operators.inverted operators.negated operators.binary operators.both operators.either operators.differing operators.certain operators.equal operators.agreed operators.choice operators.possible operators.marked operators.between operators.outside operators.sum operators.difference operators.flag operators.unary_width operators.binary_width known ones all_unknown nowhere holds same number_of value_at unset input_of
turning = tt

unfoldable pub clocking : Unit {0}
unfolding turning clocked_in given refused wire_value stored store_places store_registers with_wait with_register clocked handed upper_inputs_fit registers_fit tables_fit rows_fit row_fits register_fits landings lands widths_from nodes_fit node_fits width? marks_of fits width_of all_below instr_at list_of variables is_register
clocking = tt

-- A row of the table: its first register nodes, 0 for the rest, and the place's node.
abbrev pub row : List ℕ → ℕ → List ℕ
row l p = l ++ (replicate (32 - length l) 0 ++ (p ∷ []))

-- ---- "Flip-flop sheet (hex): `02 01 00 01 01 08 08 0C 10 01 01 00 23 02 02 01`."

abbrev pub flip_flop : Module Expr
flip_flop =
    record {
      scope = record { inputs = 2; registers = 1; widths = 1 ∷ 8 ∷ 8 ∷ []; declared = 0; functions = [] };
      wires = [];
      threads = sequence posedge-clock (later 2 (variable 1)) ∷ [];
    }

abbrev pub flip_flop_sheet : List ℕ
flip_flop_sheet =
    0x02 ∷ 0x01 ∷ 0x00 ∷ 0x01 ∷ 0x01 ∷ 0x08 ∷ 0x08 ∷ 0x0C ∷ 0x10 ∷ 0x01 ∷ 0x01 ∷ 0x00 ∷ 0x23 ∷ 0x02 ∷ 0x02 ∷ 0x01 ∷ []

-- One node per variable; the register takes the input's, for which the walk makes none; then the place.
abbrev pub flip_flop_tables : Tables
flip_flop_tables = record { nodes = a_variable 0 ∷ a_variable 1 ∷ a_variable 2 ∷ a_constant 8 0 ∷ []; rows = row (1 ∷ []) 3 }

pub flip-flop-read : read flip_flop_sheet ≡ ok flip_flop
unfolding reading
flip-flop-read = refl

pub flip-flop-extracted : (rule flip_flop ≡ 0) × (extracted flip_flop ≡ ok flip_flop_tables) × (expressions flip_flop_sheet ≡ ok flip_flop_tables)
unfolding reading walking expressions
flip-flop-extracted = (refl, refl, refl)

pub flip-flop-words : all_words flip_flop_tables.nodes ≡ 0 ∷ 0 ∷ 0 ∷ 0 ∷ 0 ∷ 1 ∷ 0 ∷ 0 ∷ 0 ∷ 2 ∷ 0 ∷ 0 ∷ 1 ∷ 8 ∷ 0 ∷ 0 ∷ []
unfolding all_words node_words four_words
flip-flop-words = refl

-- ---- the call: "The caller lends 16,384 words and 1,056 words; what isn't filled is set to 0."

-- A sheet that is read and extracted, on lent words of the right lengths.
pub fills : (s : List ℕ) {m : Module Expr} (T : Tables) → read s ≡ ok m → extracted m ≡ ok T →
    (ns rs : List ℕ) → length ns ≡ 16384 → length rs ≡ 1056 →
    extract s ns rs ≡ record { number = 0; nodes = padded 16384 (all_words T.nodes); rows = padded 1056 T.rows }
unfolding extract filled right_lengths expressions
fills s T h g ns rs k l = rw (eq-eqb (length ns) 16384 k, eq-eqb (length rs) 1056 l, h, g)

pub flip-flop-filled : (ns rs : List ℕ) → length ns ≡ 16384 → length rs ≡ 1056 →
    extract flip_flop_sheet ns rs
    ≡ record { number = 0; nodes = padded 16384 (all_words flip_flop_tables.nodes); rows = padded 1056 flip_flop_tables.rows }
flip-flop-filled = fills flip_flop_sheet flip_flop_tables flip-flop-read flip-flop-extracted.1

-- "23 a lent table of another length", and the words as they were; before any number of the sheet.
pub other-lengths :
    (extract flip_flop_sheet [] [] ≡ record { number = 23; nodes = []; rows = [] })
    × ((ns rs : List ℕ) → length ns ≡ 16384 → length rs ≡ 1055 → extract flip_flop_sheet ns rs ≡ record { number = 23; nodes = ns; rows = rs })
    × ((ns rs : List ℕ) → length ns ≡ 16385 → length rs ≡ 1056 → extract flip_flop_sheet ns rs ≡ record { number = 23; nodes = ns; rows = rs })
    × ((extract [] [] []).number ≡ 23)
unfolding extract right_lengths
other-lengths = (refl, (λ ns rs h g. rw (h, g)), (λ ns rs h g. rw h), refl)

-- ---- words: "kind (0 variable, 1 constant, 2 unknown constant, 10 plus the operator, 40 branch) and operands"

abbrev kinds : List Node
kinds =
    a_variable 5 ∷ a_constant 32 0x12345678 ∷ an_unknown 8 ∷ a_unary 2 7 ∷ a_binary 3 7 8 ∷ a_binary 9 7 8 ∷ a_conditional 6 7 8 ∷ a_branch 6 7 8 ∷ []

pub words-and-back :
    (all_words kinds
    ≡ 0 ∷ 5 ∷ 0 ∷ 0 ∷ 1 ∷ 32 ∷ 0x5678 ∷ 0x1234 ∷ 2 ∷ 8 ∷ 0 ∷ 0 ∷ 12 ∷ 7 ∷ 0 ∷ 0 ∷
    13 ∷ 7 ∷ 8 ∷ 0 ∷ 19 ∷ 7 ∷ 8 ∷ 0 ∷ 20 ∷ 6 ∷ 7 ∷ 8 ∷ 40 ∷ 6 ∷ 7 ∷ 8 ∷ [])
    × (list_of 8 (node_at (all_words kinds)) ≡ kinds)
unfolding all_words node_words four_words list_of node_at node_from
words-and-back = (refl, refl)

-- Kinds that are none: each reads as a node of width 0, which no table may hold.
pub no-kinds :
    (node_from 3 1 1 1 ≡ an_unknown 0)
    × (node_from 10 1 1 1 ≡ an_unknown 0)
    × (node_from 21 1 1 1 ≡ an_unknown 0)
    × (node_from 39 1 1 1 ≡ an_unknown 0)
    × (node_from 41 1 1 1 ≡ an_unknown 0)
unfolding node_from
no-kinds = (refl, refl, refl, refl, refl)

-- ---- the walk

abbrev on-clock : Stmt Expr → Stmt Expr
on-clock s = sequence posedge-clock s

-- Registers 1 and 2 of width 8, no wires.
abbrev threads-of : List (Stmt Expr) → Module Expr
threads-of ts = module-of 2 (8 ∷ 8 ∷ []) [] ts

-- "At `ifnot`: the condition, the held leg, the other leg, then one branch node for each register the thread writes, rising, and for
-- the place."
-- @(posedge v0) if (v1 < 5) v2 <= v3 + 1; else v3 = ~v3;
abbrev deciding : Module Expr
deciding =
    record {
      scope = record { inputs = 2; registers = 2; widths = 1 ∷ 8 ∷ 8 ∷ 8 ∷ []; declared = 0; functions = [] };
      wires = [];
      threads =
          on-clock
          (if_else (binary 9 8 (variable 1) (constant 8 5)) (later 2 (binary 6 8 (variable 3) (constant 8 1))) (assign 3 (unary 1 8 (variable 3))))
          ∷ [];
    }

pub order-of-nodes :
    extracted deciding
    ≡ ok
    (record {
      nodes =
          a_variable 0 ∷ a_variable 1 ∷ a_variable 2 ∷ a_variable 3 ∷
          -- the condition
          a_constant 8 5 ∷ a_binary 9 1 4 ∷
          -- the held leg, and its place
          a_constant 8 1 ∷ a_binary 6 3 6 ∷ a_constant 8 0 ∷
          -- the other leg, and its place
          a_unary 1 3 ∷ a_constant 8 0 ∷
          -- registers 2 and 3, and the place
          a_branch 5 7 2 ∷ a_branch 5 3 9 ∷ a_branch 5 8 10 ∷ [];
      rows = row (11 ∷ 12 ∷ []) 13;
    })
unfolding walking
order-of-nodes = refl

-- "It holds the current and the later value": in one thread, `v1 <= v2; v2 <= v1` swaps, and `v1 = v2; v2 = v1` doesn't.
pub current-and-later :
    (extracted (threads-of (on-clock (sequence (later 1 (variable 2)) (later 2 (variable 1))) ∷ []))
    ≡ ok (record { nodes = a_variable 0 ∷ a_variable 1 ∷ a_variable 2 ∷ a_constant 8 0 ∷ []; rows = row (2 ∷ 1 ∷ []) 3 }))
    × (extracted (threads-of (on-clock (sequence (assign 1 (variable 2)) (assign 2 (variable 1))) ∷ []))
    ≡ ok (record { nodes = a_variable 0 ∷ a_variable 1 ∷ a_variable 2 ∷ a_constant 8 0 ∷ []; rows = row (2 ∷ 2 ∷ []) 3 }))
unfolding walking
current-and-later = (refl, refl)

-- "Rows, by thread and wait": @(posedge v0) v1 <= v2; @(posedge v0) v2 <= ~v1;
pub wait-by-wait :
    extracted (threads-of (on-clock (sequence (later 1 (variable 2)) (on-clock (later 2 (unary 1 8 (variable 1))))) ∷ []))
    ≡ ok
    (record {
      nodes = a_variable 0 ∷ a_variable 1 ∷ a_variable 2 ∷ a_constant 8 2 ∷ a_unary 1 1 ∷ a_constant 8 0 ∷ [];
      rows = row (2 ∷ 2 ∷ []) 3 ++ row (1 ∷ 4 ∷ []) 5;
    })
unfolding walking
wait-by-wait = refl

-- "21 over 4,096 nodes": the 4,096th is taken, the next is not.
pub node-4096 :
    (emit (replicate 4095 (a_variable 0)) (an_unknown 1)
    ≡ ok (record { nodes = replicate 4095 (a_variable 0) ++ (an_unknown 1 ∷ []); node = 4095 }))
    × (emit (replicate 4096 (a_variable 0)) (an_unknown 1) ≡ no 21 0)
unfolding emit
node-4096 = (refl, refl)

-- ---- the rules, each beside a module that keeps it

abbrev zero-8 : Expr
zero-8 = constant 8 0

-- "12 two threads write one register": not two registers, and not one thread that writes twice.
pub rule-12 :
    (rule (threads-of (on-clock (later 1 zero-8) ∷ on-clock (later 1 zero-8) ∷ [])) ≡ 12)
    × (rule (threads-of (on-clock (later 1 zero-8) ∷ on-clock (later 2 zero-8) ∷ [])) ≡ 0)
    × (rule (threads-of (on-clock (sequence (later 1 zero-8) (later 1 zero-8)) ∷ [])) ≡ 0)
unfolding judging
rule-12 = (refl, refl, refl)

-- "13 one written both ways": not two registers, one each way. By two threads it is 12, "lowest first".
pub rule-13 :
    (rule (threads-of (on-clock (sequence (assign 1 zero-8) (later 1 zero-8)) ∷ [])) ≡ 13)
    × (rule (threads-of (on-clock (sequence (assign 1 zero-8) (later 2 zero-8)) ∷ [])) ≡ 0)
    × (rule (threads-of (on-clock (assign 1 zero-8) ∷ on-clock (later 1 zero-8) ∷ [])) ≡ 12)
unfolding judging
rule-13 = (refl, refl, refl)

-- "Two threads `a <= b`, `b <= a`: swapped in any order. With plain assignment: 14."
abbrev pub plain_swap_sheet : List ℕ
plain_swap_sheet =
    0x01 ∷ 0x02 ∷ 0x00 ∷ 0x02 ∷ 0x01 ∷ 0x08 ∷ 0x08 ∷
    0x0C ∷ 0x10 ∷ 0x01 ∷ 0x01 ∷ 0x00 ∷ 0x03 ∷ 0x01 ∷ 0x02 ∷ 0x02 ∷
    0x0C ∷ 0x10 ∷ 0x01 ∷ 0x01 ∷ 0x00 ∷ 0x03 ∷ 0x02 ∷ 0x02 ∷ 0x01 ∷ []

abbrev pub plainly_swapping : Module Expr
plainly_swapping = threads-of (on-clock (assign 1 (variable 2)) ∷ on-clock (assign 2 (variable 1)) ∷ [])

abbrev pub swapping_tables : Tables
swapping_tables =
    record {
      nodes = a_variable 0 ∷ a_variable 1 ∷ a_variable 2 ∷ a_constant 8 0 ∷ a_constant 8 0 ∷ [];
      rows = row (2 ∷ 2 ∷ []) 3 ++ row (1 ∷ 1 ∷ []) 4;
    }

pub plain-swap : (read plain_swap_sheet ≡ ok plainly_swapping) × (expressions plain_swap_sheet ≡ no 14 0) × (extracted swapping ≡ ok swapping_tables)
unfolding reading walking expressions
plain-swap = (refl, refl, refl)

-- "14 a register written by plain assignment and read by another thread or a wire": a condition reads too. Its own thread may read it,
-- and a later assignment may be read by all.
pub rule-14 :
    (rule (threads-of (on-clock (assign 1 zero-8) ∷ on-clock (if_then (variable 1) (later 2 zero-8)) ∷ [])) ≡ 14)
    × (rule (module-of 1 (8 ∷ 8 ∷ []) (unary 1 8 (variable 1) ∷ []) (on-clock (assign 1 zero-8) ∷ [])) ≡ 14)
    × (rule (module-of 1 (8 ∷ 8 ∷ []) (unary 1 8 (variable 1) ∷ []) (on-clock (later 1 zero-8) ∷ [])) ≡ 0)
    × (rule (threads-of (on-clock (assign 1 (unary 1 8 (variable 1))) ∷ on-clock (later 2 zero-8) ∷ [])) ≡ 0)
    × (rule (threads-of (on-clock (later 1 zero-8) ∷ on-clock (if_then (variable 1) (later 2 zero-8)) ∷ [])) ≡ 0)
unfolding judging
rule-14 = (refl, refl, refl, refl, refl)

-- Inputs 0 and 1 of width 1, and a thread that waits.
abbrev waiting : List EdgeTerm → Module Expr
waiting ts =
    record { scope = record { inputs = 2; registers = 1; widths = 1 ∷ 1 ∷ 8 ∷ []; declared = 0; functions = [] }; wires = []; threads = wait ts ∷ [] }

-- "15 a wait other than the single posedge of input 0."
pub rule-15 :
    (rule (waiting (record { edge = Negedge; variable = 0 } ∷ [])) ≡ 15)
    × (rule (waiting (record { edge = Change; variable = 0 } ∷ [])) ≡ 15)
    × (rule (waiting (record { edge = Posedge; variable = 1 } ∷ [])) ≡ 15)
    × (rule (waiting (record { edge = Posedge; variable = 0 } ∷ record { edge = Posedge; variable = 0 } ∷ [])) ≡ 15)
    × (rule (waiting (record { edge = Posedge; variable = 0 } ∷ [])) ≡ 0)
unfolding judging
rule-15 = (refl, refl, refl, refl, refl)

-- "16 a thread that doesn't start with a wait (a wait, a sequence whose first does, a forever whose body does)": not an if-else both
-- of whose legs do, nor a sequence whose first is empty.
pub rule-16 :
    (rule (threads-of (sequence (later 1 zero-8) posedge-clock ∷ [])) ≡ 16)
    × (rule (threads-of (sequence empty posedge-clock ∷ [])) ≡ 16)
    × (rule (threads-of (if_else (variable 1) posedge-clock posedge-clock ∷ [])) ≡ 16)
    × (rule (threads-of (posedge-clock ∷ empty ∷ [])) ≡ 16)
    × (rule (threads-of (forever (sequence posedge-clock empty) ∷ [])) ≡ 0)
unfolding judging
rule-16 = (refl, refl, refl, refl, refl)

-- "17 a loop or thread body that doesn't surely wait (these do: a wait; a forever; a sequence with a part that does; if-else with
-- both)": a while doesn't, nor an if.
pub rule-17 :
    (rule (threads-of (on-clock (while (variable 1) (later 1 zero-8)) ∷ [])) ≡ 17)
    × (rule (threads-of (on-clock (while (variable 1) (if_then (variable 2) posedge-clock)) ∷ [])) ≡ 17)
    × (rule (threads-of (on-clock (while (variable 1) (while (variable 2) posedge-clock)) ∷ [])) ≡ 17)
    × (rule (threads-of (on-clock (forever (if_else (variable 1) posedge-clock empty)) ∷ [])) ≡ 17)
    × (rule (threads-of (on-clock (while (variable 1) (if_else (variable 2) posedge-clock posedge-clock)) ∷ [])) ≡ 0)
    × (rule (threads-of (on-clock (while (variable 1) (sequence (later 1 zero-8) posedge-clock)) ∷ [])) ≡ 0)
    × (rule (threads-of (on-clock (while (variable 1) (forever posedge-clock)) ∷ [])) ≡ 0)
unfolding judging
rule-17 = (refl, refl, refl, refl, refl, refl, refl)

-- "18 clock read in an expression": a wait doesn't read it. What no run reaches is read all the same.
pub rule-18 :
    (rule (threads-of (on-clock (if_then (variable 0) (later 1 zero-8)) ∷ [])) ≡ 18)
    × (rule (module-of 1 (8 ∷ 1 ∷ []) (unary 1 1 (variable 0) ∷ []) (posedge-clock ∷ [])) ≡ 18)
    × (rule (threads-of (sequence (forever posedge-clock) (if_then (variable 0) empty) ∷ [])) ≡ 18)
    × (rule (threads-of (on-clock (if_then (variable 1) (later 1 zero-8)) ∷ [])) ≡ 0)
unfolding judging
rule-18 = (refl, refl, refl, refl)

-- Wires 2 and 3 over register 1.
abbrev wires-of : Expr → Expr → Module Expr
wires-of a b = module-of 1 (8 ∷ 8 ∷ 8 ∷ []) (a ∷ b ∷ []) (posedge-clock ∷ [])

-- "19 a wire reads itself or a higher wire."
pub rule-19 :
    (rule (wires-of (variable 3) (variable 1)) ≡ 19)
    × (rule (wires-of (variable 1) (variable 3)) ≡ 19)
    × (rule (wires-of (variable 1) (variable 2)) ≡ 0)
unfolding judging
rule-19 = (refl, refl, refl)

-- So many waits and one more.
unfoldable pub waits : ℕ → Stmt Expr
waits zero = posedge-clock
waits (suc n) = sequence posedge-clock (waits n)

-- "20 over 32 waits", of all threads together.
pub rule-20 :
    (rule (threads-of (waits 32 ∷ [])) ≡ 20)
    × (rule (threads-of (waits 31 ∷ [])) ≡ 0)
    × (rule (threads-of (waits 15 ∷ waits 16 ∷ [])) ≡ 20)
    × (rule (threads-of (waits 15 ∷ waits 15 ∷ [])) ≡ 0)
unfolding judging waits
rule-20 = (refl, refl, refl, refl)

-- ---- "?: for a branch: on x it gives x, where the thread takes the other leg." By document 02, request [4], it is x in the bits in
-- which its arms differ.

-- @(posedge v0) if (v1) v2 <= 1; else v2 <= 2;
abbrev branching : Module Expr
branching =
    record {
      scope = record { inputs = 2; registers = 1; widths = 1 ∷ 1 ∷ 8 ∷ []; declared = 0; functions = [] };
      wires = [];
      threads = on-clock (if_else (variable 1) (later 2 (constant 8 1)) (later 2 (constant 8 2))) ∷ [];
    }

-- Its nodes, the register's by a node of this kind.
abbrev branching_tables : (ℕ → ℕ → ℕ → Node) → Tables
branching_tables kind =
    record {
      nodes =
          a_variable 0 ∷ a_variable 1 ∷ a_variable 2 ∷ a_constant 8 1 ∷ a_constant 8 0 ∷ a_constant 8 2 ∷ a_constant 8 0 ∷ kind 1 3 5 ∷ a_branch 1 4 6 ∷ [];
      rows = row (7 ∷ []) 8;
    }

pub branching-extracted : extracted branching ≡ ok (branching_tables a_branch)
unfolding walking
branching-extracted = refl

-- The register's node, where all variables have one value.
abbrev branched : (ℕ → ℕ → ℕ → Node) → Value → Value
branched kind a =
    let T = branching_tables kind in
    worth branching T (λ v. a) (entry branching T 0 0 0)

pub branch-on-x :
    (branched a_branch (all_unknown 1) ≡ known 2)
    × (branched a_branch (known 0) ≡ known 2)
    × (branched a_branch (known 1) ≡ known 1)
    × (branched a_conditional (all_unknown 1) ≡ record { number = 0; unknown = 3 })
    × (branched a_conditional (known 1) ≡ known 1)
unfolding turning
branch-on-x = (refl, refl, refl, refl, refl)

-- ---- the book

-- Two inputs, the clock's first.
abbrev both : ℕ → ℕ → Inputs
both c n = record { count = 2; value = c ∷ n ∷ replicate 14 0; unknown = replicate 16 0 }

-- The flip-flop's register: x at first, and from each rise on what the input was then.
pub flip-flop-book :
    (n k : ℕ) →
    ((book flip_flop flip_flop_tables []).values 2 ≡ all_unknown 8)
    × ((book flip_flop flip_flop_tables (both 0 n ∷ [])).values 2 ≡ all_unknown 8)
    × ((book flip_flop flip_flop_tables (both 0 n ∷ both 1 n ∷ [])).values 2 ≡ known n)
    × ((book flip_flop flip_flop_tables (both 0 n ∷ both 1 n ∷ [])).places 0 ≡ 0)
    × ((book flip_flop flip_flop_tables (both 0 n ∷ both 1 n ∷ both 0 k ∷ [])).values 2 ≡ known n)
    × ((book flip_flop flip_flop_tables (both 0 n ∷ both 1 n ∷ both 0 k ∷ both 1 k ∷ [])).values 2 ≡ known k)
unfolding turning
flip-flop-book n k = (refl, refl, refl, refl, refl, refl)

-- "all worked out on the values before": a rise swaps. Registers 1 and 2 have the values a and b, and both threads wait.
abbrev holding : Value → Value → Book
holding a b = record { values = λ v. pick (eqb v 1) a b; places = λ i. 0 }

pub swapped-by-a-rise :
    (a b : Value) →
    ((rise swapping swapping_tables (holding a b)).values 1 ≡ b) × ((rise swapping swapping_tables (holding a b)).values 2 ≡ a)
unfolding turning
swapped-by-a-rise a b = (refl, refl)

-- ---- wires: "Settling sets the wires from 0 up, each to its expression's value."

-- v3 = v1 + 1; v4 = v3 + v3; @(posedge v0) v2 <= v4; and the same with the wires the other way round.
abbrev chain-of : Expr → Expr → Module Expr
chain-of a b =
    record {
      scope = record { inputs = 2; registers = 1; widths = 1 ∷ 8 ∷ 8 ∷ 8 ∷ 8 ∷ []; declared = 0; functions = [] };
      wires = a ∷ b ∷ [];
      threads = on-clock (later 2 (variable 4)) ∷ [];
    }

abbrev chain : Module Expr
chain = chain-of (binary 6 8 (variable 1) (constant 8 1)) (binary 6 8 (variable 3) (variable 3))

abbrev chain_tables : Tables
chain_tables =
    record { nodes = a_variable 0 ∷ a_variable 1 ∷ a_variable 2 ∷ a_variable 3 ∷ a_variable 4 ∷ a_constant 8 0 ∷ []; rows = row (4 ∷ []) 5 }

abbrev upward : Module Expr
upward = chain-of (binary 6 8 (variable 4) (variable 4)) (binary 6 8 (variable 1) (constant 8 1))

pub chain-extracted : (extracted chain ≡ ok chain_tables) × (rule upward ≡ 19)
unfolding walking
chain-extracted = (refl, refl)

-- One pass is enough; upwards it isn't, and wire 0 is still made of what wire 1 was.
pub settled-in-one-pass :
    (settle chain (λ v. known 5) 3 ≡ known 6)
    × (settle chain (λ v. known 5) 4 ≡ known 12)
    × (settle upward (λ v. known 5) 4 ≡ known 6)
    × (settle upward (λ v. known 5) 3 ≡ known 10)
unfolding turning
settled-in-one-pass = (refl, refl, refl, refl)

-- "Wires settled after the rise only": then the register would be x after the first rise, and a cycle late ever after.
pub settled-before-the-rise :
    ((book chain chain_tables (both 0 5 ∷ both 1 5 ∷ [])).values 2 ≡ known 12)
    × ((book chain chain_tables (both 0 5 ∷ both 1 5 ∷ both 0 7 ∷ [])).values 4 ≡ known 16)
    × ((book chain chain_tables (both 0 5 ∷ both 1 5 ∷ both 0 7 ∷ [])).values 2 ≡ known 12)
    × ((book chain chain_tables (both 0 5 ∷ both 1 5 ∷ both 0 7 ∷ both 1 7 ∷ [])).values 2 ≡ known 16)
unfolding turning
settled-before-the-rise = (refl, refl, refl, refl)

-- ---- the cycle run, on the same tables

-- Registers of these widths, all x, threads at place 0; and one input above the clock.
abbrev pub at_first : List ℕ → Registers
at_first ws = record { value = replicate 32 0; unknown = list_of 32 (λ r. ones (get_or ws r 32)); places = replicate 8 0 }

abbrev upper : ℕ → Inputs
upper n = record { count = 1; value = n ∷ replicate 15 0; unknown = replicate 16 0 }

-- What the book has after a low and a high instant.
pub clocked-as-the-book :
    (n : ℕ) →
    ((clocked flip_flop flip_flop_tables (at_first (8 ∷ [])) (upper n)).values 2 ≡ (book flip_flop flip_flop_tables (both 0 n ∷ both 1 n ∷ [])).values 2)
    × ((clocked chain chain_tables (at_first (8 ∷ [])) (upper n)).values 2 ≡ (book chain chain_tables (both 0 n ∷ both 1 n ∷ [])).values 2)
    × ((clocked chain chain_tables (at_first (8 ∷ [])) (upper n)).values 4 ≡ (book chain chain_tables (both 0 n ∷ both 1 n ∷ [])).values 4)
unfolding clocking
clocked-as-the-book n = (refl, refl, refl)

-- "and gives registers, places and wires"
pub clocked-chain :
    clocked_in chain chain_tables (at_first (8 ∷ [])) (upper 5)
    ≡ record {
      number = 0;
      value = 12 ∷ replicate 31 0;
      unknown = 0 ∷ replicate 31 0xFFFFFFFF;
      places = replicate 8 0;
      wire = 6 ∷ 12 ∷ replicate 30 0;
      unsure = 0 ∷ 0 ∷ replicate 30 0xFFFFFFFF;
    }
unfolding clocking
clocked-chain = refl

-- "24, 31, 25": a place entry that is no constant; a thread that doesn't wait; an input too wide. The first of them is met.
abbrev running : Registers
running = record { value = replicate 32 0; unknown = replicate 32 0xFF; places = 1 ∷ replicate 7 0 }

abbrev wrong_tables : Tables
wrong_tables = record { nodes = a_variable 0 ∷ a_variable 1 ∷ a_variable 2 ∷ a_constant 8 0 ∷ []; rows = row (1 ∷ []) 1 }

pub refused-in-order :
    ((clocked_in flip_flop flip_flop_tables (at_first (8 ∷ [])) (upper 255)).number ≡ 0)
    × (clocked_in flip_flop flip_flop_tables (at_first (8 ∷ [])) (upper 256) ≡ refused 25 (at_first (8 ∷ [])))
    × (clocked_in flip_flop flip_flop_tables (at_first (8 ∷ [])) (both 1 7) ≡ refused 25 (at_first (8 ∷ [])))
    × (clocked_in flip_flop flip_flop_tables running (upper 256) ≡ refused 31 running)
    × (clocked_in flip_flop wrong_tables running (upper 256) ≡ refused 24 running)
    × (cycle_run flip_flop_sheet [] [] running (upper 256) ≡ refused 23 running)
unfolding clocking cycle_run right_lengths
refused-in-order = (refl, refl, refl, refl, refl, refl)

-- A sheet that extraction refuses, whatever the tables hold.
pub refused-sheet : (ns rs : List ℕ) → length ns ≡ 16384 → length rs ≡ 1056 → (g : Registers) (a : Inputs) →
    cycle_run plain_swap_sheet ns rs g a ≡ refused 14 g
unfolding cycle_run right_lengths clocked_or extractable reading walking
refused-sheet ns rs h k g a = rw (eq-eqb (length ns) 16384 h, eq-eqb (length rs) 1056 k)

-- ---- 24: "any of the 4,096 nodes .. with an unknown kind, no such variable or node, a wrong width, a constant too wide or an operand
-- not earlier", over the flip-flop's variables of widths 1, 8 and 8

pub nodes-refused :
    (nodes_fit flip_flop (an_unknown 0 ∷ []) [] ≡ false)
    × (nodes_fit flip_flop (an_unknown 33 ∷ []) [] ≡ false)
    × (nodes_fit flip_flop (a_variable 3 ∷ []) [] ≡ false)
    × (nodes_fit flip_flop (a_constant 33 0 ∷ []) [] ≡ false)
    × (nodes_fit flip_flop (a_constant 8 256 ∷ []) [] ≡ false)
    × (nodes_fit flip_flop (a_variable 0 ∷ a_unary 1 1 ∷ []) [] ≡ false)
    × (nodes_fit flip_flop (a_variable 0 ∷ a_variable 1 ∷ a_binary 3 0 1 ∷ []) [] ≡ false)
    × (nodes_fit flip_flop (a_variable 1 ∷ a_binary 3 0 1 ∷ []) [] ≡ false)
    × (nodes_fit flip_flop (a_variable 0 ∷ a_variable 1 ∷ a_conditional 0 0 1 ∷ []) [] ≡ false)
    × (nodes_fit flip_flop (a_variable 0 ∷ a_variable 1 ∷ a_branch 0 0 1 ∷ []) [] ≡ false)
    × (nodes_fit flip_flop (a_variable 0 ∷ a_variable 1 ∷ a_branch 2 1 1 ∷ []) [] ≡ false)
unfolding clocking
nodes-refused = (refl, refl, refl, refl, refl, refl, refl, refl, refl, refl, refl)

pub nodes-taken :
    nodes_fit flip_flop
    (a_variable 0 ∷ a_variable 1 ∷ a_variable 2 ∷ an_unknown 32 ∷ a_constant 8 255 ∷ a_unary 2 4 ∷ a_binary 8 1 2 ∷ a_binary 3 5 6 ∷ a_conditional 1 5 7 ∷
    a_branch 3 4 1 ∷ [])
    [] ≡ true
unfolding clocking
nodes-taken = refl

-- "or an entry ..; or a place entry whose branch arms end in anything but known 8-bit constants that are waits of its thread"
abbrev with-place : Node → Tables
with-place n = record { nodes = a_variable 0 ∷ a_variable 1 ∷ a_variable 2 ∷ a_constant 8 0 ∷ n ∷ []; rows = row (1 ∷ []) 4 }

abbrev with-register : ℕ → Tables
with-register n = record { nodes = flip_flop_tables.nodes; rows = row (n ∷ []) 3 }

pub entries :
    (tables_fit flip_flop (with-place (a_constant 8 0)) ≡ true)
    × (tables_fit flip_flop (with-place (a_branch 1 3 3)) ≡ true)
    × (tables_fit flip_flop (with-place (a_constant 8 1)) ≡ false)
    × (tables_fit flip_flop (with-place (a_constant 7 0)) ≡ false)
    × (tables_fit flip_flop (with-place (an_unknown 8)) ≡ false)
    × (tables_fit flip_flop (with-place (a_conditional 1 3 3)) ≡ false)
    × (tables_fit flip_flop (with-place (a_branch 1 3 2)) ≡ false)
    × (tables_fit flip_flop (with-register 2) ≡ true)
    × (tables_fit flip_flop (with-register 0) ≡ false)
    × (tables_fit flip_flop (with-register 4) ≡ false)
unfolding clocking
entries = (refl, refl, refl, refl, refl, refl, refl, refl, refl, refl)
