-- The plan of a sheet that was read, filled once: counts, widths, readers, watchers and sizes, then the nodes of each wire and of each
-- thread's instructions. Defined for any bytes and words; specs/Holding says what the plan of an accepted sheet holds.
use Rattle.std.specs.Prelude.{ℕ, zero, suc, ◌+◌, ◌%◌, List, get_or, set, replicate}
use Rattle.values.specs.Edges.{edge_number}
use Rattle.sheet.specs.declared.Layout.{Layout}
use Rattle.pseudocode.specs.declared.EdgeTerms.{EdgeTerms}
use Rattle.pseudocode.specs.declared.Action.{Action}
use Rattle.pseudocode.specs.declared.Action.TheVariants.{Set, Later, Go, IfNot}
use Rattle.pseudocode.specs.declared.Instruction.{Instruction}
use Rattle.pseudocode.specs.declared.Instruction.TheVariants.{Wait, Act}
use Rattle.pseudocode.specs.Compiling.{Compiled, compile_at}
use Rattle.pseudocode.specs.Fetching.{term_at, fetch_at}
use Rattle.plan.specs.Sections.{variables, code_place, wire_place, readers_place, watchers_place, width_place, count_place, size_place}
use Rattle.plan_exprs.specs.Flatten.{put_node, more, add_at}
use Rattle.tables.specs.Readers.{at_most, mark_variable, readers_below}

-- ---- up_to: the steps below n, one after the other

unfoldable pub up_to : {A : Type 0} → (ℕ → A → A) → ℕ → A → A
up_to step zero x = x
up_to step (suc n) x = step n (up_to step n x)

-- ---- words in a row

unfoldable pub put_four : ℕ → ℕ → ℕ → ℕ → ℕ → List ℕ → List ℕ
put_four at k a b c ws = set (set (set (set ws at k) (at + 1) a) (at + 2) b) (at + 3) c

-- Word k of a list, put k words after a base.
unfoldable pub copy_word : List ℕ → ℕ → ℕ → List ℕ → List ℕ
copy_word xs base k ws = set ws (base + k) (get_or xs k 0)

-- ---- counts, widths, sizes

-- "Then one width byte for each variable (1 to 32)": the first stands at a place of the sheet, behind the four or five counts.
unfoldable pub put_width : List ℕ → ℕ → ℕ → List ℕ → List ℕ
put_width s at v ws = set ws (width_place v) (get_or s (at + v) 0)

unfoldable pub put_size : List ℕ → ℕ → List ℕ → List ℕ
put_size sizes i ws = set ws (size_place i) (at_most 256 (get_or sizes i 0))

-- ---- watchers: thread i is marked at the variables that its waits name

unfoldable pub watch_term : ℕ → EdgeTerms → ℕ → List ℕ → List ℕ
watch_term i t k rs = mark_variable i (term_at t k).variable rs

-- A wait has at most eight terms.
unfoldable pub watch_instr : ℕ → Instruction → List ℕ → List ℕ
watch_instr i (Wait t) rs = up_to (watch_term i t) (at_most 8 t.count) rs
watch_instr i (Act a) rs = rs

unfoldable pub watch_place : List ℕ → List ℕ → ℕ → ℕ → List ℕ → List ℕ
watch_place s code i p rs = watch_instr i (fetch_at s code i p) rs

-- A thread has at most 256 instructions.
unfoldable pub watch_thread : List ℕ → List ℕ → List ℕ → ℕ → List ℕ → List ℕ
watch_thread s code sizes i rs = up_to (watch_place s code i) (at_most 256 (get_or sizes i 0)) rs

-- ---- the next free node, and the words

pub record Filling : Type 0 where
  pub free : ℕ
  pub words : List ℕ

abbrev pub filling : ℕ → List ℕ → Filling
filling n ws = record { free = n; words = ws }

-- ---- wires: the expression of wire k stands at its place in `starts`

unfoldable pub fill_wire : List ℕ → List ℕ → ℕ → Filling → Filling
fill_wire s starts k f =
    let a = add_at 16 s (get_or starts k 0) f.free f.words in
    filling a.added.free (set (set a.words (wire_place k) f.free) (wire_place k + 1) a.added.root)

-- ---- instructions: the four words of one at a place of the plan, and its nodes

-- A wait's terms stand as nodes: edge and variable.
unfoldable pub put_term : EdgeTerms → ℕ → Filling → Filling
put_term t k f =
    let x = term_at t k in
    filling (more f.free) (put_node f.free (edge_number x.edge) x.variable 0 0 f.words)

unfoldable pub fill_wait : EdgeTerms → ℕ → Filling → Filling
fill_wait t at f =
    let g = up_to (put_term t) (at_most 8 t.count) f in
    filling g.free (put_four at 0 t.count f.free 0 g.words)

-- The expression at p, with the kind and the target or goal of its instruction.
unfoldable pub fill_expr : List ℕ → ℕ → ℕ → ℕ → ℕ → Filling → Filling
fill_expr s p kind number at f =
    let a = add_at 16 s p f.free f.words in
    filling a.added.free (put_four at kind number f.free a.added.root a.words)

unfoldable pub fill_act : List ℕ → Action → ℕ → Filling → Filling
fill_act s (Set t p) at f = fill_expr s p 1 t at f
fill_act s (Later t p) at f = fill_expr s p 2 t at f
fill_act s (Go g) at f = filling f.free (put_four at 3 (g % 256) 0 0 f.words)
fill_act s (IfNot g p) at f = fill_expr s p 4 (g % 256) at f

unfoldable pub fill_instr : List ℕ → Instruction → ℕ → Filling → Filling
fill_instr s (Wait t) at f = fill_wait t at f
fill_instr s (Act a) at f = fill_act s a at f

unfoldable pub fill_place : List ℕ → List ℕ → ℕ → ℕ → Filling → Filling
fill_place s code i p f = fill_instr s (fetch_at s code i p) (code_place i p) f

unfoldable pub fill_thread : List ℕ → List ℕ → List ℕ → ℕ → Filling → Filling
fill_thread s code sizes i f = up_to (fill_place s code i) (at_most 256 (get_or sizes i 0)) f

-- ---- the whole plan

unfoldable pub with_counts : Layout → List ℕ → List ℕ
with_counts l ws = put_four (count_place 0) l.inputs l.registers l.wires l.threads ws

unfoldable pub with_widths : List ℕ → Layout → List ℕ → List ℕ
with_widths s l ws = up_to (put_width s (at_most 5 l.widths)) (at_most 80 (l.inputs + l.registers + l.wires)) ws

unfoldable pub with_readers : List ℕ → Layout → List ℕ → List ℕ
with_readers s l ws =
    up_to (copy_word (readers_below s l.definitions l.starts (at_most 32 l.wires) (replicate 80 0)) (readers_place 0)) 80 ws

unfoldable pub with_watchers : List ℕ → List ℕ → List ℕ → ℕ → List ℕ → List ℕ
with_watchers s code sizes n ws =
    up_to (copy_word (up_to (watch_thread s code sizes) n (replicate 80 0)) (watchers_place 0)) 80 ws

unfoldable pub with_sizes : List ℕ → List ℕ → List ℕ
with_sizes sizes ws = up_to (put_size sizes) 8 ws

-- The nodes begin after the variables' cells.
unfoldable pub with_wires : List ℕ → Layout → List ℕ → Filling
with_wires s l ws = up_to (fill_wire s l.starts) (at_most 32 l.wires) (filling variables ws)

unfoldable pub with_threads : List ℕ → List ℕ → List ℕ → ℕ → Filling → Filling
with_threads s code sizes n f = up_to (fill_thread s code sizes) n f

unfoldable pub code_of : List ℕ → Layout → Compiled
code_of s l = compile_at s l.definitions l.threads l.body (replicate 4096 0)

unfoldable pub filled_plan : List ℕ → Layout → List ℕ → List ℕ
filled_plan s l ws =
    let c = code_of s l in
    let n = at_most 8 l.threads in
    let tables = with_watchers s c.code c.sizes n (with_readers s l (with_widths s l (with_counts l ws))) in
    (with_threads s c.code c.sizes n (with_wires s l (with_sizes c.sizes tables))).words
