-- What is claimed of a cycle on a plane of cells: on the plan of a module, with tables filled from lent ones that fit, the rise of the
-- clock
-- is the cycle book's (document 01, "Extraction and the cycle run"). proofs/Claims shows it.
use Rattle.std.specs.Prelude.{◌≡◌, true, false, List, [], ℕ, ◌+◌, ◌≤◌, ◌<◌, length, get_or}
use Rattle.values.specs.Values.{pick}
use Rattle.sheet.specs.Expression.{Expr}
use Rattle.sheet.specs.Module.{Module}
use Rattle.masks.specs.Masks.{bits}
use Rattle.state.specs.Rows.{list_of}
use Rattle.events.specs.Cycle.{variables, code_of, instr_at, is_wait, wire_expr, wire_variable}
use Rattle.values.specs.Cells.{cell_of, cell_at}
use Rattle.plan.specs.Plan as plan
use Rattle.plan_nodes.specs.Flat.{Flat}
use Rattle.nextstate.specs.Rules.{writes, some_thread, waits_below}
use Rattle.nextstate.specs.Nodes.{node_at}
use Rattle.nextstate.specs.Extraction.{Tables}
use Rattle.nextstate.specs.Book as book
use Rattle.nextstate.specs.CycleRun.{widths_from, tables_fit, tables_in}
use Rattle.clock_nodes.specs.Reach.{Counted}
use Rattle.clock_nodes.specs.Copying.{copy_all, low_all}
use Rattle.clock_steps.specs.Taking.{Stand, rise}
use Rattle.clock_steps.specs.Numbers.{number_rows, fill_rows}

-- ---- the plan of a module

-- Wire k's expression lies flattened after the variables' cells.
pub record Wire (m : Module Expr) (q : plan.Plan) (k : ℕ) : Type 0 where
  pub nodes : ℕ
  pub flat : Flat q.node (variables m) (q.wire k).first (wire_expr m k) (q.wire k).root nodes
  pub above : 80 ≤ (q.wire k).first
  pub room : (q.wire k).first + nodes ≤ 4176

pub record Wired (m : Module Expr) (q : plan.Plan) : Type 0 where
  pub inputs : q.inputs ≡ m.scope.inputs
  pub registers : q.registers ≡ m.scope.registers
  pub wires : q.wires ≡ length m.wires
  pub few : variables m ≤ 80
  pub inside : (k : ℕ) → k < length m.wires → wire_variable m k < variables m
  pub wire : (k : ℕ) → k < length m.wires → Wire m q k

pub record Coded (m : Module Expr) (q : plan.Plan) : Type 0 where
  pub threads : q.threads ≡ length m.threads
  pub eight : length m.threads ≤ 8
  pub size : (i : ℕ) → i < length m.threads → q.size i ≡ length (code_of m i)
  pub short : (i : ℕ) → i < length m.threads → length (code_of m i) ≤ 256
  pub waits : (i p : ℕ) → i < length m.threads → p < length (code_of m i) → q.waits i p ≡ is_wait (instr_at (code_of m i) p)

-- ---- lent tables that fit, their nodes' widths, and the registers that each thread writes

pub record Lent (m : Module Expr) (ns us rs written : List ℕ) : Type 0 where
  pub fit : tables_fit m (tables_in ns rs) ≡ true
  pub sizes : us ≡ widths_from m (list_of 4096 (node_at ns)) []
  pub narrow : (v : ℕ) → v < variables m → get_or m.scope.widths v 0 ≤ 32
  pub few : waits_below m (length m.threads) ≤ 32
  pub registers : m.scope.registers ≤ 32
  pub inside : m.scope.inputs + m.scope.registers ≤ variables m
  pub writers : (i r : ℕ) → i < length m.threads → get_or (bits (get_or written i 0)) r false ≡ writes m i (m.scope.inputs + r)
  pub only : (i v : ℕ) → i < length m.threads → writes m i v ≡ true →
      (m.scope.inputs ≤ v) × (v < m.scope.inputs + m.scope.registers)

-- The words that are filled, of any contents.
pub record Room (ws ls ts ms : List ℕ) : Type 0 where
  pub plan : length ws ≡ 25212
  pub lows : length ls ≡ 4096
  pub rows : length ts ≡ 1152
  pub numbers : length ms ≡ 2048

-- ---- a book on a plane of cells

pub record Stands (m : Module Expr) (b : book.Book) (s : Stand) : Type 0 where
  pub long : length s.cells ≡ 4176
  pub value : (v : ℕ) → v < variables m → cell_at s.cells v ≡ b.values v
  pub eight : length s.places ≡ 8
  pub place : (i : ℕ) → i < length m.threads → get_or s.places i 0 ≡ b.places i

-- Each thread waits, and its next place is a byte.
pub record Waiting (m : Module Expr) (T : Tables) (b : book.Book) : Type 0 where
  pub wait : (i : ℕ) → i < length m.threads → is_wait (instr_at (code_of m i) (b.places i)) ≡ true
  pub byte : (i : ℕ) → i < length m.threads → book.next_place m T b i < 256

-- The book's rise: a register that some thread writes has its value's cell; every other variable's cell stays, and places past the
-- threads.
pub record Risen (m : Module Expr) (T : Tables) (b : book.Book) (s t : Stand) : Type 0 where
  pub stands : Stands m (book.rise m T b) t
  pub cell : (v : ℕ) → v < 80 →
      get_or t.cells v 0 ≡ pick (some_thread m (λ i. writes m i v)) (cell_of ((book.rise m T b).values v)) (get_or s.cells v 0)
  pub past : (i : ℕ) → length m.threads ≤ i → get_or t.places i 0 ≡ get_or s.places i 0

-- "each thread's written registers and its place take the values of the nodes in its place's row, all worked out on the values before"
unfoldable pub RiseIsTheBooks : Type 0
RiseIsTheBooks =
    (m : Module Expr) (q : plan.Plan) → Wired m q → Coded m q → (ns us rs written : List ℕ) → Lent m ns us rs written →
    (count : ℕ) → Counted rs count → (ws ls ts numbers : List ℕ) → Room ws ls ts numbers →
    (b : book.Book) (s : Stand) → Stands m b s → Waiting m (tables_in ns rs) b →
    Risen m (tables_in ns rs) b s
    (rise q (plan.node_at (copy_all ns us count ws)) (fill_rows ns (low_all ns count ls) rs q written ts) (number_rows q numbers) s)
