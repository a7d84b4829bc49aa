-- What the plan of an accepted sheet holds. proofs/Holding shows it of the plan that `fill` leaves (`filled-holds`).
use Rattle.std.specs.Prelude.{◌≡◌, Bool, true, false, ◌||◌, List, ℕ, zero, suc, ◌+◌, ◌≤◌, ◌<◌, eqb, length, get_or}
use Rattle.sheet.specs.declared.EdgeTerm.{EdgeTerm}
use Rattle.sheet.specs.Expression.{Expr, unknown}
use Rattle.sheet.specs.Statement.{empty}
use Rattle.sheet.specs.Module.{Module}
use Rattle.evaluation.specs.Evaluation.{reads}
use Rattle.pseudocode.specs.Translation.{Instr, wait!, set!, later!, go, ifnot, thread_code}
use Rattle.pseudocode.specs.Instruction.{no_term, terms_of}
use Rattle.plan.specs.declared.Expression.{Expression}
use Rattle.plan.specs.declared.Action.TheVariants.{Set, Later, Go, IfNot}
use Rattle.plan.specs.declared.Instruction.{Instruction}
use Rattle.plan.specs.declared.Instruction.TheVariants.{Wait, Act}
use Rattle.plan.specs.Sections.{variables}
use Rattle.plan.specs.Plan.{Node, Plan}
use Rattle.plan_nodes.specs.Flat.{Flat}

-- ---- the expression e lies flattened in nodes after the variables' cells and before node `end`; variables lie below base

pub record Lies (f : ℕ → Node) (base end : ℕ) (e : Expr) (x : Expression) : Type 0 where
  pub nodes : ℕ
  pub flat : Flat f base x.first e x.root nodes
  pub above : variables ≤ x.first
  pub room : x.first + nodes ≤ end
  pub root : x.root < x.first + nodes

-- ---- an instruction of the translation, the plan's one for it, and whether it waits

pub data Planned (f : ℕ → Node) (base end : ℕ) : Instr Expr → Instruction → Bool → Type 0 where
  a-wait : {ts : List EdgeTerm} → length ts ≤ 8 → Planned f base end (wait! ts) (Wait (terms_of ts)) true
  a-set : {t : ℕ} {e : Expr} {x : Expression} → Lies f base end e x → Planned f base end (set! t e) (Act (Set t x)) false
  a-later : {t : ℕ} {e : Expr} {x : Expression} → Lies f base end e x → Planned f base end (later! t e) (Act (Later t x)) false
  a-go : {g : ℕ} → Planned f base end (go g) (Act (Go g)) false
  an-ifnot : {g : ℕ} {e : Expr} {x : Expression} → Lies f base end e x → Planned f base end (ifnot e g) (Act (IfNot g x)) false

-- ---- names: does some wait of the code name variable v?

unfoldable pub any_below : (ℕ → Bool) → ℕ → Bool
any_below f zero = false
any_below f (suc n) = any_below f n || f n

unfoldable pub named_by : Instr Expr → ℕ → Bool
named_by (wait! ts) v = any_below (λ k. eqb (get_or ts k no_term).variable v) (length ts)
named_by (set! t e) v = false
named_by (later! t e) v = false
named_by (go g) v = false
named_by (ifnot e g) v = false

unfoldable pub names : List (Instr Expr) → ℕ → Bool
names is v = any_below (λ p. named_by (get_or is p (go 0)) v) (length is)

-- ---- Holds: the plan of a module

pub record Holds (m : Module Expr) (q : Plan) : Type 0 where
  pub inputs : q.inputs ≡ m.scope.inputs
  pub registers : q.registers ≡ m.scope.registers
  pub wires : q.wires ≡ length m.wires
  pub threads : q.threads ≡ length m.threads
  pub width : (v : ℕ) → v < length m.scope.widths → q.width v ≡ get_or m.scope.widths v 0
  pub size : (i : ℕ) → i < length m.threads → q.size i ≡ length (thread_code (get_or m.threads i empty))
  pub no_size : (i : ℕ) → length m.threads ≤ i → q.size i ≡ 0
  pub wire : (k : ℕ) → k < length m.wires
      → Lies q.node (length m.scope.widths) 4176 (get_or m.wires k (unknown 1)) (q.wire k)
  pub instruction : (i p : ℕ) → i < length m.threads → p < length (thread_code (get_or m.threads i empty))
      → Planned q.node (length m.scope.widths) 4176 (get_or (thread_code (get_or m.threads i empty)) p (go 0))
      (q.instruction i p) (q.waits i p)
  -- Bit k of v's readers: does wire k read v?
  pub read_by : (v k : ℕ) → v < 80 → k < length m.wires → get_or (q.readers v) k false ≡ reads (get_or m.wires k (unknown 1)) v
  pub read-by-none : (v k : ℕ) → v < 80 → length m.wires ≤ k → get_or (q.readers v) k false ≡ false
  -- Bit i of v's watchers: does some wait of thread i name v?
  pub watched-by : (v i : ℕ) → v < 80 → i < length m.threads
      → get_or (q.watchers v) i false ≡ names (thread_code (get_or m.threads i empty)) v
  pub watched-by-none : (v i : ℕ) → v < 80 → length m.threads ≤ i → get_or (q.watchers v) i false ≡ false
