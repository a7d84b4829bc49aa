-- What the tables of an accepted sheet hold. proofs/Holding shows it of the tables that the code fills.
use Rattle.std.specs.Prelude.{ℕ, ◌<◌, ◌≤◌, ◌≡◌, Bool, true, false, List, length, get_or}
use Rattle.values.specs.declared.Value.{Value}
use Rattle.sheet.specs.declared.EdgeTerm.{EdgeTerm}
use Rattle.sheet.specs.Expression.{Expr, unknown}
use Rattle.sheet.specs.Statement.{empty}
use Rattle.sheet.specs.Module.{Module}
use Rattle.evaluation.specs.Evaluation.{eval, reads}
use Rattle.evaluation.specs.Bytes.{eval_at}
use Rattle.pseudocode.specs.Translation.{Instr, wait!, set!, later!, go, ifnot, thread_code}
use Rattle.pseudocode.specs.Instruction.{terms_of}
use Rattle.pseudocode.specs.declared.Action.TheVariants.{Set, Later, Go, IfNot}
use Rattle.pseudocode.specs.declared.Instruction.{Instruction}
use Rattle.pseudocode.specs.declared.Instruction.TheVariants.{Wait, Act}
use Rattle.pseudocode.specs.Fetching.{fetch_at}
use Rattle.masks.specs.Masks.{bits}

-- The expression e stands at a place of the sheet: what is worked out there is its value, whatever the variables hold.
abbrev pub Stands : List ℕ → List ℕ → Expr → ℕ → Type 0
Stands s ws e at = (f : ℕ → Value) → (eval_at 16 s ws f at).value ≡ eval f e

-- An instruction of the translation, and the one that was fetched for it.
pub data Fetched (s ws : List ℕ) : Instr Expr → Instruction → Type 0 where
  a-wait : {ts : List EdgeTerm} → length ts ≤ 8 → Fetched s ws (wait! ts) (Wait (terms_of ts))
  a-set : {t at : ℕ} {e : Expr} → Stands s ws e at → Fetched s ws (set! t e) (Act (Set t at))
  a-later : {t at : ℕ} {e : Expr} → Stands s ws e at → Fetched s ws (later! t e) (Act (Later t at))
  a-go : {g : ℕ} → Fetched s ws (go g) (Act (Go g))
  an-ifnot : {g at : ℕ} {e : Expr} → Stands s ws e at → Fetched s ws (ifnot e g) (Act (IfNot g at))

pub record Holding (s : List ℕ) (m : Module Expr) (starts sizes code readers : List ℕ) (watched : List Bool) : Type 0 where
  pub wire : (k : ℕ) → k < length m.wires → Stands s m.scope.widths (get_or m.wires k (unknown 1)) (get_or starts k 0)
  pub size : (i : ℕ) → i < length m.threads → get_or sizes i 0 ≡ length (thread_code (get_or m.threads i empty))
  pub fetched : (i p : ℕ) → i < length m.threads → p < length (thread_code (get_or m.threads i empty)) →
      Fetched s m.scope.widths (get_or (thread_code (get_or m.threads i empty)) p (go 0)) (fetch_at s code i p)
  -- Bit k of v's readers: does wire k read v?
  pub read_by : (v k : ℕ) → v < 80 → k < length m.wires →
      get_or (bits (get_or readers v 0)) k false ≡ reads (get_or m.wires k (unknown 1)) v
  pub read-by-none : (v k : ℕ) → length m.wires ≤ k → get_or (bits (get_or readers v 0)) k false ≡ false
  pub named : (i p : ℕ) {ts : List EdgeTerm} (k : ℕ) (other : EdgeTerm) → i < length m.threads →
      get_or (thread_code (get_or m.threads i empty)) p (go 0) ≡ wait! ts → k < length ts →
      get_or watched (get_or ts k other).variable false ≡ true
