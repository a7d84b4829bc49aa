-- What holds of every module that was read (document 01, "The sheet", "Values and pseudo-code"): numbers within their ranges,
-- values within their widths, places within their threads. proofs/Soundness shows it of each sheet that is accepted.
use Rattle.std.specs.Prelude.{ℕ, ◌+◌, ◌≤◌, ◌<◌, ◌≡◌, true, List, length, get_or}
use Rattle.values.specs.declared.Value.{Value}
use Rattle.values.specs.Values.{fits}
use Rattle.sheet.specs.declared.EdgeTerm.{EdgeTerm}
use Rattle.sheet.specs.Expression.{Expr, unknown, Scope}
use Rattle.sheet.specs.Statement.{empty}
use Rattle.sheet.specs.Module.{Module}
use Rattle.evaluation.specs.Evaluation.{eval, reads}
use Rattle.evaluation.specs.Widths.{Typed}
use Rattle.pseudocode.specs.Translation.{Instr, wait!, set!, later!, go, ifnot, thread_code}

-- ---- expressions of a scope

-- "A value is a number below 2^width or x": values that fit the variables' widths.
abbrev pub Fitting : Scope → (ℕ → Value) → Type 0
Fitting c f = (v : ℕ) → v < length c.widths → fits (get_or c.widths v 0) (f v) ≡ true

-- An expression of width w that reads variables of the scope only, and gives values of that width.
pub record SoundExpr (c : Scope) (w : ℕ) (e : Expr) : Type 0 where
  pub typed : Typed c.widths e w
  pub reads-within : (v : ℕ) → reads e v ≡ true → v < length c.widths
  pub fits_width : (f : ℕ → Value) → Fitting c f → fits w (eval f e) ≡ true

-- ---- instructions at place p of a code of n

-- "A target or wire has its expression's width", and a target is a register.
pub record SoundTarget (c : Scope) (t : ℕ) (e : Expr) : Type 0 where
  pub not-input : c.inputs ≤ t
  pub register : t < c.inputs + c.registers
  pub expression : SoundExpr c (get_or c.widths t 0) e

-- No instruction leads out of its thread, since a thread's last one is a `go`.
pub data SoundInstr (c : Scope) (n p : ℕ) : Instr Expr → Type 0 where
  sound-wait : {ts : List EdgeTerm} → p + 1 < n →
      ((k : ℕ) (other : EdgeTerm) → k < length ts → (get_or ts k other).variable < length c.widths) →
      SoundInstr c n p (wait! ts)
  sound-set : {t : ℕ} {e : Expr} → p + 1 < n → SoundTarget c t e → SoundInstr c n p (set! t e)
  sound-later : {t : ℕ} {e : Expr} → p + 1 < n → SoundTarget c t e → SoundInstr c n p (later! t e)
  sound-go : {g : ℕ} → g < n → SoundInstr c n p (go g)
  sound-ifnot : {e : Expr} {g : ℕ} (w : ℕ) → p + 1 < n → g < n → SoundExpr c w e → SoundInstr c n p (ifnot e g)

-- "A thread is a forever of its statement, at most 256 instructions."
pub record SoundCode (c : Scope) (code : List (Instr Expr)) : Type 0 where
  pub some : 1 ≤ length code
  pub most : length code ≤ 256
  pub instruction : (p : ℕ) → p < length code → SoundInstr c (length code) p (get_or code p (go 0))

-- ---- the module

pub record Sound (m : Module Expr) : Type 0 where
  pub inputs-some : 1 ≤ m.scope.inputs
  pub inputs-most : m.scope.inputs ≤ 16
  pub registers-some : 1 ≤ m.scope.registers
  pub registers-most : m.scope.registers ≤ 32
  pub wires-most : length m.wires ≤ 32
  pub threads-some : 1 ≤ length m.threads
  pub threads-most : length m.threads ≤ 8
  pub variables : length m.scope.widths ≡ m.scope.inputs + m.scope.registers + length m.wires
  pub widths-some : (v : ℕ) → v < length m.scope.widths → 1 ≤ get_or m.scope.widths v 0
  pub widths-most : (v : ℕ) → v < length m.scope.widths → get_or m.scope.widths v 0 ≤ 32
  pub wire : (k : ℕ) → k < length m.wires →
      SoundExpr m.scope (get_or m.scope.widths (m.scope.inputs + m.scope.registers + k) 0) (get_or m.wires k (unknown 1))
  pub code : (i : ℕ) → i < length m.threads → SoundCode m.scope (thread_code (get_or m.threads i empty))
