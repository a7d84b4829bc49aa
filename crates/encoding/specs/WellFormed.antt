-- What a well-formed module is: document 01's rules for a sheet ("The sheet"), said of the module that it holds.
use Rattle.std.specs.Prelude.{◌≡◌, ℕ, zero, suc, ◌+◌, ◌^◌, ◌≤◌, ◌<◌, List, [], ◌∷◌, length, get_or}
use Rattle.values.specs.Operators.{unary_width, binary_width}
use Rattle.values.specs.declared.Edge.{Edge}
use Rattle.values.specs.declared.Edge.TheVariants.{Change, Posedge, Negedge}
use Rattle.sheet.specs.declared.EdgeTerm.{EdgeTerm}
use Rattle.sheet.specs.Expression.{Expr, variable, constant, unknown, unary, binary, conditional, call, Arguments, no_more, argument, no_function, Scope}
use Rattle.sheet.specs.Statement.{Stmt, empty, assign, later, sequence, if_then, if_else, while, forever, wait, size}
use Rattle.sheet.specs.Module.{Module}
use Rattle.encoding.specs.Encoding.{encode}

-- A number from low to high.
abbrev pub Between : ℕ → ℕ → ℕ → Type 0
Between low high n = (low ≤ n) × (n ≤ high)

-- ---- expressions

-- ys are expressions of these widths, one for each; `Typed` says what an expression of a width is.
unfoldable pub AllTyped : (Expr → ℕ → Type 0) → List ℕ → Arguments → Type 0
AllTyped Typed [] no_more = Unit {0}
AllTyped Typed [] (argument e ys) = ⊥
AllTyped Typed (w ∷ ws) no_more = ⊥
AllTyped Typed (w ∷ ws) (argument e ys) = Typed e w × AllTyped Typed ws ys

-- e is an expression of width w and of depth at most d, over what the scope c names.
unfoldable pub WellTyped : Scope → ℕ → Expr → ℕ → Type 0
WellTyped c zero e w = ⊥
-- It names one of the variables, and has its width.
WellTyped c (suc d) (variable v) w = (v < length c.widths) × (w ≡ get_or c.widths v 0)
-- "A value is a number below 2^width"; widths are 1 to 32.
WellTyped c (suc d) (constant k v) w = Between 1 32 k × (v < 2 ^ k) × (w ≡ k)
WellTyped c (suc d) (unknown k) w = Between 1 32 k × (w ≡ k)
-- "11h with operators 1 ~, 2 !"; the node holds its operand's width; 2 gives width 1.
WellTyped c (suc d) (unary o k a) w = Between 1 2 o × WellTyped c d a k × (w ≡ unary_width o k)
-- "31h with 3 &, 4 |, 5 ^, 6 +, 7 -, 8 ==, 9 < (unsigned)": "Operands of 3 to 9 have equal widths"; 8 and 9 give width 1.
WellTyped c (suc d) (binary o k a b) w = Between 3 9 o × WellTyped c d a k × WellTyped c d b k × (w ≡ binary_width o k)
-- "71h with 10 ?:": equal widths "have the last two of 10"; the condition has any.
WellTyped c (suc d) (conditional q a b) w = ((k : ℕ) × WellTyped c d q k) × WellTyped c d a w × WellTyped c d b w
-- Document 02, [5]: the number is that of a function that may be called here, the node holds its result's width and its body,
-- and each argument has its parameter's width.
WellTyped c (suc d) (call n k ys b) w =
    (n < c.declared) × (n < length c.functions) × (k ≡ (get_or c.functions n no_function).result)
    × (b ≡ (get_or c.functions n no_function).body) × AllTyped (WellTyped c d) (get_or c.functions n no_function).parameters ys × (w ≡ k)

-- "Depth at most 16."
abbrev pub HasWidth : Scope → Expr → ℕ → Type 0
HasWidth c e w = WellTyped c 16 e w

-- A condition has any width.
abbrev pub IsCondition : Scope → Expr → Type 0
IsCondition c e = (w : ℕ) × HasWidth c e w

-- ---- statements

-- A target is a register: the registers follow the inputs.
unfoldable pub IsTarget : Scope → ℕ → Type 0
IsTarget c v = (c.inputs ≤ v) × (v < c.inputs + c.registers)

-- "A target [..] has its expression's width."
unfoldable pub IsAssignment : Scope → ℕ → Expr → Type 0
IsAssignment c t e = IsTarget c t × HasWidth c e (get_or c.widths t 0)

-- "Edges 1 and 2 need a one-bit variable."
unfoldable pub EdgeFits : Edge → ℕ → Type 0
EdgeFits Change w = Unit {0}
EdgeFits Posedge w = w ≡ 1
EdgeFits Negedge w = w ≡ 1

-- The pairs of a wait name variables, each fit for its edge.
unfoldable pub PairsFit : List ℕ → List EdgeTerm → Type 0
PairsFit ws [] = Unit {0}
PairsFit ws (t ∷ ts) = (t.variable < length ws) × EdgeFits t.edge (get_or ws t.variable 0) × PairsFit ws ts

-- b is a statement of depth at most d, over the variables of c.
unfoldable pub WellBuilt : Scope → ℕ → Stmt Expr → Type 0
WellBuilt c zero b = ⊥
WellBuilt c (suc d) empty = Unit {0}
WellBuilt c (suc d) (assign t e) = IsAssignment c t e
WellBuilt c (suc d) (later t e) = IsAssignment c t e
WellBuilt c (suc d) (sequence a b) = WellBuilt c d a × WellBuilt c d b
WellBuilt c (suc d) (if_then e a) = IsCondition c e × WellBuilt c d a
WellBuilt c (suc d) (if_else e a b) = IsCondition c e × WellBuilt c d a × WellBuilt c d b
WellBuilt c (suc d) (while e a) = IsCondition c e × WellBuilt c d a
WellBuilt c (suc d) (forever a) = WellBuilt c d a
-- "a wait, being a count (1 to 8) and so many pairs of edge [..] and variable"
WellBuilt c (suc d) (wait ts) = Between 1 8 (length ts) × PairsFit c.widths ts

-- ---- modules

-- "one width byte for each variable (1 to 32)"
unfoldable pub AreWidths : List ℕ → Type 0
AreWidths [] = Unit {0}
AreWidths (w ∷ ws) = Between 1 32 w × AreWidths ws

-- "A [..] wire has its expression's width." The first of these wires is variable v.
unfoldable pub WiresFit : Scope → ℕ → List Expr → Type 0
WiresFit c v [] = Unit {0}
WiresFit c v (e ∷ es) = HasWidth c e (get_or c.widths v 0) × WiresFit c (v + 1) es

-- "Depth at most 64; the outermost is 1." "A thread is a forever of its statement, at most 256 instructions."
unfoldable pub ThreadsFit : Scope → List (Stmt Expr) → Type 0
ThreadsFit c [] = Unit {0}
ThreadsFit c (b ∷ bs) = WellBuilt c 64 b × (size b + 1 ≤ 256) × ThreadsFit c bs

pub record WellFormed (m : Module Expr) : Type 0 where
  -- "inputs (1 to 16), registers (1 to 32), wires (0 to 32), threads (1 to 8)"
  pub inputs : Between 1 16 m.scope.inputs
  pub registers : Between 1 32 m.scope.registers
  pub wires : length m.wires ≤ 32
  pub threads : Between 1 8 (length m.threads)
  -- No function is declared, and none may be called.
  pub plain : (m.scope.declared ≡ 0) × (m.scope.functions ≡ [])
  -- "Then one width byte for each variable (1 to 32): inputs, registers, wires"
  pub variables : length m.scope.widths ≡ m.scope.inputs + m.scope.registers + length m.wires
  pub widths : AreWidths m.scope.widths
  -- "Input 0 is the clock, width 1."
  pub clock : get_or m.scope.widths 0 0 ≡ 1
  -- "Then an expression for each wire, a statement for each thread"; the wires follow the registers.
  pub wired : WiresFit m.scope (m.scope.inputs + m.scope.registers) m.wires
  pub threaded : ThreadsFit m.scope m.threads
  -- "At most 8,192 bytes."
  pub short : length (encode m) ≤ 8192
