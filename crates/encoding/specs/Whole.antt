-- The whole of a sheet, with its functions (document 02, [5]): the bytes of a module that has some, and what a well-formed one is.
use Rattle.std.specs.Prelude.{◌≡◌, ℕ, zero, suc, ◌+◌, ◌≤◌, List, [], ◌∷◌, ◌++◌, length, get_or, ltb}
use Rattle.values.specs.Values.{pick}
use Rattle.sheet.specs.Expression.{Expr, Body, nothing, result, in_turn, if_then, if_else, Function, Scope}
use Rattle.sheet.specs.Functions.{body_scope}
use Rattle.sheet.specs.Module.{Module}
use Rattle.encoding.specs.Encoding.{encode_expr, encode_wires, encode_threads}
use Rattle.encoding.specs.WellFormed.{Between, HasWidth, IsCondition, AreWidths, WiresFit, ThreadsFit}

-- ---- the bytes of functions

-- A body's statements have the maps of document 01; "the result, the only target" is the variable behind the k parameters.
unfoldable pub encode_body : ℕ → Body → List ℕ
encode_body k nothing = 0x00 ∷ []
encode_body k (result e) = 0x03 ∷ k ∷ encode_expr e
encode_body k (in_turn a b) = 0x0C ∷ (encode_body k a ++ encode_body k b)
encode_body k (if_then e a) = 0x06 ∷ (encode_expr e ++ encode_body k a)
encode_body k (if_else e a b) = 0x0E ∷ (encode_expr e ++ encode_body k a ++ encode_body k b)

-- The widths of a function's variables: the parameters', then the result's.
abbrev pub widths_of : Function → List ℕ
widths_of f = f.parameters ++ (f.result ∷ [])

-- "Each function gives its parameter count (1 to 4), their widths, its result's width and a body".
unfoldable pub encode_function : Function → List ℕ
encode_function f = length f.parameters ∷ (widths_of f ++ encode_body (length f.parameters) f.body)

unfoldable pub encode_functions : List Function → List ℕ
encode_functions [] = []
encode_functions (f ∷ fs) = encode_function f ++ encode_functions fs

-- ---- the bytes of a module

-- "A sheet whose first byte has 128 added carries a count of functions (1 to 8) after its four counts."
unfoldable pub first_byte : ℕ → ℕ → ℕ
first_byte inputs functions = pick (ltb 0 functions) (inputs + 128) inputs

unfoldable pub count_bytes : ℕ → List ℕ
count_bytes functions = pick (ltb 0 functions) (functions ∷ []) []

-- The functions stand "between the variables' widths and the wires' expressions".
unfoldable pub encode_whole : Module Expr → List ℕ
encode_whole m =
    first_byte m.scope.inputs m.scope.declared ∷ m.scope.registers ∷ length m.wires ∷ length m.threads ∷
    (count_bytes m.scope.declared ++ m.scope.widths ++ encode_functions m.scope.functions ++ encode_wires m.wires
    ++ encode_threads m.threads)

-- ---- well-formed functions

-- b is a body of depth at most d, over what the scope c names.
unfoldable pub BodyFits : Scope → ℕ → Body → Type 0
BodyFits c zero b = ⊥
BodyFits c (suc d) nothing = Unit {0}
-- "A target [..] has its expression's width": the result is the variable behind the parameters.
BodyFits c (suc d) (result e) = HasWidth c e (get_or c.widths c.inputs 0)
BodyFits c (suc d) (in_turn a b) = BodyFits c d a × BodyFits c d b
BodyFits c (suc d) (if_then e a) = IsCondition c e × BodyFits c d a
BodyFits c (suc d) (if_else e a b) = IsCondition c e × BodyFits c d a × BodyFits c d b

-- The scope of a function's body, behind the earlier ones.
abbrev pub scope_of : ℕ → List Function → Function → Scope
scope_of declared earlier f = body_scope declared earlier (length f.parameters) (widths_of f)

-- A function of a sheet that declares so many: one to four parameters, widths from 1 to 32, and a body of depth at most 64.
unfoldable pub FunctionFits : ℕ → List Function → Function → Type 0
FunctionFits declared earlier f = Between 1 4 (length f.parameters) × AreWidths (widths_of f) × BodyFits (scope_of declared earlier f) 64 f.body

-- Each function fits behind the earlier ones.
unfoldable pub FunctionsFit : ℕ → List Function → List Function → Type 0
FunctionsFit declared earlier [] = Unit {0}
FunctionsFit declared earlier (f ∷ fs) = FunctionFits declared earlier f × FunctionsFit declared (earlier ++ (f ∷ [])) fs

-- ---- well-formed modules: as in specs/WellFormed, with functions

pub record WholeFormed (m : Module Expr) : Type 0 where
  pub inputs : Between 1 16 m.scope.inputs
  pub registers : Between 1 32 m.scope.registers
  pub wires : length m.wires ≤ 32
  pub threads : Between 1 8 (length m.threads)
  -- "a count of functions (1 to 8)", or none
  pub functions : m.scope.declared ≤ 8
  pub declared : length m.scope.functions ≡ m.scope.declared
  pub variables : length m.scope.widths ≡ m.scope.inputs + m.scope.registers + length m.wires
  pub widths : AreWidths m.scope.widths
  pub clock : get_or m.scope.widths 0 0 ≡ 1
  pub functioned : FunctionsFit m.scope.declared [] m.scope.functions
  pub wired : WiresFit m.scope (m.scope.inputs + m.scope.registers) m.wires
  pub threaded : ThreadsFit m.scope m.threads
  pub short : length (encode_whole m) ≤ 8192
