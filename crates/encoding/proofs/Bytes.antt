-- The encoding of a well-formed module consists of bytes.
-- Assumes nothing.
use mathlib.Core.Path.{◌≡◌, subst}
use Prim.Native.Nat.{ℕ, zero, suc, ◌+◌, ◌/◌, ◌%◌, ◌≤◌, ◌<◌}
use native.Mathlib.Omega.{arith}
use mathlib.Core.List.{List, [], ◌∷◌, ◌++◌}
use lib.ListN.{length, length-append}
use mathlib.Core.Bool.{Bool, true, false}
use lib.Dec.{ltb}
use lib.Pow.{are_bytes}
use borrow.Author.Tests.{ltb-true}
use Rattle.values.specs.Values.{pick}
use Rattle.values.specs.Edges.{edge_number}
use Rattle.sheet.specs.declared.EdgeTerm.{EdgeTerm}
use Rattle.sheet.specs.Expression.{Expr, variable, constant, unknown, unary, binary, conditional, call, Arguments, no_more, argument, Body, nothing, result, in_turn, if_then as only_if, if_else as either_if, Function, Scope}
use Rattle.sheet.specs.Statement.{Stmt, empty, assign, later, sequence, if_then, if_else, while, forever, wait}
use Rattle.sheet.specs.Functions.{body_scope}
use Rattle.sheet.specs.Module.{Module}
use Rattle.encoding.specs.Encoding.{Bytes, encode_word, encode_expr, encode_all, encode_terms, encode_stmt, encode_wires, encode_threads, encode}
use Rattle.encoding.specs.WellFormed.{WellTyped, AllTyped, IsCondition, IsTarget, IsAssignment, PairsFit, WellBuilt, AreWidths, WiresFit, ThreadsFit, WellFormed}
use Rattle.encoding.specs.Whole.{encode_body, widths_of, encode_function, encode_functions, first_byte, count_bytes, encode_whole, BodyFits, scope_of, FunctionFits, FunctionsFit, WholeFormed}
use Rattle.encoding.proofs.Plain.{plain-encode, formed-whole}
use Rattle.encoding.proofs.Statements.{and_both, edge_number-le}

-- ---- lists of bytes, one by one

pub data AllBytes : List ℕ → Type 0 where
  none : AllBytes []
  byte : (x : ℕ) {l : List ℕ} → x < 256 → AllBytes l → AllBytes (x ∷ l)

pub bytes-append : {a b : List ℕ} → AllBytes a → AllBytes b → AllBytes (a ++ b)
bytes-append none k = k
bytes-append (byte x h r) k = byte x h (bytes-append r k)

pub all-bytes : {l : List ℕ} → AllBytes l → Bytes l
unfolding Bytes
all-bytes none i = omega arith
all-bytes (byte x h r) zero = h
all-bytes (byte x h r) (suc i) = all-bytes r i

-- The test decides it of a given list.
pub test-bytes : (l : List ℕ) → are_bytes l ≡ true → AllBytes l
test-bytes [] h = none
test-bytes (x ∷ l) h = let y = and_both (ltb x 256) (are_bytes l) h in byte x (ltb-true x 256 y.0) (test-bytes l y.1)

-- ---- four bytes

pub word_bytes : (n : ℕ) → AllBytes (encode_word n)
unfolding encode_word
word_bytes n =
    byte (n % 256) (omega arith)
    (byte (n / 256 % 256) (omega arith)
    (byte (n / 65536 % 256) (omega arith)
    (byte (n / 16777216 % 256) (omega arith) none)))

-- ---- expressions and waits, over so few variables and functions that a byte names each

module _ (c : Scope) (few : length c.widths ≤ 256) (called : c.declared ≤ 256) where
  args-bytes : (d : ℕ) → ((e : Expr) (w : ℕ) → WellTyped c d e w → AllBytes (encode_expr e)) → (ws : List ℕ) (ys : Arguments) → AllTyped (WellTyped c d) ws ys
      → AllBytes (encode_all ys)
  unfolding AllTyped encode_all
  args-bytes d inner [] no_more t = none
  args-bytes d inner [] (argument e ys) t = absurd t
  args-bytes d inner (w ∷ ws) no_more t = absurd t
  args-bytes d inner (w ∷ ws) (argument e ys) t = bytes-append (inner e w t.0) (args-bytes d inner ws ys t.1)

  pub expr-bytes : (d : ℕ) (e : Expr) (w : ℕ) → WellTyped c d e w → AllBytes (encode_expr e)
  unfolding WellTyped encode_expr
  expr-bytes zero e w t = absurd t
  expr-bytes (suc d) (variable v) w t = let h = t.0 in byte 0x02 (omega arith) (byte v (omega arith) none)
  expr-bytes (suc d) (constant k v) w t = let h = t.0 in byte 0x0C (omega arith) (byte k (omega arith) (word_bytes v))
  expr-bytes (suc d) (unknown k) w t = let h = t.0 in byte 0x04 (omega arith) (byte k (omega arith) none)
  expr-bytes (suc d) (unary o k a) w t =
      let h = t.0 in
      byte 0x11 (omega arith) (byte o (omega arith) (expr-bytes d a k t.1))
  expr-bytes (suc d) (binary o k a b) w t =
      let h = t.0 in
      byte 0x31 (omega arith) (byte o (omega arith) (bytes-append (expr-bytes d a k t.1) (expr-bytes d b k t.2)))
  expr-bytes (suc d) (conditional q a b) w t =
      byte 0x71 (omega arith)
      (byte 10 (omega arith)
      (bytes-append
      (bytes-append (expr-bytes d q t.0.0 t.0.1) (expr-bytes d a w t.1))
      (expr-bytes d b w t.2)))
  expr-bytes (suc d) (call n k ys b) w t =
      let h = t.0 in
      byte 0x80 (omega arith) (byte n (omega arith) (args-bytes d (λ e v x. expr-bytes d e v x) _ ys t.4))

  pub terms-bytes : (ts : List EdgeTerm) → PairsFit c.widths ts → AllBytes (encode_terms ts)
  unfolding PairsFit encode_terms
  terms-bytes [] t = none
  terms-bytes (x ∷ ts) t =
      let h = t.0 in
      let k = edge_number-le x.edge in
      byte (edge_number x.edge) (omega arith) (byte x.variable (omega arith) (terms-bytes ts t.2))

  pub wires-bytes : (v : ℕ) (es : List Expr) → WiresFit c v es → AllBytes (encode_wires es)
  unfolding WiresFit encode_wires
  wires-bytes v [] t = none
  wires-bytes v (e ∷ es) t = bytes-append (expr-bytes _ e _ t.0) (wires-bytes (v + 1) es t.1)

-- ---- statements

module _ (c : Scope) (few : length c.widths ≤ 256) (called : c.declared ≤ 256) (registers : c.inputs + c.registers ≤ 256) where
  condition-bytes : (e : Expr) → IsCondition c e → AllBytes (encode_expr e)
  condition-bytes e t = expr-bytes c few called _ e t.0 t.1

  pub stmt-bytes : (d : ℕ) (b : Stmt Expr) → WellBuilt c d b → AllBytes (encode_stmt b)
  unfolding WellBuilt IsAssignment IsTarget encode_stmt
  stmt-bytes zero b t = absurd t
  stmt-bytes (suc d) empty t = byte 0x00 (omega arith) none
  stmt-bytes (suc d) (assign v e) t =
      let h = t.0.1 in
      byte 0x03 (omega arith) (byte v (omega arith) (condition-bytes e (_, t.1)))
  stmt-bytes (suc d) (later v e) t =
      let h = t.0.1 in
      byte 0x23 (omega arith) (byte v (omega arith) (condition-bytes e (_, t.1)))
  stmt-bytes (suc d) (sequence a b) t = byte 0x0C (omega arith) (bytes-append (stmt-bytes d a t.0) (stmt-bytes d b t.1))
  stmt-bytes (suc d) (if_then e a) t = byte 0x06 (omega arith) (bytes-append (condition-bytes e t.0) (stmt-bytes d a t.1))
  stmt-bytes (suc d) (if_else e a b) t =
      byte 0x0E (omega arith) (bytes-append (bytes-append (condition-bytes e t.0) (stmt-bytes d a t.1)) (stmt-bytes d b t.2))
  stmt-bytes (suc d) (while e a) t = byte 0x46 (omega arith) (bytes-append (condition-bytes e t.0) (stmt-bytes d a t.1))
  stmt-bytes (suc d) (forever a) t = byte 0x44 (omega arith) (stmt-bytes d a t)
  stmt-bytes (suc d) (wait ts) t =
      let h = t.0.1 in
      byte 0x10 (omega arith) (byte (length ts) (omega arith) (terms-bytes c few called ts t.1))

  pub threads-bytes : (bs : List (Stmt Expr)) → ThreadsFit c bs → AllBytes (encode_threads bs)
  unfolding ThreadsFit encode_threads
  threads-bytes [] t = none
  threads-bytes (b ∷ bs) t = bytes-append (stmt-bytes _ b t.0) (threads-bytes bs t.2)

-- ---- widths

pub widths-bytes : (ws : List ℕ) → AreWidths ws → AllBytes ws
unfolding AreWidths
widths-bytes [] t = none
widths-bytes (w ∷ ws) t = let h = t.0 in byte w (omega arith) (widths-bytes ws t.1)

-- ---- functions

module _ (c : Scope) (few : length c.widths ≤ 256) (called : c.declared ≤ 256) (k : ℕ) (small : k < 256) where
  body_bytes : (d : ℕ) (b : Body) → BodyFits c d b → AllBytes (encode_body k b)
  unfolding BodyFits encode_body
  body_bytes zero b t = absurd t
  body_bytes (suc d) nothing t = byte 0x00 (omega arith) none
  body_bytes (suc d) (result e) t = byte 0x03 (omega arith) (byte k small (expr-bytes c few called _ e _ t))
  body_bytes (suc d) (in_turn a b) t = byte 0x0C (omega arith) (bytes-append (body_bytes d a t.0) (body_bytes d b t.1))
  body_bytes (suc d) (only_if e a) t =
      byte 0x06 (omega arith) (bytes-append (expr-bytes c few called _ e _ t.0.1) (body_bytes d a t.1))
  body_bytes (suc d) (either_if e a b) t =
      byte 0x0E (omega arith)
      (bytes-append (bytes-append (expr-bytes c few called _ e _ t.0.1) (body_bytes d a t.1)) (body_bytes d b t.2))

function-bytes : (declared : ℕ) (earlier : List Function) (f : Function) → declared ≤ 8 → FunctionFits declared earlier f → AllBytes (encode_function f)
unfolding FunctionFits encode_function body_scope
function-bytes declared earlier f h t =
    let k = t.0.1 in
    let many = length-append f.parameters (f.result ∷ []) in
    byte (length f.parameters) (omega arith)
    (bytes-append (widths-bytes (widths_of f) t.1)
    (body_bytes (scope_of declared earlier f) (omega arith) (omega arith) (length f.parameters) (omega arith) 64 f.body t.2))

functions-bytes : (declared : ℕ) (earlier fs : List Function) → declared ≤ 8 → FunctionsFit declared earlier fs → AllBytes (encode_functions fs)
unfolding FunctionsFit encode_functions
functions-bytes declared earlier [] h t = none
functions-bytes declared earlier (f ∷ fs) h t =
    bytes-append (function-bytes declared earlier f h t.0) (functions-bytes declared (earlier ++ (f ∷ [])) fs h t.1)

-- ---- the sheet

first-byte : (i n : ℕ) → i ≤ 16 → first_byte i n < 256
unfolding first_byte
first-byte i n h = by (ltb 0 n)
  where
    by : (t : Bool) → pick t (i + 128) i < 256
    by true = omega arith
    by false = omega arith

count-bytes : (n : ℕ) → n ≤ 8 → AllBytes (count_bytes n)
unfolding count_bytes
count-bytes n h = by (ltb 0 n)
  where
    by : (t : Bool) → AllBytes (pick t (n ∷ []) [])
    by true = byte n (omega arith) none
    by false = none

pub whole-bytes : (m : Module Expr) → WholeFormed m → AllBytes (encode_whole m)
unfolding encode_whole
whole-bytes m f =
    let i = f.inputs in
    let r = f.registers in
    let w = f.wires in
    let t = f.threads in
    let n = f.variables in
    let d = f.functions in
    let few : length m.scope.widths ≤ 256 = omega arith in
    let called : m.scope.declared ≤ 256 = omega arith in
    byte (first_byte m.scope.inputs m.scope.declared) (first-byte _ _ i.1)
    (byte m.scope.registers (omega arith)
    (byte (length m.wires) (omega arith)
    (byte (length m.threads) (omega arith)
    (bytes-append
    (bytes-append
    (bytes-append
    (bytes-append (count-bytes m.scope.declared d) (widths-bytes m.scope.widths f.widths))
    (functions-bytes m.scope.declared [] m.scope.functions d f.functioned))
    (wires-bytes m.scope few called _ m.wires f.wired))
    (threads-bytes m.scope few called (omega arith) m.threads f.threaded)))))

pub sheet-bytes : (m : Module Expr) → WellFormed m → AllBytes (encode m)
sheet-bytes m f = subst AllBytes (plain-encode m f.plain) (whole-bytes m (formed-whole m f))
