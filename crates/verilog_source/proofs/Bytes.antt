-- The sheet of every derivation consists of bytes.
-- Assumes nothing.
use mathlib.Core.Path.{◌≡◌, refl}
use mathlib.Core.Bool.{Bool, true, false}
use mathlib.Core.List.{List, [], ◌∷◌, ◌++◌}
use mathlib.Core.Option.{Option, none as nothing, some as just}
use Prim.Native.Nat.{ℕ, ◌<◌}
use native.Mathlib.Omega.{arith}
use lib.Dec.{leb}
use lib.ListN.{length}
use borrow.Author.Tests.{leb-true}
use Rattle.values.specs.Values.{pick}
use Rattle.values.specs.Edges.{edge_number}
use Rattle.values.specs.declared.Edge.{Edge}
use Rattle.values.specs.declared.Edge.TheVariants.{Change, Posedge, Negedge}
use Rattle.sheet.specs.declared.EdgeTerm.{EdgeTerm}
use Rattle.sheet.specs.Expression.{Expr, unknown}
use Rattle.sheet.specs.Statement.{Stmt, empty, assign as assigns, later, sequence, if_then, if_else, while, forever, wait}
use Rattle.encoding.specs.Encoding.{encode_expr, encode_terms}
use Rattle.encoding.proofs.Bytes.{AllBytes, none, byte, bytes-append, word_bytes}
use Rattle.encoding.proofs.Statements.{edge_number-le}
use Rattle.naming.specs.Naming.{same_text}
use Rattle.verilog_tokens.specs.Tokens.{Name}
use Rattle.verilog_grammar.specs.AnnexA.{Unary, negation, complement, Binary, plus, minus, equals, less, conjunction, disjunction, exclusive, Number, sized, sized_x, Expression, Primary, only, prefixed, joined, chosen, identified, numbered, bracketed, Event, changes, rises, falls, or_else, comma, Control, bare, among}
use Rattle.verilog_grammar.specs.AnnexA.{Statement, blocking, nonblocking, selects, whether, either, chain, endless, repeats, after, block, OrNull, some, null, Chain, last, last_else, leg, Statements, none as no_statements, more, CaseItem, labelled, default, default_colon, CaseItems, last_item, item}
use Rattle.verilog_grammar.specs.AnnexA.{Listed, one, also, NetAssignment, Item, input, reg, wire, assign, always, ModuleDeclaration}
use Rattle.verilog_grammar.specs.Meaning.{up_to, cut, number_expr, unary_number, binary_number, nested, block_of, Arm, on, otherwise, fallback, test, tests, or_empty, case_of, an_input, a_register, a_wire, Driven, Part, list_of, expr_of, primary_of, term_of, terms_of, control_of, stmt_of, or_null_of, chain_of, stmts_of, arm_of, arms_of, driven_of, part_of, parts_of, meaning}
use Rattle.verilog_source.specs.Names.{Variable, variables, in_order, driven, threads, number_of}
use Rattle.verilog_source.specs.Written.{written_stmt, written_threads, written_widths, value_for, written_wires, written}
use Rattle.verilog_source.specs.Claims.{declared_by, sheet_by}

up_to-byte : (most n : ℕ) → most < 256 → up_to most n < 256
unfolding up_to
up_to-byte most n h = by (leb n most) refl
  where
    by : (t : Bool) → leb n most ≡ t → pick t n 255 < 256
    by true q = let z = leb-true n most q in omega arith
    by false q = omega arith

number-byte : (ps : List Part) (s : List ℕ) → number_of ps s < 256
unfolding number_of
number-byte ps s = up_to-byte 255 _ (omega arith)

-- ---- expressions

unary-byte : (u : Unary) → unary_number u < 256
unfolding unary_number
unary-byte negation = omega arith
unary-byte complement = omega arith

binary-byte : (o : Binary) → binary_number o < 256
unfolding binary_number
binary-byte plus = omega arith
binary-byte minus = omega arith
binary-byte equals = omega arith
binary-byte less = omega arith
binary-byte conjunction = omega arith
binary-byte disjunction = omega arith
binary-byte exclusive = omega arith

Fine : Expr → Type 0
Fine e = AllBytes (encode_expr e)

number-fine : (n : Number) → Fine (number_expr n)
unfolding Fine number_expr encode_expr
number-fine (sized w v) = byte 0x0C (omega arith) (byte (up_to 32 w) (up_to-byte 32 w (omega arith)) (word_bytes (cut w v)))
number-fine (sized_x w) = byte 0x04 (omega arith) (byte (up_to 32 w) (up_to-byte 32 w (omega arith)) none)

-- ---- statements

FineStmt : Stmt Expr → Type 0
FineStmt s = AllBytes (written_stmt s)

data FineAll : List (Stmt Expr) → Type 0 where
  no_more : FineAll []
  one_more : {s : Stmt Expr} {ss : List (Stmt Expr)} → FineStmt s → FineAll ss → FineAll (s ∷ ss)

pair : (e : Expr) (a : Stmt Expr) → Fine e → FineStmt a → AllBytes (encode_expr e ++ written_stmt a)
unfolding Fine FineStmt
pair e a h k = bytes-append h k

if-fine : (e : Expr) (a : Stmt Expr) → Fine e → FineStmt a → FineStmt (if_then e a)
unfolding FineStmt written_stmt
if-fine e a h k = byte 0x06 (omega arith) (pair e a h k)

else-fine : (e : Expr) (a b : Stmt Expr) → Fine e → FineStmt a → FineStmt b → FineStmt (if_else e a b)
unfolding FineStmt written_stmt
else-fine e a b h k l = byte 0x0E (omega arith) (bytes-append (pair e a h k) l)

sequence-fine : (a b : Stmt Expr) → FineStmt a → FineStmt b → FineStmt (sequence a b)
unfolding FineStmt written_stmt
sequence-fine a b h k = byte 0x0C (omega arith) (bytes-append h k)

empty-fine : FineStmt empty
unfolding FineStmt written_stmt
empty-fine = byte 0x00 (omega arith) none

nested-fine : (a : Stmt Expr) (ss : List (Stmt Expr)) → FineStmt a → FineAll ss → FineStmt (nested a ss)
unfolding nested
nested-fine a [] h k = h
nested-fine a (s ∷ ss) h (one_more l m) = sequence-fine a (nested s ss) h (nested-fine s ss l m)

block-fine : (ss : List (Stmt Expr)) → FineAll ss → FineStmt (block_of ss)
unfolding block_of
block-fine [] k = empty-fine
block-fine (s ∷ ss) (one_more h k) = nested-fine s ss h k

-- ---- case

data FineArms : List Arm → Type 0 where
  no_arm : FineArms []
  on-arm : {l : Expr} {s : Stmt Expr} {is : List Arm} → Fine l → FineStmt s → FineArms is → FineArms (on l s ∷ is)
  other_arm : {s : Stmt Expr} {is : List Arm} → FineStmt s → FineArms is → FineArms (otherwise s ∷ is)

unfoldable FineOption : Option (Stmt Expr) → Type 0
FineOption nothing = Unit {0}
FineOption (just s) = FineStmt s

fallback-fine : (is : List Arm) → FineArms is → FineOption (fallback is)
unfolding fallback FineOption
fallback-fine [] k = tt
fallback-fine (on l s ∷ is) (on-arm h m k) = fallback-fine is k
fallback-fine (otherwise s ∷ is) (other_arm h k) = h

equals-fine : (e l : Expr) → Fine e → Fine l → Fine (Rattle.sheet.specs.Expression.binary 8 0 e l)
unfolding Fine encode_expr
equals-fine e l h k = byte 0x31 (omega arith) (byte 8 (omega arith) (bytes-append h k))

test-fine : (e l : Expr) (s : Stmt Expr) (o : Option (Stmt Expr)) → Fine e → Fine l → FineStmt s → FineOption o → FineStmt (test e l s o)
unfolding test FineOption
test-fine e l s nothing h k m q = if-fine _ s (equals-fine e l h k) m
test-fine e l s (just t) h k m q = else-fine _ s t (equals-fine e l h k) m q

tests-fine : (e : Expr) (is : List Arm) (o : Option (Stmt Expr)) → Fine e → FineArms is → FineOption o → FineOption (tests e is o)
unfolding tests FineOption
tests-fine e [] o h k q = q
tests-fine e (on l s ∷ is) o h (on-arm m n k) q = test-fine e l s (tests e is o) h m n (tests-fine e is o h k q)
tests-fine e (otherwise s ∷ is) o h (other_arm m k) q = tests-fine e is o h k q

or-empty-fine : (o : Option (Stmt Expr)) → FineOption o → FineStmt (or_empty o)
unfolding or_empty FineOption
or-empty-fine nothing q = empty-fine
or-empty-fine (just s) q = q

case-fine : (e : Expr) (is : List Arm) → Fine e → FineArms is → FineStmt (case_of e is)
unfolding case_of
case-fine e is h k = or-empty-fine (tests e is (fallback is)) (tests-fine e is (fallback is) h k (fallback-fine is k))

module _ (index : List ℕ → ℕ) (small : (s : List ℕ) → index s < 256) where
  mutual
    unfolding Fine encode_expr expr_of primary_of

    expr-fine : (e : Expression) → Fine (expr_of index e)
    expr-fine (only p) = primary-fine p
    expr-fine (prefixed u p) = byte 0x11 (omega arith) (byte (unary_number u) (unary-byte u) (primary-fine p))
    expr-fine (joined a o b) =
        byte 0x31 (omega arith) (byte (binary_number o) (binary-byte o) (bytes-append (expr-fine a) (expr-fine b)))
    expr-fine (chosen c a b) =
        byte 0x71 (omega arith) (byte 10 (omega arith) (bytes-append (bytes-append (expr-fine c) (expr-fine a)) (expr-fine b)))

    primary-fine : (p : Primary) → Fine (primary_of index p)
    primary-fine (identified n) = byte 0x02 (omega arith) (byte (index n.spelled) (small n.spelled) none)
    primary-fine (numbered n) = number-fine n
    primary-fine (bracketed e) = expr-fine e

  term-fine : (e : Edge) (n : Name) (ts : List EdgeTerm) → AllBytes (encode_terms ts) → AllBytes (encode_terms (term_of index e n ∷ ts))
  unfolding encode_terms term_of
  term-fine e n ts h = let z = edge_number-le e in byte (edge_number e) (omega arith) (byte (index n.spelled) (small n.spelled) h)

  none-fine : AllBytes (encode_terms [])
  unfolding encode_terms
  none-fine = none

  both-fine : (xs ys : List EdgeTerm) → AllBytes (encode_terms xs) → AllBytes (encode_terms ys) → AllBytes (encode_terms (xs ++ ys))
  unfolding encode_terms
  both-fine [] ys h k = k
  both-fine (x ∷ xs) ys (byte a p (byte b q r)) k = byte a p (byte b q (both-fine xs ys r k))

  terms-fine : (e : Event) → AllBytes (encode_terms (terms_of index e))
  unfolding terms_of
  terms-fine (changes n) = term-fine Change n [] none-fine
  terms-fine (rises n) = term-fine Posedge n [] none-fine
  terms-fine (falls n) = term-fine Negedge n [] none-fine
  terms-fine (or_else a b) = both-fine (terms_of index a) (terms_of index b) (terms-fine a) (terms-fine b)
  terms-fine (comma a b) = both-fine (terms_of index a) (terms_of index b) (terms-fine a) (terms-fine b)

  control-fine : (c : Control) → FineStmt (wait (control_of index c))
  unfolding FineStmt written_stmt control_of
  control-fine (bare n) = byte 0x10 (omega arith) (byte _ (up_to-byte 8 _ (omega arith)) (term-fine Change n [] none-fine))
  control-fine (among e) = byte 0x10 (omega arith) (byte _ (up_to-byte 8 _ (omega arith)) (terms-fine e))

  to-fine : (n : Name) (e : Expression) → FineStmt (assigns (index n.spelled) (expr_of index e))
  unfolding FineStmt written_stmt Fine
  to-fine n e = byte 0x03 (omega arith) (byte (index n.spelled) (small n.spelled) (expr-fine e))

  later-fine : (n : Name) (e : Expression) → FineStmt (later (index n.spelled) (expr_of index e))
  unfolding FineStmt written_stmt Fine
  later-fine n e = byte 0x23 (omega arith) (byte (index n.spelled) (small n.spelled) (expr-fine e))

  while-fine : (e : Expression) (a : Stmt Expr) → FineStmt a → FineStmt (while (expr_of index e) a)
  unfolding FineStmt written_stmt
  while-fine e a h = byte 0x46 (omega arith) (pair (expr_of index e) a (expr-fine e) h)

  forever-fine : (a : Stmt Expr) → FineStmt a → FineStmt (forever a)
  unfolding FineStmt written_stmt
  forever-fine a h = byte 0x44 (omega arith) h

  mutual
    unfolding stmt_of or_null_of chain_of stmts_of arm_of arms_of

    stmt-fine : (a : Statement) → FineStmt (stmt_of index a)
    stmt-fine (blocking n e) = to-fine n e
    stmt-fine (nonblocking n e) = later-fine n e
    stmt-fine (selects e xs) = case-fine (expr_of index e) (arms_of index xs) (expr-fine e) (arms-fine xs)
    stmt-fine (whether e a) = if-fine (expr_of index e) (or_null_of index a) (expr-fine e) (or_null-fine a)
    stmt-fine (either e a b) =
        else-fine (expr_of index e) (or_null_of index a) (or_null_of index b) (expr-fine e) (or_null-fine a) (or_null-fine b)
    stmt-fine (chain c) = chain-fine c
    stmt-fine (endless a) = forever-fine (stmt_of index a) (stmt-fine a)
    stmt-fine (repeats e a) = while-fine e (stmt_of index a) (stmt-fine a)
    stmt-fine (after c a) = sequence-fine (wait (control_of index c)) (or_null_of index a) (control-fine c) (or_null-fine a)
    stmt-fine (block xs) = block-fine (stmts_of index xs) (stmts-fine xs)

    or_null-fine : (a : OrNull) → FineStmt (or_null_of index a)
    or_null-fine (some a) = stmt-fine a
    or_null-fine null = empty-fine

    chain-fine : (c : Chain) → FineStmt (chain_of index c)
    chain-fine (last e a) = if-fine (expr_of index e) (or_null_of index a) (expr-fine e) (or_null-fine a)
    chain-fine (last_else e a b) =
        else-fine (expr_of index e) (or_null_of index a) (or_null_of index b) (expr-fine e) (or_null-fine a) (or_null-fine b)
    chain-fine (leg e a c) = else-fine (expr_of index e) (or_null_of index a) (chain_of index c) (expr-fine e) (or_null-fine a) (chain-fine c)

    stmts-fine : (xs : Statements) → FineAll (stmts_of index xs)
    stmts-fine no_statements = no_more
    stmts-fine (more a xs) = one_more (stmt-fine a) (stmts-fine xs)

    arm-fine : (i : CaseItem) (is : List Arm) → FineArms is → FineArms (arm_of index i ∷ is)
    arm-fine (labelled w v a) is k = on-arm (number-fine (sized w v)) (or_null-fine a) k
    arm-fine (default a) is k = other_arm (or_null-fine a) k
    arm-fine (default_colon a) is k = other_arm (or_null-fine a) k

    arms-fine : (xs : CaseItems) → FineArms (arms_of index xs)
    arms-fine (last_item i) = arm-fine i [] no_arm
    arms-fine (item i xs) = arm-fine i (arms_of index xs) (arms-fine xs)

  -- ---- a module's parts

  data FineDriven : List Driven → Type 0 where
    undriven : FineDriven []
    driving : {d : Driven} {ds : List Driven} → Fine d.value → FineDriven ds → FineDriven (d ∷ ds)

  drivens-append : {xs ys : List Driven} → FineDriven xs → FineDriven ys → FineDriven (xs ++ ys)
  drivens-append undriven k = k
  drivens-append (driving h r) k = driving h (drivens-append r k)

  nets-fine : (xs : Listed NetAssignment) → FineDriven (list_of (driven_of index) xs)
  unfolding list_of driven_of
  nets-fine (one a) = driving (expr-fine a.value) undriven
  nets-fine (also a xs) = driving (expr-fine a.value) (nets-fine xs)

  driven-fine : (is : List Item) → FineDriven (driven (parts_of index is))
  unfolding driven parts_of part_of
  driven-fine [] = undriven
  driven-fine (input r ns ∷ is) = driven-fine is
  driven-fine (reg r ns ∷ is) = driven-fine is
  driven-fine (wire r ns ∷ is) = driven-fine is
  driven-fine (assign xs ∷ is) = drivens-append (nets-fine xs) (driven-fine is)
  driven-fine (always a ∷ is) = driven-fine is

  threads-fine : (is : List Item) → FineAll (threads (parts_of index is))
  unfolding threads parts_of part_of
  threads-fine [] = no_more
  threads-fine (input r ns ∷ is) = threads-fine is
  threads-fine (reg r ns ∷ is) = threads-fine is
  threads-fine (wire r ns ∷ is) = threads-fine is
  threads-fine (assign xs ∷ is) = threads-fine is
  threads-fine (always a ∷ is) = one_more (stmt-fine a) (threads-fine is)

  -- ---- the sheet

  widths-bytes : (vs : List Variable) → AllBytes (written_widths vs)
  unfolding written_widths
  widths-bytes [] = none
  widths-bytes (v ∷ vs) = byte (up_to 32 v.width) (up_to-byte 32 v.width (omega arith)) (widths-bytes vs)

  unknown-fine : Fine (unknown 0)
  unfolding Fine encode_expr
  unknown-fine = byte 0x04 (omega arith) (byte 0 (omega arith) none)

  value-fine : (ds : List Driven) (s : List ℕ) → FineDriven ds → Fine (value_for ds s)
  unfolding value_for
  value-fine [] s k = unknown-fine
  value-fine (d ∷ ds) s (driving h k) = by (same_text d.target.spelled s) (value-fine ds s k)
    where
      by : (t : Bool) → Fine (value_for ds s) → Fine (pick t d.value (value_for ds s))
      by true r = h
      by false r = r

  wires-bytes : (ds : List Driven) (vs : List Variable) → FineDriven ds → AllBytes (written_wires ds vs)
  unfolding written_wires Fine
  wires-bytes ds [] k = none
  wires-bytes ds (v ∷ vs) k = bytes-append (value-fine ds v.named.spelled k) (wires-bytes ds vs k)

  threads-bytes : (ss : List (Stmt Expr)) → FineAll ss → AllBytes (written_threads ss)
  unfolding written_threads FineStmt
  threads-bytes [] k = none
  threads-bytes (s ∷ ss) (one_more h k) = bytes-append h (threads-bytes ss k)

  written-bytes : (is : List Item) → AllBytes (written (parts_of index is))
  unfolding written
  written-bytes is =
      let ps = parts_of index is in
      byte (up_to 16 (length (variables an_input ps))) (up_to-byte 16 _ (omega arith))
      (byte (up_to 32 (length (variables a_register ps))) (up_to-byte 32 _ (omega arith))
      (byte (up_to 32 (length (variables a_wire ps))) (up_to-byte 32 _ (omega arith))
      (byte (up_to 8 (length (threads ps))) (up_to-byte 8 _ (omega arith))
      (bytes-append
      (bytes-append (widths-bytes (in_order ps)) (wires-bytes (driven ps) (variables a_wire ps) (driven-fine is)))
      (threads-bytes (threads ps) (threads-fine is))))))

pub sheet-bytes : (m : ModuleDeclaration) → AllBytes (sheet_by m)
unfolding sheet_by meaning
sheet-bytes m = written-bytes (number_of (declared_by m)) (number-byte (declared_by m)) m.items
