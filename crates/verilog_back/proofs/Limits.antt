-- The numbers of what comes back and passes a limit: 1 for its length, 7 for its depth.
-- Assumes nothing.
use mathlib.Core.Path.{◌≡◌, refl, subst, subst⁻¹}
use mathlib.Core.List.{List, [], ◌∷◌, ◌++◌, map}
use Prim.Native.Nat.{ℕ, zero, suc, ◌+◌, ◌≤◌, ◌<◌}
use native.Mathlib.Omega.{arith}
use lib.ListN.{length, get_or, length-map}
use borrow.Author.Tests.{eq-eqb, lt-ltb, le-leb, lt-leb}
use Rattle.sheet.specs.Reading.{Res, ok, no, ◌>>=◌}
use Rattle.sheet.specs.Expression.{Expr, tree, Scope}
use Rattle.sheet.specs.Statement.{Stmt, Body, a_sequence, an_if, an_if_else, a_while, a_forever, form, read_stmt, size}
use Rattle.sheet.specs.Functions.{read_functions}
use Rattle.sheet.specs.Module.{Module, Head, read_threads, whole_sheet, read_sheet, read}
use Rattle.sheet.proofs.Reading.{byte-at}
use Rattle.sheet.proofs.Statements.{ReadsStmt, an-empty, an-assign, a-later, a-sequence, an-if, an-if-else, a-while, a-forever, a-wait, form_map, accept-form, accept-stmt}
use Rattle.encoding.specs.Encoding.{encode_stmt, encode_wires, encode_threads, encode}
use Rattle.encoding.specs.WellFormed.{WiresFit, ThreadsFit, WellFormed}
use Rattle.encoding.proofs.Spelling.{Spells, spells-self, spells-split}
use Rattle.encoding.proofs.Statements.{spells-stmt}
use Rattle.encoding.proofs.Module.{head_bytes, HeadFits, head_at, wires-at}
use Rattle.verilog_back.specs.Returned.{returned, returned_module}
use Rattle.verilog_back.proofs.Returned.{returned-size}
use Rattle.verilog_back.proofs.Unique.{returned-built}

-- ---- read so, or number 7

data OrSeven {A : Type 0} (a : A) : Res A → Type 0 where
  fine : OrSeven a (ok a)
  seven : {q : ℕ} → OrSeven a (no 7 q)

then-or : {A B : Type 0} {a : A} {b : B} {r : Res A} (f : A → Res B) → OrSeven a r → OrSeven b (f a) → OrSeven b (r >>= f)
then-or f fine h = h
then-or f seven h = seven

only-seven : {A : Type 0} {a : A} {n p : ℕ} → OrSeven a (no n p) → n ≡ 7
only-seven seven = refl

-- ---- a statement that is read with one level more

module _ (c : Scope) (s : List ℕ) where
  opens-below : {d p : ℕ} {b : Body Expr} → ReadsStmt (tree s) c s d p b → p < length s
  opens-below (an-empty l m) = l
  opens-below (an-assign l m x r e w) = omega arith
  opens-below (a-later l m x r e w) = omega arith
  opens-below (a-sequence l m a b) = l
  opens-below (an-if l m e a) = l
  opens-below (an-if-else l m e a b) = l
  opens-below (a-while l m e a) = l
  opens-below (a-forever l m a) = l
  opens-below (a-wait m n ts w) = let x = n.below in omega arith

  less : (k p : ℕ) {b : Body Expr} → ReadsStmt (tree s) c s (suc k) p b → OrSeven b (read_stmt (tree s) c s k p)
  unfolding read_stmt form form_map
  less zero p r = rw (byte-at s p (opens-below r)) seven
  less (suc k) p (an-empty l m) = rw (accept-stmt (tree s) c s (an-empty {d = k} l m)) fine
  less (suc k) p (an-assign l m x r e w) = rw (accept-stmt (tree s) c s (an-assign {d = k} l m x r e w)) fine
  less (suc k) p (a-later l m x r e w) = rw (accept-stmt (tree s) c s (a-later {d = k} l m x r e w)) fine
  less (suc k) p (a-sequence {a = a} {b = b} l m x y) =
      rw (accept-form (tree s) c s k p a_sequence l m) (then-or _ (less k (p + 1) x) (then-or _ (less k a.next y) fine))
  less (suc k) p (an-if {e = e} l m q x) =
      rw (accept-form (tree s) c s k p an_if l m, q) (then-or _ (less k e.next x) fine)
  less (suc k) p (an-if-else {e = e} {a = a} l m q x y) =
      rw (accept-form (tree s) c s k p an_if_else l m, q) (then-or _ (less k e.next x) (then-or _ (less k a.next y) fine))
  less (suc k) p (a-while {e = e} l m q x) =
      rw (accept-form (tree s) c s k p a_while l m, q) (then-or _ (less k e.next x) fine)
  less (suc k) p (a-forever l m x) =
      rw (accept-form (tree s) c s k p a_forever l m) (then-or _ (less k (p + 1) x) fine)
  less (suc k) p (a-wait m n ts w) = rw (accept-stmt (tree s) c s (a-wait {d = k} m n ts w)) fine

  threads-less : {p q : ℕ} (bs : List (Stmt Expr)) → ThreadsFit c bs → Spells s p (encode_threads (map returned bs)) q
      → OrSeven (record { items = map returned bs; next = q }) (read_threads (tree s) c s (length (map returned bs)) p)
  unfolding read_threads ThreadsFit encode_threads
  threads-less {p} {q} [] t r =
      let e : q ≡ p = omega (arith, r.ends) in
      rw e fine
  threads-less {p} {q} (b ∷ bs) t r =
      let x = spells-split (encode_stmt (returned b)) (encode_threads (map returned bs)) r in
      let n : size (returned b) + 1 ≤ 256 = rw (returned-size b) t.1 in
      then-or _ (less 64 p (spells-stmt (returned b) (returned-built c 64 b t.0) x.0))
      (rw (le-leb (size (returned b) + 1) 256 n) (then-or _ (threads-less {p = p + length (encode_stmt (returned b))} bs t.2 x.1) fine))

-- ---- the sheet

pub too_long : (s : List ℕ) → 8192 < length s → read s ≡ no 1 8192
unfolding read read_sheet
too_long s h = rw (lt-leb (length s) 8192 h) refl

sheet-less : (m : Module Expr) → WellFormed m → (s : List ℕ) → encode (returned_module m) ≡ s → length s ≤ 8192
    → (b : ℕ) × OrSeven (record { contents = returned_module m; definitions = []; body = b }) (read_sheet (tree s) s)
unfolding read_functions whole_sheet read_sheet encode head_bytes returned_module
sheet-less m f s e short =
    let i = m.scope.inputs in
    let r = m.scope.registers in
    let ws = m.scope.widths in
    let bs = map returned m.threads in
    let c : Scope = record { inputs = i; registers = r; widths = ws; declared = 0; functions = [] } in
    let same : m.scope ≡ c = λ j. record { inputs = i; registers = r; widths = ws; declared = f.plain.0 j; functions = f.plain.1 j } in
    let h : Head =
    record {
      scope = c;
      wires = length m.wires;
      threads = length bs;
      next = 4 + (i + r + length m.wires);
    }
    in
    let l = length-map m.threads returned in
    let a = f.threads.0 in
    let b = f.threads.1 in
    let most = f.inputs.1 in
    let fits : HeadFits h =
    record {
      inputs = f.inputs;
      registers = f.registers;
      wires = f.wires;
      threads = (omega arith, omega arith);
      variables = f.variables;
      widths = f.widths;
      clock = f.clock;
    }
    in
    let first : get_or s 0 0 < 128 = subst (λ (x : List ℕ). get_or x 0 0 < 128) e (omega arith) in
    let whole : Spells s 0 (encode (returned_module m)) (length s) = subst⁻¹ (λ (x : List ℕ). Spells s 0 x (length s)) e (spells-self s) in
    let z = spells-split (head_bytes h ++ encode_wires m.wires) (encode_threads bs) whole in
    let y = spells-split (head_bytes h) (encode_wires m.wires) z.0 in
    let n : 0 + length (head_bytes h) ≡ 4 + (i + r + length m.wires) = omega (arith, f.variables) in
    let body = 0 + length (head_bytes h ++ encode_wires m.wires) in
    let wired = subst (λ (k : Scope). WiresFit k (i + r) m.wires) same f.wired in
    let threaded = subst (λ (k : Scope). ThreadsFit k m.threads) same f.threaded in
    let made : OrSeven (record { contents = record { scope = c; wires = m.wires; threads = bs }; definitions = []; body = body })
    (read_sheet (tree s) s) =
    rw (
      le-leb (length s) 8192 short,
      lt-ltb (get_or s 0 0) 128 first,
      head_at s i r (length m.wires) (length bs) ws fits (rw n at y.0),
      wires-at c (i + r) m.wires wired (rw n at y.1),
    )
    (then-or _ (threads-less c s m.threads threaded z.1) (rw (eq-eqb (length s) (length s) refl) fine)) in (
      body,
      subst⁻¹ (λ (k : Scope). OrSeven (record { contents = record { scope = k; wires = m.wires; threads = bs }; definitions = []; body = body })
          (read_sheet (tree s) s)) same made,
    )

pub too-deep : (m : Module Expr) → WellFormed m → length (encode (returned_module m)) ≤ 8192 → (n p : ℕ)
    → read (encode (returned_module m)) ≡ no n p → n ≡ 7
unfolding read
too-deep m f short n p h =
    let x = sheet-less m f (encode (returned_module m)) refl short in
    let y : OrSeven (returned_module m) (read (encode (returned_module m))) = then-or _ x.1 fine in
    only-seven (subst (λ (r : Res (Module Expr)). OrSeven (returned_module m) r) h y)
