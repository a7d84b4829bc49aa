-- A module's text depends only on the names of its variables. So with the table of the plain names the call prints the text with these.
-- Assumes nothing.
use mathlib.Core.Path.{◌≡◌, refl, ap, ◌∙◌}
use mathlib.Core.List.{List, [], ◌∷◌}
use Prim.Native.Nat.{ℕ, zero, suc, ◌+◌, ◌≤◌, ◌<◌}
use native.Mathlib.Omega.{arith}
use lib.ListN.{length, get_or}
use Rattle.sheet.specs.declared.EdgeTerm.{EdgeTerm}
use Rattle.sheet.specs.Reading as Sheet
use Rattle.sheet.specs.Expression.{Expr, variable, constant, unknown, unary, binary, conditional, call, Scope}
use Rattle.sheet.specs.Statement.{Stmt, empty, assign, later, sequence, if_then, if_else, while, forever, wait}
use Rattle.sheet.specs.Module.{Module, read}
use Rattle.encoding.specs.Encoding.{Bytes}
use Rattle.encoding.specs.WellFormed.{WellTyped, IsTarget, IsAssignment, PairsFit, WellBuilt, WiresFit, ThreadsFit, WellFormed}
use Rattle.encoding.proofs.Encoding.{read-encode}
use Rattle.writing.specs.Buffer.{filled, puts}
use Rattle.naming.specs.Naming.{plain_name, plain_table, name_of}
use Rattle.naming.proofs.Naming.{name_of-plain}
use Rattle.verilog.specs.Verilog.{Front, waiting, nesting, single, front, opening, remainder, expr_text, term_text, terms_text, sequence_text, stmt_text, port_text, ports_text, wires_text, opened_text, thread_text, threads_text, declaration_text, declarations_text, module_text, verilog_text, answer, printed, verilog_of}
use Rattle.verilog_back.specs.Claims.{PlainlyPrinted}

module _ (f g : ℕ → List ℕ) (c : Scope) (same : (v : ℕ) → v < length c.widths → f v ≡ g v)
    (bound : c.inputs + c.registers ≤ length c.widths) (none : c.declared ≡ 0) where
  expr-same : (k : ℕ) (e : Expr) (w : ℕ) → WellTyped c k e w → expr_text f e ≡ expr_text g e
  unfolding WellTyped expr_text
  expr-same zero e w t = absurd t
  expr-same (suc k) (variable v) w t = same v t.0
  expr-same (suc k) (constant l v) w t = refl
  expr-same (suc k) (unknown l) w t = refl
  expr-same (suc k) (unary o l a) w t = rw (expr-same k a l t.1) refl
  expr-same (suc k) (binary o l a b) w t = rw (expr-same k a l t.1, expr-same k b l t.2) refl
  expr-same (suc k) (conditional b x y) w t =
      rw (expr-same k b t.0.0 t.0.1, expr-same k x w t.1, expr-same k y w t.2) refl
  expr-same (suc k) (call n l ys b) w t = absurd (omega (arith, none, t.0))

  terms-same : (k : ℕ) (ts : List EdgeTerm) → PairsFit c.widths ts → terms_text f k ts ≡ terms_text g k ts
  unfolding terms_text term_text PairsFit
  terms-same k [] h = refl
  terms-same k (t ∷ ts) h = rw (same t.variable h.0, terms-same (k + 1) ts h.2) refl

  -- ---- statements

  -- Where a sequence opens with a wait, that wait names variables.

  unfoldable Opens : Front → Type 0
  Opens (waiting ts) = PairsFit c.widths ts
  Opens nesting = Unit {0}
  Opens single = Unit {0}

  front-opens : (k : ℕ) (a : Stmt Expr) → WellBuilt c k a → Opens (front a)
  unfolding WellBuilt front Opens
  front-opens zero a t = absurd t
  front-opens (suc k) empty t = tt
  front-opens (suc k) (assign v e) t = tt
  front-opens (suc k) (later v e) t = tt
  front-opens (suc k) (sequence a b) t = tt
  front-opens (suc k) (if_then e a) t = tt
  front-opens (suc k) (if_else e a b) t = tt
  front-opens (suc k) (while e a) t = tt
  front-opens (suc k) (forever a) t = tt
  front-opens (suc k) (wait ts) t = t.1

  sequence-same : (n : ℕ) (r : Front) (a b x y : ℕ → List ℕ) → Opens r → ((l : ℕ) → a l ≡ x l) → ((l : ℕ) → b l ≡ y l)
      → sequence_text f n r a b ≡ sequence_text g n r x y
  unfolding sequence_text Opens
  sequence-same n (waiting ts) a b x y h p q = rw (terms-same 0 ts h, q (n + 1)) refl
  sequence-same n nesting a b x y h p q = rw (p (n + 1), q n) refl
  sequence-same n single a b x y h p q = rw (p n, q n) refl

  stmt-same : (k : ℕ) (a : Stmt Expr) → WellBuilt c k a → (n : ℕ) → stmt_text f n a ≡ stmt_text g n a
  unfolding WellBuilt IsAssignment IsTarget stmt_text
  stmt-same zero a t n = absurd t
  stmt-same (suc k) empty t n = refl
  stmt-same (suc k) (assign v e) t n = let z = t.0.1 in rw (same v (omega arith), expr-same 16 e _ t.1) refl
  stmt-same (suc k) (later v e) t n = let z = t.0.1 in rw (same v (omega arith), expr-same 16 e _ t.1) refl
  stmt-same (suc k) (sequence a b) t n =
      sequence-same n (front a) _ _ _ _ (front-opens k a t.0) (λ l. stmt-same k a t.0 l) (λ l. stmt-same k b t.1 l)
  stmt-same (suc k) (if_then e a) t n = rw (expr-same 16 e t.0.0 t.0.1, stmt-same k a t.1 (n + 1)) refl
  stmt-same (suc k) (if_else e a b) t n =
      rw (expr-same 16 e t.0.0 t.0.1, stmt-same k a t.1 (n + 1), stmt-same k b t.2 (n + 1)) refl
  stmt-same (suc k) (while e a) t n = rw (expr-same 16 e t.0.0 t.0.1, stmt-same k a t.1 (n + 1)) refl
  stmt-same (suc k) (forever a) t n = rw (stmt-same k a t (n + 1)) refl
  stmt-same (suc k) (wait ts) t n = rw (terms-same 0 ts t.1) refl

  -- ---- threads

  opened-same : (r : Front) (a b x y : ℕ → List ℕ) → Opens r → a 2 ≡ x 2 → b 2 ≡ y 2 → opened_text f r a b ≡ opened_text g r x y
  unfolding opened_text Opens
  opened-same (waiting ts) a b x y h p q = rw (terms-same 0 ts h, q) refl
  opened-same nesting a b x y h p q = rw p refl
  opened-same single a b x y h p q = rw p refl

  opening-opens : (k : ℕ) (a : Stmt Expr) → WellBuilt c (suc k) a → Opens (opening a)
  unfolding WellBuilt opening Opens
  opening-opens k empty t = tt
  opening-opens k (assign v e) t = tt
  opening-opens k (later v e) t = tt
  opening-opens k (sequence a b) t = front-opens k a t.0
  opening-opens k (if_then e a) t = tt
  opening-opens k (if_else e a b) t = tt
  opening-opens k (while e a) t = tt
  opening-opens k (forever a) t = tt
  opening-opens k (wait ts) t = tt

  remainder-same : (k : ℕ) (a : Stmt Expr) → WellBuilt c (suc k) a → (n : ℕ) → stmt_text f n (remainder a) ≡ stmt_text g n (remainder a)
  unfolding WellBuilt remainder stmt_text
  remainder-same k empty t n = refl
  remainder-same k (assign v e) t n = refl
  remainder-same k (later v e) t n = refl
  remainder-same k (sequence a b) t n = stmt-same k b t.1 n
  remainder-same k (if_then e a) t n = refl
  remainder-same k (if_else e a b) t n = refl
  remainder-same k (while e a) t n = refl
  remainder-same k (forever a) t n = refl
  remainder-same k (wait ts) t n = refl

  thread-same : (a : Stmt Expr) → WellBuilt c 64 a → thread_text f a ≡ thread_text g a
  unfolding thread_text
  thread-same a t = opened-same (opening a) _ _ _ _ (opening-opens 63 a t) (stmt-same 64 a t 2) (remainder-same 63 a t 2)

  threads-same : (bs : List (Stmt Expr)) → ThreadsFit c bs → threads_text f bs ≡ threads_text g bs
  unfolding ThreadsFit threads_text
  threads-same [] t = refl
  threads-same (a ∷ bs) t = rw (thread-same a t.0, threads-same bs t.2) refl

  -- ---- the module's other parts

  wires-same : (v : ℕ) (es : List Expr) → WiresFit c v es → v + length es ≤ length c.widths
      → wires_text f v es ≡ wires_text g v es
  unfolding WiresFit wires_text
  wires-same v [] t l = refl
  wires-same v (e ∷ es) t l = rw (same v (omega arith), expr-same 16 e _ t.0, wires-same (v + 1) es t.1 (omega arith)) refl

  ports-same : (n v : ℕ) → v + n ≤ length c.widths → ports_text f n v ≡ ports_text g n v
  unfolding ports_text port_text
  ports-same zero v l = refl
  ports-same (suc n) v l = rw (same v (omega arith), ports-same n (v + 1) (omega arith)) refl

  declarations-same : (i r v : ℕ) (ws : List ℕ) → v + length ws ≤ length c.widths
      → declarations_text f i r v ws ≡ declarations_text g i r v ws
  unfolding declarations_text declaration_text
  declarations-same i r v [] l = refl
  declarations-same i r v (w ∷ ws) l = rw (same v (omega arith), declarations-same i r (v + 1) ws (omega arith)) refl

module-same : (f g : ℕ → List ℕ) (m : Module Expr) → WellFormed m
    → ((v : ℕ) → v < length m.scope.widths → f v ≡ g v) → module_text f m ≡ module_text g m
unfolding module_text
module-same f g m w same =
    let c = m.scope in
    let n = w.variables in
    let bound : c.inputs + c.registers ≤ length c.widths = omega arith in
    let none = w.plain.0 in
    rw (
      ports-same f g c same bound none c.inputs 0 (omega arith),
      declarations-same f g c same bound none c.inputs c.registers 0 c.widths (omega arith),
      wires-same f g c same bound none (c.inputs + c.registers) m.wires w.wired (omega arith),
      threads-same f g c same bound none m.threads w.threaded,
    )
    refl

pub plainly-printed : PlainlyPrinted
unfolding PlainlyPrinted verilog_of printed verilog_text
plainly-printed s buffer m b h =
    let w = (read-encode s b h).0 in
    let n = w.variables in
    let i = w.inputs.1 in
    let r = w.registers.1 in
    let x = w.wires in
    rw h
    (ap (λ (t : List ℕ). answer 0 (puts (filled buffer 0) t))
    (module-same _ _ m w (λ v l. name_of-plain m.scope.inputs m.scope.registers v (omega arith))))
