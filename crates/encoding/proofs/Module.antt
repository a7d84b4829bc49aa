-- The parts of a sheet are read exactly when they keep document 01's rules and their encodings stand there.
-- Assumes nothing.
use mathlib.Core.Path.{◌≡◌, refl, ap}
use Prim.Native.Nat.{ℕ, zero, suc, ◌+◌, ◌≤◌}
use native.Mathlib.Omega.{arith}
use mathlib.Core.List.{List, [], ◌∷◌}
use lib.ListN.{length, get_or}
use lib.Dec.{leb, eqb}
use borrow.Author.Tests.{le-leb, leb-true, eq-eqb, eqb-true}
use Rattle.sheet.specs.Reading.{ok}
use Rattle.sheet.specs.Expression.{Expr, Scope, tree}
use Rattle.sheet.specs.Statement.{Stmt, size, read_stmt}
use Rattle.sheet.specs.Module.{Listed, widths_at, Head, read_head, read_wires, read_threads}
use Rattle.sheet.proofs.Reading.{ok-injective, check-ok}
use Rattle.sheet.proofs.Statements.{derive-stmt, accept-stmt}
use Rattle.encoding.specs.Encoding.{Bytes, encode_expr, encode_stmt, encode_wires, encode_threads}
use Rattle.encoding.specs.WellFormed.{Between, AreWidths, WiresFit, ThreadsFit}
use Rattle.encoding.specs.Whole.{first_byte, count_bytes}
use Rattle.encoding.proofs.Spelling.{Spells, spells-nil, spells-append, spells-split}
use Rattle.encoding.proofs.Expression.{tree-typed, tree-spells, spells-tree}
use Rattle.encoding.proofs.Statements.{reads-built, stmt-spells, spells-stmt}
use Rattle.encoding.proofs.Head.{with-ok, front_at}

-- ---- read_head, of a sheet without functions

-- The sheet's first bytes: the counts and the widths.
unfoldable pub head_bytes : Head → List ℕ
head_bytes h = h.scope.inputs ∷ h.scope.registers ∷ h.wires ∷ h.threads ∷ h.scope.widths

-- What holds of them.
pub record HeadFits (h : Head) : Type 0 where
  pub inputs : Between 1 16 h.scope.inputs
  pub registers : Between 1 32 h.scope.registers
  pub wires : h.wires ≤ 32
  pub threads : Between 1 8 h.threads
  pub variables : length h.scope.widths ≡ h.scope.inputs + h.scope.registers + h.wires
  pub widths : AreWidths h.scope.widths
  pub clock : get_or h.scope.widths 0 0 ≡ 1

-- The head that has these counts and widths.
abbrev plain_head : ℕ → ℕ → ℕ → ℕ → List ℕ → Head
plain_head i r w t ws =
    record {
      scope = record { inputs = i; registers = r; widths = ws; declared = 0; functions = [] };
      wires = w;
      threads = t;
      next = 4 + (i + r + w);
    }

pub head_at : (s : List ℕ) (i r w t : ℕ) (ws : List ℕ) → HeadFits (plain_head i r w t ws) → Spells s 0 (head_bytes (plain_head i r w t ws)) (4 + (i + r + w))
    → read_head s ≡ ok (plain_head i r w t ws)
unfolding head_bytes first_byte count_bytes widths_at
head_at s i r w t ws f x =
    front_at s i r w t 0 ws
    (record {
      inputs = f.inputs;
      registers = f.registers;
      wires = f.wires;
      threads = f.threads;
      functions = omega arith;
      variables = f.variables;
      widths = f.widths;
      clock = f.clock;
    })
    x

-- ---- read_wires

pub wires-ok : (c : Scope) (s : List ℕ) (n v p : ℕ) {es : Listed Expr} → Bytes s → p ≤ length s → read_wires (tree s) c s n v p ≡ ok es
    → (length es.items ≡ n) × WiresFit c v es.items × (Spells s p (encode_wires es.items) es.next)
unfolding read_wires WiresFit encode_wires
wires-ok c s zero v p bs b h = rw (← ok-injective h) (refl, tt, spells-nil b)
wires-ok c s (suc n) v p bs b h =
    with-ok (tree s c p) _ h (λ e x h₁.
    let k = check-ok (eqb e.width (get_or c.widths v 0)) 8 p _ h₁ in
    with-ok (read_wires (tree s) c s n (v + 1) e.next) _ k.1 (λ es y h₂.
    let t = tree-spells c s p bs x in
    let z = wires-ok c s n (v + 1) e.next bs t.below y in
    let w : e.width ≡ get_or c.widths v 0 = eqb-true _ _ k.0 in
    rw (← ok-injective h₂)
    (ap suc z.0, (rw w at (tree-typed c s p x), z.1), spells-append t z.2)))

pub wires-at : (c : Scope) {s : List ℕ} (v : ℕ) {p q : ℕ} (es : List Expr) → WiresFit c v es → Spells s p (encode_wires es) q
    → read_wires (tree s) c s (length es) v p ≡ ok (record { items = es; next = q })
unfolding read_wires WiresFit encode_wires
wires-at c v {p} {q} [] t r =
    let e : q ≡ p = omega (arith, r.ends) in
    rw e refl
wires-at c v (e ∷ es) t r =
    let x = spells-split (encode_expr e) (encode_wires es) r in
    simp (
      spells-tree c e t.0 x.0,
      eq-eqb (get_or c.widths v 0) (get_or c.widths v 0) refl,
      wires-at c (v + 1) es t.1 x.1,
    )

-- ---- read_threads

pub threads-ok : (c : Scope) (s : List ℕ) (n p : ℕ) {bs : Listed (Stmt Expr)} → Bytes s → p ≤ length s → read_threads (tree s) c s n p ≡ ok bs
    → (length bs.items ≡ n) × ThreadsFit c bs.items × (Spells s p (encode_threads bs.items) bs.next)
unfolding read_threads ThreadsFit encode_threads
threads-ok c s zero p bytes l h = rw (← ok-injective h) (refl, tt, spells-nil l)
threads-ok c s (suc n) p bytes l h =
    with-ok (read_stmt (tree s) c s 64 p) _ h (λ b x h₁.
    let k = check-ok (leb (size b.stmt + 1) 256) 11 p _ h₁ in
    with-ok (read_threads (tree s) c s n b.next) _ k.1 (λ bs y h₂.
    let r = derive-stmt (tree s) c s 64 p x in
    let t = stmt-spells bytes r in
    let z = threads-ok c s n b.next bytes t.below y in
    rw (← ok-injective h₂)
    (ap suc z.0, (reads-built r, leb-true _ _ k.0, z.1), spells-append t z.2)))

pub threads-at : (c : Scope) {s : List ℕ} {p q : ℕ} (bs : List (Stmt Expr)) → ThreadsFit c bs → Spells s p (encode_threads bs) q
    → read_threads (tree s) c s (length bs) p ≡ ok (record { items = bs; next = q })
unfolding read_threads ThreadsFit encode_threads
threads-at c {s} {p} {q} [] t r =
    let e : q ≡ p = omega (arith, r.ends) in
    rw e refl
threads-at c {s} {p = p} (b ∷ bs) t r =
    let x = spells-split (encode_stmt b) (encode_threads bs) r in
    simp (
      accept-stmt (tree s) c s (spells-stmt b t.0 x.0),
      le-leb (size b + 1) 256 t.1,
      threads-at c {p = p + length (encode_stmt b)} bs t.2 x.1,
    )
