-- A statement is read from p to q exactly when it is well built and its encoding stands there.
-- Assumes nothing.
use mathlib.Core.Path.{◌≡◌, refl, sym, ◌∙◌}
use Prim.Native.Nat.{ℕ, zero, suc, ◌+◌, ◌*◌, ◌≤◌}
use native.Mathlib.Omega.{arith}
use mathlib.Core.List.{List, [], ◌∷◌, ◌++◌}
use mathlib.Core.Bool.{Bool, true, false, ◌&&◌}
use lib.ListN.{length, get_or}
use borrow.Author.Tests.{lt-ltb, ltb-true, le-leb, leb-true, eq-eqb, eqb-true}
use Rattle.values.specs.Edges.{edge_of, edge_number}
use Rattle.values.specs.declared.Edge.{Edge}
use Rattle.values.specs.declared.Edge.TheVariants.{Change, Posedge, Negedge}
use Rattle.values.proofs.Edges.{edge_of-edge_number, edge_number-edge_of}
use Rattle.sheet.specs.declared.EdgeTerm.{EdgeTerm}
use Rattle.sheet.specs.Expression.{Expr, Scope, tree}
use Rattle.sheet.specs.Statement.{Stmt, empty, assign, later, sequence, if_then, if_else, while, forever, wait, is_register, Body, narrow, narrow_all}
use Rattle.sheet.proofs.Statements.{ReadsTerms, no-terms, a-term, terms-length, ReadsStmt, an-empty, an-assign, a-later, a-sequence, an-if, an-if-else, a-while, a-forever, a-wait}
use Rattle.encoding.specs.Encoding.{Bytes, encode_expr, encode_terms, encode_stmt}
use Rattle.encoding.specs.WellFormed.{IsTarget, IsAssignment, EdgeFits, PairsFit, WellBuilt}
use Rattle.encoding.proofs.Spelling.{Spells, spells-nil, spells-cons, spells-head, spells-two, spells-heads, spells-append, spells-split}
use Rattle.encoding.proofs.Expression.{within_of, tree-typed, tree-spells, spells-tree}

-- ---- tests and facts

pub and_both : (a b : Bool) → (a && b) ≡ true → (a ≡ true) × (b ≡ true)
and_both true b h = (refl, h)
and_both false b h = (h, cc)

pub register-target : (c : Scope) (v : ℕ) → is_register c v ≡ true → IsTarget c v
unfolding is_register IsTarget
register-target c v h =
    let x = and_both _ _ h in
    (leb-true _ _ x.0, ltb-true _ _ x.1)

pub target-register : (c : Scope) (v : ℕ) → IsTarget c v → is_register c v ≡ true
unfolding is_register IsTarget
target-register c v t = rw (le-leb _ _ t.0, lt-ltb _ _ t.1) refl

-- ---- edge_number

pub edge_number-le : (e : Edge) → edge_number e ≤ 2
unfolding edge_number
edge_number-le Change = omega arith
edge_number-le Posedge = omega arith
edge_number-le Negedge = omega arith

-- ---- waits

narrow-fits : (e : Edge) (ws : List ℕ) (v : ℕ) → narrow ws (record { edge = e; variable = v }) ≡ true → EdgeFits e (get_or ws v 0)
unfolding narrow EdgeFits
narrow-fits Change ws v h = tt
narrow-fits Posedge ws v h = eqb-true _ _ h
narrow-fits Negedge ws v h = eqb-true _ _ h

fits-narrow : (e : Edge) (ws : List ℕ) (v : ℕ) → EdgeFits e (get_or ws v 0) → narrow ws (record { edge = e; variable = v }) ≡ true
unfolding narrow EdgeFits
fits-narrow Change ws v h = refl
fits-narrow Posedge ws v h = eq-eqb _ _ h
fits-narrow Negedge ws v h = eq-eqb _ _ h

pub terms-timed : {ws s : List ℕ} {n p : ℕ} {ts : List EdgeTerm} → ReadsTerms ws s n p ts → narrow_all ws ts ≡ true → PairsFit ws ts
unfolding narrow_all PairsFit
terms-timed no-terms h = tt
terms-timed {ws} (a-term {e = e} {v = v} w l x b ts) h =
    let y = and_both _ _ h in
    (b, narrow-fits (edge_of e) ws v y.0, terms-timed ts y.1)

pub timed-narrow : (ws : List ℕ) (ts : List EdgeTerm) → PairsFit ws ts → narrow_all ws ts ≡ true
unfolding narrow_all PairsFit
timed-narrow ws [] h = refl
timed-narrow ws (t ∷ ts) h = rw (fits-narrow t.edge ws t.variable h.1, timed-narrow ws ts h.2) refl

pub terms-spells : {ws s : List ℕ} {n p : ℕ} {ts : List EdgeTerm} → p ≤ length s → ReadsTerms ws s n p ts → Spells s p (encode_terms ts) (p + 2 * n)
unfolding encode_terms
terms-spells {p = p} h no-terms =
    let t : p + 2 * 0 ≡ p = omega arith in
    rw t (spells-nil h)
terms-spells {p = p} h (a-term {n = n} {e = e} w l x b ts) =
    let t : p + 2 + 2 * n ≡ p + 2 * suc n = omega arith in
    spells-two l (w.same ∙ sym (edge_number-edge_of e w.most)) x (rw t at (terms-spells (omega arith) ts))

pub length-terms : (ts : List EdgeTerm) → length (encode_terms ts) ≡ 2 * length ts
unfolding encode_terms
length-terms [] = refl
length-terms (t ∷ ts) = let h = length-terms ts in omega arith

pub spells-terms : (ws : List ℕ) {s : List ℕ} {p q : ℕ} (ts : List EdgeTerm) → PairsFit ws ts → Spells s p (encode_terms ts) q
    → ReadsTerms ws s (length ts) p ts
unfolding encode_terms PairsFit
spells-terms ws [] h r = no-terms
spells-terms ws {p = p} (t ∷ ts) h r =
    let x = spells-heads r in
    let below = x.0 in
    rw (← edge_of-edge_number t.edge)
    (a-term (within_of (omega arith) x.1 (omega arith) (edge_number-le t.edge)) x.0 x.2 h.0 (spells-terms ws {p = p + 2} ts h.2 x.3))

-- ---- read, therefore well built and encoded there

pub reads-built : {c : Scope} {s : List ℕ} {d p : ℕ} {b : Body Expr} → ReadsStmt (tree s) c s d p b → WellBuilt c d b.stmt
unfolding WellBuilt IsAssignment
reads-built (an-empty l m) = tt
reads-built {c} {s} {p = p} (an-assign {t = t} l m x r e w) = (register-target c t r, rw w at (tree-typed c s (p + 2) e))
reads-built {c} {s} {p = p} (a-later {t = t} l m x r e w) = (register-target c t r, rw w at (tree-typed c s (p + 2) e))
reads-built (a-sequence l m a b) = (reads-built a, reads-built b)
reads-built {c} {s} {p = p} (an-if l m e a) = ((_, tree-typed c s (p + 1) e), reads-built a)
reads-built {c} {s} {p = p} (an-if-else l m e a b) = ((_, tree-typed c s (p + 1) e), reads-built a, reads-built b)
reads-built {c} {s} {p = p} (a-while l m e a) = ((_, tree-typed c s (p + 1) e), reads-built a)
reads-built (a-forever l m a) = reads-built a
reads-built (a-wait m n ts w) =
    let e = terms-length ts in
    let x = n.least in
    let y = n.most in
    ((omega arith, omega arith), terms-timed ts w)

pub stmt-spells : {c : Scope} {s : List ℕ} {d p : ℕ} {b : Body Expr} → Bytes s → ReadsStmt (tree s) c s d p b → Spells s p (encode_stmt b.stmt) b.next
unfolding encode_stmt
stmt-spells bs (an-empty l m) = spells-cons l m (spells-nil (omega arith))
stmt-spells {c} {s} {p = p} bs (an-assign l m x r e w) = spells-two l m x (tree-spells c s (p + 2) bs e)
stmt-spells {c} {s} {p = p} bs (a-later l m x r e w) = spells-two l m x (tree-spells c s (p + 2) bs e)
stmt-spells bs (a-sequence l m a b) = spells-cons l m (spells-append (stmt-spells bs a) (stmt-spells bs b))
stmt-spells {c} {s} {p = p} bs (an-if l m e a) =
    spells-cons l m (spells-append (tree-spells c s (p + 1) bs e) (stmt-spells bs a))
stmt-spells {c} {s} {p = p} bs (an-if-else l m e a b) =
    spells-cons l m (spells-append (spells-append (tree-spells c s (p + 1) bs e) (stmt-spells bs a)) (stmt-spells bs b))
stmt-spells {c} {s} {p = p} bs (a-while l m e a) =
    spells-cons l m (spells-append (tree-spells c s (p + 1) bs e) (stmt-spells bs a))
stmt-spells bs (a-forever l m a) = spells-cons l m (stmt-spells bs a)
stmt-spells bs (a-wait m n ts w) =
    spells-two n.below m (n.same ∙ sym (terms-length ts)) (terms-spells (omega arith) ts)

-- ---- well built and encoded there, therefore read

pub spells-stmt : {c : Scope} {s : List ℕ} {d p q : ℕ} (b : Stmt Expr) → WellBuilt c d b → Spells s p (encode_stmt b) q
    → ReadsStmt (tree s) c s d p (record { stmt = b; next = q })
unfolding WellBuilt IsAssignment encode_stmt
spells-stmt {d = zero} b t r = absurd t
spells-stmt {d = suc d} empty t r =
    let h = spells-head r in
    rw r.ends (an-empty h.0 h.1)
spells-stmt {c} {d = suc d} (assign v e) t r =
    let h = spells-heads r in
    an-assign h.0 h.1 h.2 (target-register c v t.0) (spells-tree c e t.1 h.3) refl
spells-stmt {c} {d = suc d} (later v e) t r =
    let h = spells-heads r in
    a-later h.0 h.1 h.2 (target-register c v t.0) (spells-tree c e t.1 h.3) refl
spells-stmt {d = suc d} (sequence a b) t r =
    let h = spells-head r in
    let x = spells-split (encode_stmt a) (encode_stmt b) h.2 in
    a-sequence h.0 h.1 (spells-stmt {d = d} a t.0 x.0) (spells-stmt {d = d} b t.1 x.1)
spells-stmt {c} {d = suc d} (if_then e a) t r =
    let h = spells-head r in
    let x = spells-split (encode_expr e) (encode_stmt a) h.2 in
    an-if h.0 h.1 (spells-tree c e t.0.1 x.0) (spells-stmt {d = d} a t.1 x.1)
spells-stmt {c} {d = suc d} (if_else e a b) t r =
    let h = spells-head r in
    let y = spells-split (encode_expr e ++ encode_stmt a) (encode_stmt b) h.2 in
    let x = spells-split (encode_expr e) (encode_stmt a) y.0 in
    an-if-else h.0 h.1 (spells-tree c e t.0.1 x.0) (spells-stmt {d = d} a t.1 x.1) (spells-stmt {d = d} b t.2 y.1)
spells-stmt {c} {d = suc d} (while e a) t r =
    let h = spells-head r in
    let x = spells-split (encode_expr e) (encode_stmt a) h.2 in
    a-while h.0 h.1 (spells-tree c e t.0.1 x.0) (spells-stmt {d = d} a t.1 x.1)
spells-stmt {d = suc d} (forever a) t r =
    let h = spells-head r in
    a-forever h.0 h.1 (spells-stmt {d = d} a t h.2)
spells-stmt {c} {d = suc d} {p = p} {q = q} (wait ts) t r =
    let h = spells-heads r in
    let e : q ≡ p + 2 + 2 * length ts = omega (arith, r.ends, length-terms ts) in
    rw e
    (a-wait h.1 (within_of h.0 h.2 t.0.0 t.0.1) (spells-terms c.widths ts t.1 h.3) (timed-narrow c.widths ts t.1))
