-- Laws of reading statements. `ReadsStmt` says, without the reader, which bytes are a statement: `derive-stmt` and
-- `accept-stmt` show that the reader accepts those and no others. Every other law of statements goes by `ReadsStmt`.
use mathlib.Core.Path.{◌≡◌, refl, sym, ap, ◌∙◌}
use Prim.Native.Nat.{ℕ, zero, suc, ◌+◌, ◌*◌, ◌≤◌, ◌<◌}
use native.Mathlib.Omega.{arith}
use mathlib.Core.List.{List, [], ◌∷◌}
use mathlib.Core.Bool.{Bool, true, false}
use lib.ListN.{length, get_or}
use lib.Dec.{eqb}
use borrow.Author.Tests.{eq-eqb, eqb-true}
use Rattle.values.specs.Values.{pick}
use Rattle.values.specs.Edges.{edge_of}
use Rattle.sheet.specs.declared.EdgeTerm.{EdgeTerm}
use Rattle.sheet.specs.Reading.{Res, ok, byte_at, within}
use Rattle.sheet.specs.Expression.{Parsed, Scope, variable_at}
use Rattle.sheet.specs.Statement.{Stmt, empty, assign, later, sequence, if_then, if_else, while, forever, wait, is_register, Body, read_terms, narrow_all, Form, an_empty, an_assign, a_later, a_sequence, an_if, an_if_else, a_while, a_forever, a_wait, form_of, assignment, form, read_stmt}
use Rattle.sheet.proofs.Reading.{no≢ok, ok-injective, bind_ok, check-ok, byte-ok, byte-at, Within, within-ok, within-at}
use Rattle.sheet.proofs.Expression.{variable-ok, variable-at}

-- ---- which bytes are the pairs of a wait

pub data ReadsTerms (ws s : List ℕ) : ℕ → ℕ → List EdgeTerm → Type 0 where
  no-terms : {at : ℕ} → ReadsTerms ws s zero at []
  a-term : {n at e v : ℕ} {ts : List EdgeTerm} → Within 0 2 at e s → at + 1 < length s → get_or s (at + 1) 0 ≡ v → v < length ws
      → ReadsTerms ws s n (at + 2) ts → ReadsTerms ws s (suc n) at (record { edge = edge_of e; variable = v } ∷ ts)

pub derive-terms : (ws s : List ℕ) (n at : ℕ) {ts : List EdgeTerm} → read_terms n ws s at ≡ ok ts → ReadsTerms ws s n at ts
unfolding read_terms
derive-terms ws s zero at h = rw (← ok-injective h) no-terms
derive-terms ws s (suc n) at h =
    let e = bind_ok (within 0 2 6 s at) _ h in
    let v = bind_ok (variable_at ws s (at + 1)) _ e.2 in
    let t = bind_ok (read_terms n ws s (at + 2)) _ v.2 in
    let x = variable-ok ws s (at + 1) v.1 in
    rw (← ok-injective t.2) (a-term (within-ok 0 2 6 s at e.1) x.0 x.1 x.2 (derive-terms ws s n (at + 2) t.1))

pub accept-terms : {ws s : List ℕ} {n at : ℕ} {ts : List EdgeTerm} → ReadsTerms ws s n at ts → read_terms n ws s at ≡ ok ts
unfolding read_terms
accept-terms no-terms = refl
accept-terms {ws} {s} {at = at} (a-term e h x l ts) =
    simp (within-at 0 2 6 s at e, variable-at ws s (at + 1) h x l, accept-terms ts)

pub terms-length : {ws s : List ℕ} {n at : ℕ} {ts : List EdgeTerm} → ReadsTerms ws s n at ts → length ts ≡ n
terms-length no-terms = refl
terms-length (a-term e h x l ts) = ap suc (terms-length ts)

pub terms-below : {ws s : List ℕ} {n at : ℕ} {ts : List EdgeTerm} → at ≤ length s → ReadsTerms ws s n at ts → at + 2 * n ≤ length s
terms-below b no-terms = omega arith
terms-below b (a-term e h x l ts) = let r = terms-below (omega arith) ts in omega arith

-- ---- which bytes are a statement

pub data ReadsStmt {E : Type 0} (expr : Scope → ℕ → Res (Parsed E)) (c : Scope) (s : List ℕ) : ℕ → ℕ → Body E → Type 0 where
  an-empty : {d p : ℕ} → p < length s → get_or s p 0 ≡ 0x00
      → ReadsStmt expr c s (suc d) p (record { stmt = empty; next = p + 1 })
  an-assign : {d p t : ℕ} {e : Parsed E} → p + 1 < length s → get_or s p 0 ≡ 0x03 → get_or s (p + 1) 0 ≡ t → is_register c t ≡ true
      → expr c (p + 2) ≡ ok e → e.width ≡ get_or c.widths t 0
      → ReadsStmt expr c s (suc d) p (record { stmt = assign t e.item; next = e.next })
  a-later : {d p t : ℕ} {e : Parsed E} → p + 1 < length s → get_or s p 0 ≡ 0x23 → get_or s (p + 1) 0 ≡ t → is_register c t ≡ true
      → expr c (p + 2) ≡ ok e → e.width ≡ get_or c.widths t 0
      → ReadsStmt expr c s (suc d) p (record { stmt = later t e.item; next = e.next })
  a-sequence : {d p : ℕ} {a b : Body E} → p < length s → get_or s p 0 ≡ 0x0C
      → ReadsStmt expr c s d (p + 1) a → ReadsStmt expr c s d a.next b
      → ReadsStmt expr c s (suc d) p (record { stmt = sequence a.stmt b.stmt; next = b.next })
  an-if : {d p : ℕ} {e : Parsed E} {a : Body E} → p < length s → get_or s p 0 ≡ 0x06
      → expr c (p + 1) ≡ ok e → ReadsStmt expr c s d e.next a
      → ReadsStmt expr c s (suc d) p (record { stmt = if_then e.item a.stmt; next = a.next })
  an-if-else : {d p : ℕ} {e : Parsed E} {a b : Body E} → p < length s → get_or s p 0 ≡ 0x0E
      → expr c (p + 1) ≡ ok e → ReadsStmt expr c s d e.next a → ReadsStmt expr c s d a.next b
      → ReadsStmt expr c s (suc d) p (record { stmt = if_else e.item a.stmt b.stmt; next = b.next })
  a-while : {d p : ℕ} {e : Parsed E} {a : Body E} → p < length s → get_or s p 0 ≡ 0x46
      → expr c (p + 1) ≡ ok e → ReadsStmt expr c s d e.next a
      → ReadsStmt expr c s (suc d) p (record { stmt = while e.item a.stmt; next = a.next })
  a-forever : {d p : ℕ} {a : Body E} → p < length s → get_or s p 0 ≡ 0x44 → ReadsStmt expr c s d (p + 1) a
      → ReadsStmt expr c s (suc d) p (record { stmt = forever a.stmt; next = a.next })
  a-wait : {d p n : ℕ} {ts : List EdgeTerm} → get_or s p 0 ≡ 0x10 → Within 1 8 (p + 1) n s
      → ReadsTerms c.widths s n (p + 2) ts → narrow_all c.widths ts ≡ true
      → ReadsStmt expr c s (suc d) p (record { stmt = wait ts; next = p + 2 + 2 * n })

-- ---- a map and its form

unfoldable pub form_map : Form → ℕ
form_map an_empty = 0x00
form_map an_assign = 0x03
form_map a_later = 0x23
form_map a_sequence = 0x0C
form_map an_if = 0x06
form_map an_if_else = 0x0E
form_map a_while = 0x46
form_map a_forever = 0x44
form_map a_wait = 0x10

row : (m c : ℕ) (k j : Form) (r : Res Form) → form_map k ≡ c → (r ≡ ok j → m ≡ form_map j) → pick (eqb m c) (ok k) r ≡ ok j → m ≡ form_map j
row m c k j r e rest h = by (eqb m c) refl h
  where
    by : (t : Bool) → eqb m c ≡ t → pick t (ok k) r ≡ ok j → m ≡ form_map j
    by true q g = eqb-true m c q ∙ sym e ∙ ap form_map (ok-injective g)
    by false q g = rest g

pub form-map : (m p : ℕ) {k : Form} → form_of m p ≡ ok k → m ≡ form_map k
unfolding form_of form_map
form-map m p {k} h =
    row m 0x00 an_empty k _ refl
    (row m 0x03 an_assign k _ refl
    (row m 0x23 a_later k _ refl
    (row m 0x0C a_sequence k _ refl
    (row m 0x06 an_if k _ refl
    (row m 0x0E an_if_else k _ refl
    (row m 0x46 a_while k _ refl
    (row m 0x44 a_forever k _ refl
    (row m 0x10 a_wait k _ refl (λ g. absurd (no≢ok g))))))))))
    h

pub map-form : (m p : ℕ) (k : Form) → m ≡ form_map k → form_of m p ≡ ok k
unfolding form_of form_map
map-form m p an_empty e = rw e refl
map-form m p an_assign e = rw e refl
map-form m p a_later e = rw e refl
map-form m p a_sequence e = rw e refl
map-form m p an_if e = rw e refl
map-form m p an_if_else e = rw e refl
map-form m p a_while e = rw e refl
map-form m p a_forever e = rw e refl
map-form m p a_wait e = rw e refl

-- ---- the reader accepts what is a statement, and nothing else

module _ {E : Type 0} (expr : Scope → ℕ → Res (Parsed E)) (c : Scope) (s : List ℕ) where
  -- What an assignment that was read says.
  pub record Assigned (p t : ℕ) (e : Parsed E) : Type 0 where
    pub below : p + 1 < length s
    pub byte : get_or s (p + 1) 0 ≡ t
    pub register : is_register c t ≡ true
    pub read : expr c (p + 2) ≡ ok e
    pub fits : e.width ≡ get_or c.widths t 0

  pub assignment-ok : (make : ℕ → E → Stmt E) (p : ℕ) {b : Body E} → assignment expr c s make p ≡ ok b
      → (t : ℕ) × (e : Parsed E) × (Assigned p t e) × (record { stmt = make t e.item; next = e.next } ≡ b)
  unfolding assignment
  assignment-ok make p h =
      let t = bind_ok (byte_at s (p + 1)) _ h in
      let x = byte-ok s (p + 1) t.1 in
      let r = check-ok (is_register c t.0) 9 (p + 1) _ t.2 in
      let e = bind_ok (expr c (p + 2)) _ r.1 in
      let w = check-ok (eqb e.0.width (get_or c.widths t.0 0)) 8 p _ e.2 in
      (t.0, e.0, record { below = x.0; byte = x.1; register = r.0; read = e.1; fits = eqb-true _ _ w.0 }, ok-injective w.1)

  pub assignment-at : (make : ℕ → E → Stmt E) (p : ℕ) {t : ℕ} {e : Parsed E} → Assigned p t e
      → assignment expr c s make p ≡ ok (record { stmt = make t e.item; next = e.next })
  unfolding assignment
  assignment-at make p a =
      rw (byte-at s (p + 1) a.below, a.byte) (simp (a.register, a.read, eq-eqb _ _ a.fits))

  derive-form : (d p : ℕ) (inner : (i : ℕ) (q : Body E) → read_stmt expr c s d i ≡ ok q → ReadsStmt expr c s d i q) (k : Form) {b : Body E}
      → p < length s → get_or s p 0 ≡ form_map k → form expr c s (read_stmt expr c s d) p k ≡ ok b → ReadsStmt expr c s (suc d) p b
  unfolding form form_map
  derive-form d p inner an_empty l m h = rw (← ok-injective h) (an-empty l m)
  derive-form d p inner an_assign l m h =
      let a = assignment-ok assign p h in
      rw (← a.3) (an-assign a.2.below m a.2.byte a.2.register a.2.read a.2.fits)
  derive-form d p inner a_later l m h =
      let a = assignment-ok later p h in
      rw (← a.3) (a-later a.2.below m a.2.byte a.2.register a.2.read a.2.fits)
  derive-form d p inner a_sequence l m h =
      let a = bind_ok (read_stmt expr c s d (p + 1)) _ h in
      let b = bind_ok (read_stmt expr c s d a.0.next) _ a.2 in
      rw (← ok-injective b.2) (a-sequence l m (inner (p + 1) a.0 a.1) (inner a.0.next b.0 b.1))
  derive-form d p inner an_if l m h =
      let e = bind_ok (expr c (p + 1)) _ h in
      let a = bind_ok (read_stmt expr c s d e.0.next) _ e.2 in
      rw (← ok-injective a.2) (an-if l m e.1 (inner e.0.next a.0 a.1))
  derive-form d p inner an_if_else l m h =
      let e = bind_ok (expr c (p + 1)) _ h in
      let a = bind_ok (read_stmt expr c s d e.0.next) _ e.2 in
      let b = bind_ok (read_stmt expr c s d a.0.next) _ a.2 in
      rw (← ok-injective b.2) (an-if-else l m e.1 (inner e.0.next a.0 a.1) (inner a.0.next b.0 b.1))
  derive-form d p inner a_while l m h =
      let e = bind_ok (expr c (p + 1)) _ h in
      let a = bind_ok (read_stmt expr c s d e.0.next) _ e.2 in
      rw (← ok-injective a.2) (a-while l m e.1 (inner e.0.next a.0 a.1))
  derive-form d p inner a_forever l m h =
      let a = bind_ok (read_stmt expr c s d (p + 1)) _ h in
      rw (← ok-injective a.2) (a-forever l m (inner (p + 1) a.0 a.1))
  derive-form d p inner a_wait l m h =
      let n = bind_ok (within 1 8 6 s (p + 1)) _ h in
      let t = bind_ok (read_terms n.0 c.widths s (p + 2)) _ n.2 in
      let w = check-ok (narrow_all c.widths t.0) 8 p _ t.2 in
      rw (← ok-injective w.1) (a-wait m (within-ok 1 8 6 s (p + 1) n.1) (derive-terms c.widths s n.0 (p + 2) t.1) w.0)

  pub derive-stmt : (d p : ℕ) {b : Body E} → read_stmt expr c s d p ≡ ok b → ReadsStmt expr c s d p b
  unfolding read_stmt
  derive-stmt zero p h = absurd (no≢ok (bind_ok (byte_at s p) _ h).2)
  derive-stmt (suc d) p h =
      let m = bind_ok (byte_at s p) _ h in
      let x = byte-ok s p m.1 in
      let k = bind_ok (form_of m.0 p) _ m.2 in
      derive-form d p (λ i q e. derive-stmt d i e) k.0 x.0 (x.1 ∙ form-map m.0 p k.1) k.2

  pub accept-form : (d p : ℕ) (k : Form) → p < length s → get_or s p 0 ≡ form_map k
      → read_stmt expr c s (suc d) p ≡ form expr c s (read_stmt expr c s d) p k
  unfolding read_stmt
  accept-form d p k h e = rw (byte-at s p h, map-form (get_or s p 0) p k e) refl

  pub accept-stmt : {d p : ℕ} {b : Body E} → ReadsStmt expr c s d p b → read_stmt expr c s d p ≡ ok b
  unfolding form form_map
  accept-stmt {p = p} (an-empty {d = d} l m) = accept-form d p an_empty l m
  accept-stmt {p = p} (an-assign {d = d} l m t r e w) =
      accept-form d p an_assign (omega arith) m ∙ assignment-at assign p (record { below = l; byte = t; register = r; read = e; fits = w })
  accept-stmt {p = p} (a-later {d = d} l m t r e w) =
      accept-form d p a_later (omega arith) m ∙ assignment-at later p (record { below = l; byte = t; register = r; read = e; fits = w })
  accept-stmt {p = p} (a-sequence {d = d} l m a b) = accept-form d p a_sequence l m ∙ simp (accept-stmt a, accept-stmt b)
  accept-stmt {p = p} (an-if {d = d} l m e a) = accept-form d p an_if l m ∙ simp (e, accept-stmt a)
  accept-stmt {p = p} (an-if-else {d = d} l m e a b) = accept-form d p an_if_else l m ∙ simp (e, accept-stmt a, accept-stmt b)
  accept-stmt {p = p} (a-while {d = d} l m e a) = accept-form d p a_while l m ∙ simp (e, accept-stmt a)
  accept-stmt {p = p} (a-forever {d = d} l m a) = accept-form d p a_forever l m ∙ simp (accept-stmt a)
  accept-stmt {p = p} (a-wait {d = d} m n ts w) =
      let x = n.below in
      accept-form d p a_wait (omega arith) m ∙ simp (within-at 1 8 6 s (p + 1) n, accept-terms ts, w)
