-- The ways through the reader of statements: one law for each; and where a statement ends, with how many instructions.
use mathlib.Core.Path.{◌≡◌, refl, ap, ◌∙◌}
use Prim.Native.Nat.{ℕ, zero, suc, ◌+◌, ◌-◌, ◌*◌, ◌≤◌, ◌<◌}
use native.Mathlib.Omega.{arith}
use native.Mathlib.Numerals.{sub-one}
use mathlib.Core.List.{List, [], ◌∷◌}
use mathlib.Core.Bool.{Bool, true, false}
use mathlib.Core.Logic.{◌⊎◌, inl, inr}
use lib.ListN.{length, get_or}
use lib.Dec.{eqb}
use borrow.Author.Tests.{eq-eqb, ne_eqb}
use Rattle.values.specs.declared.Edge.{Edge}
use Rattle.values.specs.Edges.{edge_of}
use Rattle.sheet.specs.declared.EdgeTerm.{EdgeTerm}
use Rattle.sheet.specs.Reading.{Res, ok, no, ◌>>=◌, ◌>>◌, check, byte_at, within}
use Rattle.sheet.specs.Expression.{Parsed, Scope, variable_at, located}
use Rattle.sheet.specs.Statement.{empty, assign, sequence, if_then, if_else, while, forever, wait, size, is_register, Body, read_terms, narrow, narrow_all, Form, an_empty, an_assign, a_later, a_sequence, an_if, an_if_else, a_while, a_forever, a_wait, form_of, assignment, form, read_stmt}
use Rattle.sheet.specs.Answers.{stmt_answer}
use Rattle.sheet.proofs.Reading.{no≢ok, ok-injective, bind_ok, check-ok, byte-ok, byte-at, byte-end, within-ok}
use Rattle.sheet.proofs.Expression.{variable-ok}
use Rattle.sheet.proofs.Nodes.{located-kept}

-- ---- form_of

unfoldable pub form_map : Form → ℕ
form_map an_empty = 0x00
form_map an_assign = 0x03
form_map a_later = 0x23
form_map a_sequence = 0x0C
form_map an_if = 0x06
form_map an_if_else = 0x0E
form_map a_while = 0x46
form_map a_forever = 0x44
form_map a_wait = 0x10

pub map-form : (m p : ℕ) (f : Form) → m ≡ form_map f → form_of m p ≡ ok f
unfolding form_of form_map
map-form m p an_empty e = rw e refl
map-form m p an_assign e = rw e refl
map-form m p a_later e = rw e refl
map-form m p a_sequence e = rw e refl
map-form m p an_if e = rw e refl
map-form m p an_if_else e = rw e refl
map-form m p a_while e = rw e refl
map-form m p a_forever e = rw e refl
map-form m p a_wait e = rw e refl

pub no-form : (m p : ℕ) → (m ≡ 0x00 → ⊥) → ((m ≡ 0x03) ⊎ (m ≡ 0x23) → ⊥) → (m ≡ 0x0C → ⊥) → (m ≡ 0x06 → ⊥) → (m ≡ 0x0E → ⊥) → (m ≡ 0x46 → ⊥)
    → (m ≡ 0x44 → ⊥) → (m ≡ 0x10 → ⊥) → form_of m p ≡ no 5 p
unfolding form_of
no-form m p a b c d e f g h =
    let x = ne_eqb m 0x03 (λ q. b (inl q)) in
    let y = ne_eqb m 0x23 (λ q. b (inr q)) in
    simp (ne_eqb _ _ a, x, y, ne_eqb _ _ c, ne_eqb _ _ d, ne_eqb _ _ e, ne_eqb _ _ f, ne_eqb _ _ g, ne_eqb _ _ h)

-- ---- read_terms

module _ (ws s : List ℕ) where
  pub terms-none : (n at : ℕ) → n ≡ 0 → read_terms n ws s at ≡ ok []
  unfolding read_terms
  terms-none n at e = rw e

  pub terms-edge : (n at : ℕ) {k q : ℕ} → (n ≡ 0 → ⊥) → within 0 2 6 s at ≡ no k q → read_terms n ws s at ≡ no k q
  unfolding read_terms
  terms-edge zero at h e = absurd (h refl)
  terms-edge (suc n) at h e = simp e

  pub terms-variable : (n at : ℕ) {x k q : ℕ} → (n ≡ 0 → ⊥) → within 0 2 6 s at ≡ ok x → variable_at ws s (at + 1) ≡ no k q
      → read_terms n ws s at ≡ no k q
  unfolding read_terms
  terms-variable zero at h e v = absurd (h refl)
  terms-variable (suc n) at h e v = simp (e, v)

  pub terms-rest : (n at : ℕ) {x y k q : ℕ} → (n ≡ 0 → ⊥) → within 0 2 6 s at ≡ ok x → variable_at ws s (at + 1) ≡ ok y
      → read_terms (n - 1) ws s (at + 2) ≡ no k q → read_terms n ws s at ≡ no k q
  unfolding read_terms
  terms-rest zero at h e v r = absurd (h refl)
  terms-rest (suc n) at h e v r = simp (e, v, rw sub-one at r)

  pub terms-made : (n at : ℕ) {x y : ℕ} {edge : Edge} {ts : List EdgeTerm} → (n ≡ 0 → ⊥) → within 0 2 6 s at ≡ ok x → variable_at ws s (at + 1) ≡ ok y
      → read_terms (n - 1) ws s (at + 2) ≡ ok ts → edge ≡ edge_of x
      → read_terms n ws s at ≡ ok (record { edge = edge; variable = y } ∷ ts)
  unfolding read_terms
  terms-made zero at h e v r d = absurd (h refl)
  terms-made (suc n) at h e v r d = simp (e, v, rw sub-one at r, d)

  -- Each pair is two bytes of the sheet.
  pub terms-inside : (n at : ℕ) {ts : List EdgeTerm} → at ≤ length s → read_terms n ws s at ≡ ok ts → at + 2 * n ≤ length s
  unfolding read_terms
  terms-inside zero at l h = omega arith
  terms-inside (suc n) at l h =
      let e = bind_ok (within 0 2 6 s at) _ h in
      let v = bind_ok (variable_at ws s (at + 1)) _ e.2 in
      let t = bind_ok (read_terms n ws s (at + 2)) _ v.2 in
      let b = (variable-ok ws s (at + 1) v.1).0 in
      let r = terms-inside n (at + 2) (omega arith) t.1 in
      omega arith

pub narrow-more : (ws : List ℕ) (t : EdgeTerm) (ts : List EdgeTerm) {b : Bool} → narrow ws t ≡ true → b ≡ narrow_all ws ts
    → b ≡ narrow_all ws (t ∷ ts)
unfolding narrow_all
narrow-more ws t ts e h = rw e h

pub wide-more : (ws : List ℕ) (t : EdgeTerm) (ts : List EdgeTerm) → narrow ws t ≡ false → false ≡ narrow_all ws (t ∷ ts)
unfolding narrow_all
wide-more ws t ts e = rw e

-- ---- read_stmt, by its first byte

module _ {E : Type 0} (expr : Scope → ℕ → Res (Parsed E)) (c : Scope) (s : List ℕ) where
  pub stmt-end : (d p : ℕ) → length s ≤ p → read_stmt expr c s d p ≡ no 2 (length s)
  unfolding read_stmt
  stmt-end zero p h = simp (byte-end s p h)
  stmt-end (suc d) p h = simp (byte-end s p h)

  pub stmt-deep : (d p : ℕ) → p < length s → d ≡ 0 → read_stmt expr c s d p ≡ no 7 p
  unfolding read_stmt
  stmt-deep d p h e = rw e (simp (byte-at s p h))

  pub stmt-form : (d p : ℕ) {f : Form} → p < length s → (d ≡ 0 → ⊥) → form_of (get_or s p 0) p ≡ ok f
      → read_stmt expr c s d p ≡ form expr c s (read_stmt expr c s (d - 1)) p f
  unfolding read_stmt
  stmt-form zero p h n e = absurd (n refl)
  stmt-form (suc d) p h n e = simp (byte-at s p h, e, sub-one)

  pub stmt-no-form : (d p : ℕ) {n q : ℕ} → p < length s → (d ≡ 0 → ⊥) → form_of (get_or s p 0) p ≡ no n q → read_stmt expr c s d p ≡ no n q
  unfolding read_stmt
  stmt-no-form zero p h n e = absurd (n refl)
  stmt-no-form (suc d) p h n e = simp (byte-at s p h, e)

-- ---- form, by its form

module _ {E : Type 0} (expr : Scope → ℕ → Res (Parsed E)) (c : Scope) (s : List ℕ) (inner : ℕ → Res (Body E)) (p : ℕ) where
  pub empty-made : form expr c s inner p an_empty ≡ ok (record { stmt = empty; next = p + 1 })
  unfolding form
  empty-made = refl

  pub assign_end : length s ≤ p + 1 → form expr c s inner p an_assign ≡ no 2 (length s)
  unfolding form assignment
  assign_end h = simp (byte-end s (p + 1) h)

  pub assign_other : p + 1 < length s → is_register c (get_or s (p + 1) 0) ≡ false → form expr c s inner p an_assign ≡ no 9 (p + 1)
  unfolding form assignment
  assign_other h r = simp (byte-at s (p + 1) h, r)

  pub assign-expr : {n q : ℕ} → p + 1 < length s → is_register c (get_or s (p + 1) 0) ≡ true → expr c (p + 2) ≡ no n q
      → form expr c s inner p an_assign ≡ no n q
  unfolding form assignment
  assign-expr h r e = simp (byte-at s (p + 1) h, r, e)

  pub assign-apart : {e : Parsed E} → p + 1 < length s → is_register c (get_or s (p + 1) 0) ≡ true → expr c (p + 2) ≡ ok e
      → (e.width ≡ get_or c.widths (get_or s (p + 1) 0) 0 → ⊥) → form expr c s inner p an_assign ≡ no 8 p
  unfolding form assignment
  assign-apart h r e w = simp (byte-at s (p + 1) h, r, e, ne_eqb _ _ w)

  pub assign-made : {e : Parsed E} → p + 1 < length s → is_register c (get_or s (p + 1) 0) ≡ true → expr c (p + 2) ≡ ok e
      → e.width ≡ get_or c.widths (get_or s (p + 1) 0) 0
      → form expr c s inner p an_assign ≡ ok (record { stmt = assign (get_or s (p + 1) 0) e.item; next = e.next })
  unfolding form assignment
  assign-made h r e w = simp (byte-at s (p + 1) h, r, e, eq-eqb _ _ w)

  pub sequence-first : {n q : ℕ} → inner (p + 1) ≡ no n q → form expr c s inner p a_sequence ≡ no n q
  unfolding form
  sequence-first a = simp a

  pub sequence-second : {n q : ℕ} {a : Body E} → inner (p + 1) ≡ ok a → inner a.next ≡ no n q → form expr c s inner p a_sequence ≡ no n q
  unfolding form
  sequence-second a b = simp (a, b)

  pub sequence-made : {a b : Body E} → inner (p + 1) ≡ ok a → inner a.next ≡ ok b
      → form expr c s inner p a_sequence ≡ ok (record { stmt = sequence a.stmt b.stmt; next = b.next })
  unfolding form
  sequence-made a b = simp (a, b)

  pub if-test : {n q : ℕ} → expr c (p + 1) ≡ no n q → form expr c s inner p an_if ≡ no n q
  unfolding form
  if-test e = simp e

  pub if-body : {n q : ℕ} {e : Parsed E} → expr c (p + 1) ≡ ok e → inner e.next ≡ no n q → form expr c s inner p an_if ≡ no n q
  unfolding form
  if-body e a = simp (e, a)

  pub if-made : {e : Parsed E} {a : Body E} → expr c (p + 1) ≡ ok e → inner e.next ≡ ok a
      → form expr c s inner p an_if ≡ ok (record { stmt = if_then e.item a.stmt; next = a.next })
  unfolding form
  if-made e a = simp (e, a)

  pub else-test : {n q : ℕ} → expr c (p + 1) ≡ no n q → form expr c s inner p an_if_else ≡ no n q
  unfolding form
  else-test e = simp e

  pub else-first : {n q : ℕ} {e : Parsed E} → expr c (p + 1) ≡ ok e → inner e.next ≡ no n q → form expr c s inner p an_if_else ≡ no n q
  unfolding form
  else-first e a = simp (e, a)

  pub else-second : {n q : ℕ} {e : Parsed E} {a : Body E} → expr c (p + 1) ≡ ok e → inner e.next ≡ ok a → inner a.next ≡ no n q
      → form expr c s inner p an_if_else ≡ no n q
  unfolding form
  else-second e a b = simp (e, a, b)

  pub else-made : {e : Parsed E} {a b : Body E} → expr c (p + 1) ≡ ok e → inner e.next ≡ ok a → inner a.next ≡ ok b
      → form expr c s inner p an_if_else ≡ ok (record { stmt = if_else e.item a.stmt b.stmt; next = b.next })
  unfolding form
  else-made e a b = simp (e, a, b)

  pub while-test : {n q : ℕ} → expr c (p + 1) ≡ no n q → form expr c s inner p a_while ≡ no n q
  unfolding form
  while-test e = simp e

  pub while-body : {n q : ℕ} {e : Parsed E} → expr c (p + 1) ≡ ok e → inner e.next ≡ no n q → form expr c s inner p a_while ≡ no n q
  unfolding form
  while-body e a = simp (e, a)

  pub while-made : {e : Parsed E} {a : Body E} → expr c (p + 1) ≡ ok e → inner e.next ≡ ok a
      → form expr c s inner p a_while ≡ ok (record { stmt = while e.item a.stmt; next = a.next })
  unfolding form
  while-made e a = simp (e, a)

  pub forever-body : {n q : ℕ} → inner (p + 1) ≡ no n q → form expr c s inner p a_forever ≡ no n q
  unfolding form
  forever-body a = simp a

  pub forever-made : {a : Body E} → inner (p + 1) ≡ ok a
      → form expr c s inner p a_forever ≡ ok (record { stmt = forever a.stmt; next = a.next })
  unfolding form
  forever-made a = simp a

  pub wait-count : {n q : ℕ} → within 1 8 6 s (p + 1) ≡ no n q → form expr c s inner p a_wait ≡ no n q
  unfolding form
  wait-count k = simp k

  pub wait-terms : {k n q : ℕ} → within 1 8 6 s (p + 1) ≡ ok k → read_terms k c.widths s (p + 2) ≡ no n q → form expr c s inner p a_wait ≡ no n q
  unfolding form
  wait-terms k t = simp (k, t)

  pub wait-wide : {k : ℕ} {ts : List EdgeTerm} → within 1 8 6 s (p + 1) ≡ ok k → read_terms k c.widths s (p + 2) ≡ ok ts
      → narrow_all c.widths ts ≡ false → form expr c s inner p a_wait ≡ no 8 p
  unfolding form
  wait-wide k t w = simp (k, t, w)

  pub wait-made : {k : ℕ} {ts : List EdgeTerm} → within 1 8 6 s (p + 1) ≡ ok k → read_terms k c.widths s (p + 2) ≡ ok ts
      → narrow_all c.widths ts ≡ true → form expr c s inner p a_wait ≡ ok (record { stmt = wait ts; next = p + 2 + 2 * k })
  unfolding form
  wait-made k t w = simp (k, t, w)

-- ---- the two assignments have one answer

module _ {E A : Type 0} where
  bind-answer : (x : Res A) (f g : A → Res (Body E)) → ((a : A) → stmt_answer (f a) ≡ stmt_answer (g a)) → stmt_answer (x >>= f) ≡ stmt_answer (x >>= g)
  bind-answer (ok a) f g h = h a
  bind-answer (no n p) f g h = refl

check-answer : {E : Type 0} (t : Bool) (n p : ℕ) (r q : Res (Body E)) → stmt_answer r ≡ stmt_answer q
    → stmt_answer (check t n p >> r) ≡ stmt_answer (check t n p >> q)
check-answer true n p r q h = h
check-answer false n p r q h = refl

later-answer : {E : Type 0} (expr : Scope → ℕ → Res (Parsed E)) (c : Scope) (s : List ℕ) (inner : ℕ → Res (Body E)) (p : ℕ)
    → stmt_answer (form expr c s inner p a_later) ≡ stmt_answer (form expr c s inner p an_assign)
unfolding form assignment stmt_answer size
later-answer expr c s inner p =
    bind-answer (byte_at s (p + 1)) _ _
    (λ t. check-answer (is_register c t) 9 (p + 1) _ _
    (bind-answer (expr c (p + 2)) _ _
    (λ e. check-answer (eqb e.width (get_or c.widths t 0)) 8 p _ _ refl)))

pub stmt-assign : {E : Type 0} (expr : Scope → ℕ → Res (Parsed E)) (c : Scope) (s : List ℕ) (d p : ℕ) (inner : ℕ → Res (Body E)) → p < length s
    → (d ≡ 0 → ⊥) → (get_or s p 0 ≡ 0x03) ⊎ (get_or s p 0 ≡ 0x23)
    → stmt_answer (read_stmt expr c s d p) ≡ stmt_answer (form expr c s inner p an_assign)
unfolding form form_map
stmt-assign expr c s d p inner h n (inl e) = ap stmt_answer (stmt-form expr c s d p h n (map-form (get_or s p 0) p an_assign e))
stmt-assign expr c s d p inner h n (inr e) =
    ap stmt_answer (stmt-form expr c s d p h n (map-form (get_or s p 0) p a_later e)) ∙ later-answer expr c s (read_stmt expr c s (d - 1)) p

-- ---- a statement ends after its start and within the sheet, and has fewer instructions than bytes

pub record Ended {E : Type 0} (s : List ℕ) (p : ℕ) (b : Body E) : Type 0 where
  pub inside : b.next ≤ length s
  pub few : size b.stmt + p < b.next

module _ {E : Type 0} (expr : Scope → ℕ → Res (Parsed E)) (c : Scope) (s : List ℕ)
    (bound : (p : ℕ) (e : Parsed E) → expr c p ≡ ok e → (p < e.next) × (e.next ≤ length s)) where
  form-ended : (inner : ℕ → Res (Body E)) → ((p : ℕ) (b : Body E) → inner p ≡ ok b → Ended s p b) → (p : ℕ) (f : Form) {b : Body E} → p < length s
      → form expr c s inner p f ≡ ok b → Ended s p b
  unfolding form assignment size
  form-ended inner ih p an_empty l h = rw (← ok-injective h) (record { inside = omega arith; few = omega arith })
  form-ended inner ih p an_assign l h =
      let t = bind_ok (byte_at s (p + 1)) _ h in
      let r = check-ok (is_register c t.0) 9 (p + 1) _ t.2 in
      let e = bind_ok (expr c (p + 2)) _ r.1 in
      let w = check-ok (eqb e.0.width (get_or c.widths t.0 0)) 8 p _ e.2 in
      let x = bound (p + 2) e.0 e.1 in
      rw (← ok-injective w.1) (record { inside = omega arith; few = omega arith })
  form-ended inner ih p a_later l h =
      let t = bind_ok (byte_at s (p + 1)) _ h in
      let r = check-ok (is_register c t.0) 9 (p + 1) _ t.2 in
      let e = bind_ok (expr c (p + 2)) _ r.1 in
      let w = check-ok (eqb e.0.width (get_or c.widths t.0 0)) 8 p _ e.2 in
      let x = bound (p + 2) e.0 e.1 in
      rw (← ok-injective w.1) (record { inside = omega arith; few = omega arith })
  form-ended inner ih p a_sequence l h =
      let a = bind_ok (inner (p + 1)) _ h in
      let b = bind_ok (inner a.0.next) _ a.2 in
      let x = ih (p + 1) a.0 a.1 in
      let y = ih a.0.next b.0 b.1 in
      rw (← ok-injective b.2) (record { inside = omega arith; few = omega arith })
  form-ended inner ih p an_if l h =
      let e = bind_ok (expr c (p + 1)) _ h in
      let a = bind_ok (inner e.0.next) _ e.2 in
      let z = bound (p + 1) e.0 e.1 in
      let x = ih e.0.next a.0 a.1 in
      rw (← ok-injective a.2) (record { inside = omega arith; few = omega arith })
  form-ended inner ih p an_if_else l h =
      let e = bind_ok (expr c (p + 1)) _ h in
      let a = bind_ok (inner e.0.next) _ e.2 in
      let b = bind_ok (inner a.0.next) _ a.2 in
      let z = bound (p + 1) e.0 e.1 in
      let x = ih e.0.next a.0 a.1 in
      let y = ih a.0.next b.0 b.1 in
      rw (← ok-injective b.2) (record { inside = omega arith; few = omega arith })
  form-ended inner ih p a_while l h =
      let e = bind_ok (expr c (p + 1)) _ h in
      let a = bind_ok (inner e.0.next) _ e.2 in
      let z = bound (p + 1) e.0 e.1 in
      let x = ih e.0.next a.0 a.1 in
      rw (← ok-injective a.2) (record { inside = omega arith; few = omega arith })
  form-ended inner ih p a_forever l h =
      let a = bind_ok (inner (p + 1)) _ h in
      let x = ih (p + 1) a.0 a.1 in
      rw (← ok-injective a.2) (record { inside = omega arith; few = omega arith })
  form-ended inner ih p a_wait l h =
      let n = bind_ok (within 1 8 6 s (p + 1)) _ h in
      let t = bind_ok (read_terms n.0 c.widths s (p + 2)) _ n.2 in
      let w = check-ok (narrow_all c.widths t.0) 8 p _ t.2 in
      let x = within-ok 1 8 6 s (p + 1) n.1 in
      let y = terms-inside c.widths s n.0 (p + 2) (omega arith) t.1 in
      rw (← ok-injective w.1) (record { inside = omega arith; few = omega arith })

  pub stmt-ended : (d p : ℕ) {b : Body E} → read_stmt expr c s d p ≡ ok b → Ended s p b
  unfolding read_stmt
  stmt-ended zero p h = absurd (no≢ok (bind_ok (byte_at s p) _ h).2)
  stmt-ended (suc d) p h =
      let m = bind_ok (byte_at s p) _ h in
      let f = bind_ok (form_of m.0 p) _ m.2 in
      form-ended (read_stmt expr c s d) (λ q b e. stmt-ended d q e) p f.0 (byte-ok s p m.1).0 f.2

pub read-ended : (s : List ℕ) (c : Scope) (d p : ℕ) {b : Body ℕ} → read_stmt (located s) c s d p ≡ ok b → Ended s p b
read-ended s c = stmt-ended (located s) c s (λ p e h. let k = located-kept s c p h in (k.later, k.inside))
