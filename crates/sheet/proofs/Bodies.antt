-- The ways through the reader of bodies and of functions: one law for each; and the answers of both.
use mathlib.Core.Path.{◌≡◌, refl, sym, ◌∙◌}
use Prim.Native.Nat.{ℕ, zero, suc, ◌+◌, ◌-◌, ◌≤◌, ◌<◌}
use native.Mathlib.Omega.{arith}
use native.Mathlib.Numerals.{sub-one}
use mathlib.Core.List.{List}
use mathlib.Core.Bool.{true, false}
use mathlib.Core.Logic.{◌⊎◌, inl, inr}
use lib.ListN.{length, get_or, take, drop}
use borrow.Author.Tests.{eq-eqb, ne_eqb}
use Rattle.sheet.specs.Reading.{Res, ok, no, ◌>>=◌, within}
use Rattle.sheet.specs.Expression.{Expr, Body, result, in_turn, if_then, if_else, Function, Scope, Parsed, read_expr, located}
use Rattle.sheet.specs.Statement.{is_register, Form, an_assign, a_later, a_sequence, an_if, an_if_else, a_while, a_forever, a_wait, form_of}
use Rattle.sheet.specs.Functions.{read_widths, Bodied, body_form, read_body, body_scope, function_of, read_function}
use Rattle.sheet.specs.Answers.{expr_answer}
use Rattle.sheet.specs.Parts.{scope_of, body_answer, function_answer}
use Rattle.sheet.specs.declared.ExprRead as ExprRead
use Rattle.sheet.specs.declared.PlaceRead as PlaceRead
use Rattle.sheet.proofs.Reading.{byte-at, byte-end, within-ok}
use Rattle.sheet.proofs.Answers.{expr-read, expr-refused}
use Rattle.sheet.proofs.Nodes.{located-answer}
use Rattle.sheet.proofs.Forms.{form_map, map-form}
use Rattle.sheet.proofs.Sections.{widths-part}

-- ---- body_answer

pub body-read : {x : Res Bodied} {r : PlaceRead.PlaceRead} {n : ℕ} → r ≡ body_answer x → r ≡ PlaceRead.TheVariants.At n
    → (b : Body) × (x ≡ ok (record { body = b; next = n }))
unfolding body_answer
body-read {x = ok b} {n = n} p q = let e : b.next ≡ n = cc in (b.body, λ i. ok (record { body = b.body; next = e i }))
body-read {x = no m a} p q = let z : ◌≡◌ {A = ℕ} 0 1 = cc in absurd (omega arith)

pub body_refused : {x : Res Bodied} {r : PlaceRead.PlaceRead} {n a : ℕ} → r ≡ body_answer x → r ≡ PlaceRead.TheVariants.Refused n a → x ≡ no n a
unfolding body_answer
body_refused {x = ok b} p q = cc
body_refused {x = no m b} p q = cc

pub answer-body : {x : Res Bodied} {b : Bodied} → x ≡ ok b → PlaceRead.TheVariants.At b.next ≡ body_answer x
unfolding body_answer
answer-body h = rw h

pub answer-body-refused : {x : Res Bodied} {n p : ℕ} → x ≡ no n p → PlaceRead.TheVariants.Refused n p ≡ body_answer x
unfolding body_answer
answer-body-refused h = rw h

-- ---- an expression by its place has a tree

module _ (s : List ℕ) (c : Scope) (p : ℕ) {r : ExprRead.ExprRead} (found : r ≡ expr_answer (located s c p)) where
  pub tree-read : {n w : ℕ} → r ≡ ExprRead.TheVariants.Read n w → (e : Expr) × (read_expr 16 c s p ≡ ok (record { item = e; width = w; next = n }))
  tree-read h = expr-read (found ∙ located-answer s c p) h

  pub tree-refused : {n q : ℕ} → r ≡ ExprRead.TheVariants.Refused n q → read_expr 16 c s p ≡ no n q
  tree-refused h = expr-refused (found ∙ located-answer s c p) h

-- ---- read_body, by its first byte

module _ (c : Scope) (s : List ℕ) where
  pub body_end : (d p : ℕ) → length s ≤ p → read_body d c s p ≡ no 2 (length s)
  unfolding read_body
  body_end zero p h = simp (byte-end s p h)
  body_end (suc d) p h = simp (byte-end s p h)

  pub body-deep : (d p : ℕ) → p < length s → d ≡ 0 → read_body d c s p ≡ no 7 p
  unfolding read_body
  body-deep d p h e = rw e (simp (byte-at s p h))

  pub body-form : (d p : ℕ) {f : Form} → p < length s → (d ≡ 0 → ⊥) → form_of (get_or s p 0) p ≡ ok f
      → read_body d c s p ≡ body_form (read_body (d - 1) c s) c s p f
  unfolding read_body
  body-form zero p h n e = absurd (n refl)
  body-form (suc d) p h n e = simp (byte-at s p h, e, sub-one)

  pub body-no-form : (d p : ℕ) {n q : ℕ} → p < length s → (d ≡ 0 → ⊥) → form_of (get_or s p 0) p ≡ no n q → read_body d c s p ≡ no n q
  unfolding read_body
  body-no-form zero p h n e = absurd (n refl)
  body-no-form (suc d) p h n e = simp (byte-at s p h, e)

  -- "a body with a wait, loop or later assignment (45)"
  pub body-barred : (d p : ℕ) → p < length s → (d ≡ 0 → ⊥)
      → (get_or s p 0 ≡ 0x10) ⊎ ((get_or s p 0 ≡ 0x23) ⊎ ((get_or s p 0 ≡ 0x44) ⊎ (get_or s p 0 ≡ 0x46))) → read_body d c s p ≡ no 45 p
  unfolding body_form form_map
  body-barred d p h n (inl e) = body-form d p h n (map-form (get_or s p 0) p a_wait e)
  body-barred d p h n (inr (inl e)) = body-form d p h n (map-form (get_or s p 0) p a_later e)
  body-barred d p h n (inr (inr (inl e))) = body-form d p h n (map-form (get_or s p 0) p a_forever e)
  body-barred d p h n (inr (inr (inr e))) = body-form d p h n (map-form (get_or s p 0) p a_while e)

-- the maps of a body, and those that are barred from it
pub no-body-form : (m p : ℕ) → (m ≡ 0x00 → ⊥) → (m ≡ 0x03 → ⊥) → (m ≡ 0x0C → ⊥) → (m ≡ 0x06 → ⊥) → (m ≡ 0x0E → ⊥)
    → ((m ≡ 0x10) ⊎ ((m ≡ 0x23) ⊎ ((m ≡ 0x44) ⊎ (m ≡ 0x46))) → ⊥) → form_of m p ≡ no 5 p
unfolding form_of
no-body-form m p a b c d e f =
    let u = ne_eqb m 0x23 (λ q. f (inr (inl q))) in
    let v = ne_eqb m 0x46 (λ q. f (inr (inr (inr q)))) in
    let w = ne_eqb m 0x44 (λ q. f (inr (inr (inl q)))) in
    let x = ne_eqb m 0x10 (λ q. f (inl q)) in
    simp (ne_eqb _ _ a, ne_eqb _ _ b, u, ne_eqb _ _ c, ne_eqb _ _ d, ne_eqb _ _ e, v, w, x)

-- ---- body_form, by its form

-- What follows in a body gives the answer.
last-answer : (x : Res Bodied) (f : Bodied → Body) → body_answer (x >>= λ b. ok (record { body = f b; next = b.next })) ≡ body_answer x
unfolding body_answer
last-answer (ok b) f = refl
last-answer (no n p) f = refl

module _ (c : Scope) (s : List ℕ) (inner : ℕ → Res Bodied) (p : ℕ) where
  pub result-end : length s ≤ p + 1 → body_form inner c s p an_assign ≡ no 2 (length s)
  unfolding body_form
  result-end h = simp (byte-end s (p + 1) h)

  pub result-other : p + 1 < length s → is_register c (get_or s (p + 1) 0) ≡ false → body_form inner c s p an_assign ≡ no 9 (p + 1)
  unfolding body_form
  result-other h r = simp (byte-at s (p + 1) h, r)

  pub result-expr : {n q : ℕ} → p + 1 < length s → is_register c (get_or s (p + 1) 0) ≡ true → read_expr 16 c s (p + 2) ≡ no n q
      → body_form inner c s p an_assign ≡ no n q
  unfolding body_form
  result-expr h r e = simp (byte-at s (p + 1) h, r, e)

  pub result-apart : {e : Parsed Expr} → p + 1 < length s → is_register c (get_or s (p + 1) 0) ≡ true → read_expr 16 c s (p + 2) ≡ ok e
      → (e.width ≡ get_or c.widths (get_or s (p + 1) 0) 0 → ⊥) → body_form inner c s p an_assign ≡ no 8 p
  unfolding body_form
  result-apart h r e w = simp (byte-at s (p + 1) h, r, e, ne_eqb _ _ w)

  pub result-made : {e : Parsed Expr} → p + 1 < length s → is_register c (get_or s (p + 1) 0) ≡ true → read_expr 16 c s (p + 2) ≡ ok e
      → e.width ≡ get_or c.widths (get_or s (p + 1) 0) 0 → body_form inner c s p an_assign ≡ ok (record { body = result e.item; next = e.next })
  unfolding body_form
  result-made h r e w = simp (byte-at s (p + 1) h, r, e, eq-eqb _ _ w)

  pub turn-first : {n q : ℕ} → inner (p + 1) ≡ no n q → body_form inner c s p a_sequence ≡ no n q
  unfolding body_form
  turn-first a = simp a

  pub turn-made : {a : Bodied} → inner (p + 1) ≡ ok a → body_answer (inner a.next) ≡ body_answer (body_form inner c s p a_sequence)
  unfolding body_form
  turn-made {a} e = rw e (sym (last-answer (inner a.next) (λ b. in_turn a.body b.body)))

  pub if-test : {n q : ℕ} → read_expr 16 c s (p + 1) ≡ no n q → body_form inner c s p an_if ≡ no n q
  unfolding body_form
  if-test e = simp e

  pub if-made : {e : Parsed Expr} → read_expr 16 c s (p + 1) ≡ ok e → body_answer (inner e.next) ≡ body_answer (body_form inner c s p an_if)
  unfolding body_form
  if-made {e} h = rw h (sym (last-answer (inner e.next) (λ b. if_then e.item b.body)))

  pub else-test : {n q : ℕ} → read_expr 16 c s (p + 1) ≡ no n q → body_form inner c s p an_if_else ≡ no n q
  unfolding body_form
  else-test e = simp e

  pub else-first : {n q : ℕ} {e : Parsed Expr} → read_expr 16 c s (p + 1) ≡ ok e → inner e.next ≡ no n q → body_form inner c s p an_if_else ≡ no n q
  unfolding body_form
  else-first e a = simp (e, a)

  pub else-made : {e : Parsed Expr} {a : Bodied} → read_expr 16 c s (p + 1) ≡ ok e → inner e.next ≡ ok a
      → body_answer (inner a.next) ≡ body_answer (body_form inner c s p an_if_else)
  unfolding body_form
  else-made {e} {a} h g = rw (h, g) (sym (last-answer (inner a.next) (λ b. if_else e.item a.body b.body)))

-- ---- read_function

module _ (declared : ℕ) (earlier : List Function) (s : List ℕ) (p : ℕ) where
  pub function-count : {n q : ℕ} → within 1 4 3 s p ≡ no n q → PlaceRead.TheVariants.Refused n q ≡ function_answer (read_function declared earlier s p)
  unfolding read_function function_answer
  function-count e = rw e

  -- The widths are lent as a part of the sheet, up to the body.
  module _ {k : ℕ} (count : within 1 4 3 s p ≡ ok k) where
    all : p + 2 + k - (p + 1) ≡ k + 1
    all = omega arith

    pub function-widths : {n q : ℕ} → read_widths (p + 2 + k - (p + 1)) s (p + 1) ≡ no n q
        → PlaceRead.TheVariants.Refused n q ≡ function_answer (read_function declared earlier s p)
    unfolding read_function function_answer
    function-widths w = rw (count, ← all, w)

    pub widths-inside : {ws : List ℕ} → read_widths (p + 2 + k - (p + 1)) s (p + 1) ≡ ok ws → p + 2 + k ≤ length s
    widths-inside w =
        let x = (within-ok 1 4 3 s p count).below in
        let y = (widths-part (p + 2 + k - (p + 1)) s (p + 1) (omega arith) w).1 in
        omega arith

    pub function-made : {ws : List ℕ} → read_widths (p + 2 + k - (p + 1)) s (p + 1) ≡ ok ws
        → body_answer (read_body 64 (scope_of k 1 (take (p + 2 + k - (p + 1)) (drop (p + 1) s)) declared earlier) s (p + 2 + k))
        ≡ function_answer (read_function declared earlier s p)
    unfolding read_function function_answer body_scope body_answer
    function-made {ws} w =
        let x = (within-ok 1 4 3 s p count).below in
        let part : ws ≡ take (p + 2 + k - (p + 1)) (drop (p + 1) s) = (widths-part (p + 2 + k - (p + 1)) s (p + 1) (omega arith) w).0 in
        rw (← part, count, ← all, w) (by (read_body 64 (scope_of k 1 ws declared earlier) s (p + 2 + k)))
      where
        by : (x : Res Bodied) → body_answer x ≡ function_answer (x >>= λ b. ok (record { function = function_of k ws b.body; next = b.next }))
        by (ok b) = refl
        by (no n q) = refl
