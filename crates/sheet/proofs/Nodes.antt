-- The ways through the reader of expressions: one law for each.
use mathlib.Core.Path.{◌≡◌, refl}
use Prim.Native.Nat.{ℕ, zero, suc, ◌+◌, ◌-◌, ◌≤◌, ◌<◌}
use native.Mathlib.Numerals.{sub-one}
use mathlib.Core.List.{List, [], ◌∷◌}
use mathlib.Core.Bool.{true, false}
use lib.ListN.{length, get_or}
use borrow.Author.Tests.{eq-eqb, ne_eqb}
use Rattle.values.specs.Operators.{unary_width, binary_width}
use Rattle.sheet.specs.Reading.{Res, ok, no, ◌>>=◌, within}
use Rattle.sheet.specs.Expression.{Expr, variable, unknown, unary, binary, conditional, call, no_more, argument, no_function, Scope, Parsed, Kind, a_variable, an_unknown, a_unary, a_binary, a_conditional, a_call, kind_of, variable_at, function_at, Passed, arguments_at, same_widths, node, read_expr, tree, located}
use Rattle.sheet.specs.Answers.{expr_answer}
use Rattle.sheet.proofs.Reading.{byte-at, byte-end, bind_ok, ok-injective}
use Rattle.sheet.proofs.Expression.{derive, reads-after}

-- ---- kind_of

pub other-map : (c : Scope) (m p : ℕ) → (m ≡ 0x02 → ⊥) → (m ≡ 0x0C → ⊥) → (m ≡ 0x04 → ⊥) → (m ≡ 0x11 → ⊥) → (m ≡ 0x31 → ⊥) → (m ≡ 0x71 → ⊥)
    → (m ≡ 0x80 → ⊥) → kind_of c m p ≡ no 5 p
unfolding kind_of
other-map c m p a b d e f g h = simp (ne_eqb _ _ a, ne_eqb _ _ b, ne_eqb _ _ d, ne_eqb _ _ e, ne_eqb _ _ f, ne_eqb _ _ g, ne_eqb _ _ h)

pub no-calls : (c : Scope) (m p : ℕ) → m ≡ 0x80 → c.declared ≡ 0 → kind_of c m p ≡ no 5 p
unfolding kind_of
no-calls c m p e f = rw (e, f) refl

-- ---- read_expr, by its first byte

pub expr-end : (d : ℕ) (c : Scope) (s : List ℕ) (p : ℕ) → length s ≤ p → read_expr d c s p ≡ no 2 (length s)
unfolding read_expr
expr-end zero c s p h = simp (byte-end s p h)
expr-end (suc d) c s p h = simp (byte-end s p h)

pub expr-deep : (d : ℕ) (c : Scope) (s : List ℕ) (p : ℕ) → p < length s → d ≡ 0 → read_expr d c s p ≡ no 7 p
unfolding read_expr
expr-deep d c s p h e = rw e (simp (byte-at s p h))

pub expr-node : (d : ℕ) (c : Scope) (s : List ℕ) (p : ℕ) {k : Kind} → p < length s → (d ≡ 0 → ⊥) → kind_of c (get_or s p 0) p ≡ ok k
    → read_expr d c s p ≡ node (read_expr (d - 1) c s) c s p k
unfolding read_expr
expr-node zero c s p h n e = absurd (n refl)
expr-node (suc d) c s p h n e = simp (byte-at s p h, e, sub-one)

pub expr-no-kind : (d : ℕ) (c : Scope) (s : List ℕ) (p : ℕ) {n q : ℕ} → p < length s → (d ≡ 0 → ⊥) → kind_of c (get_or s p 0) p ≡ no n q
    → read_expr d c s p ≡ no n q
unfolding read_expr
expr-no-kind zero c s p h n e = absurd (n refl)
expr-no-kind (suc d) c s p h n e = simp (byte-at s p h, e)

-- ---- node, by its kind

module _ (operand : ℕ → Res (Parsed Expr)) (c : Scope) (s : List ℕ) (p : ℕ) where
  pub variable-name : {n q : ℕ} → variable_at c.widths s (p + 1) ≡ no n q → node operand c s p a_variable ≡ no n q
  unfolding node
  variable-name v = simp v

  pub variable-made : {v : ℕ} → variable_at c.widths s (p + 1) ≡ ok v
      → node operand c s p a_variable ≡ ok (record { item = variable v; width = get_or c.widths v 0; next = p + 2 })
  unfolding node
  variable-made v = simp v

  pub unknown-width : {n q : ℕ} → within 1 32 6 s (p + 1) ≡ no n q → node operand c s p an_unknown ≡ no n q
  unfolding node
  unknown-width w = simp w

  pub unknown-made : {w : ℕ} → within 1 32 6 s (p + 1) ≡ ok w
      → node operand c s p an_unknown ≡ ok (record { item = unknown w; width = w; next = p + 2 })
  unfolding node
  unknown-made w = simp w

  pub unary-operator : {n q : ℕ} → within 1 2 6 s (p + 1) ≡ no n q → node operand c s p a_unary ≡ no n q
  unfolding node
  unary-operator o = simp o

  pub unary-operand : {o n q : ℕ} → within 1 2 6 s (p + 1) ≡ ok o → operand (p + 2) ≡ no n q → node operand c s p a_unary ≡ no n q
  unfolding node
  unary-operand o a = simp (o, a)

  pub unary-made : {o : ℕ} {a : Parsed Expr} → within 1 2 6 s (p + 1) ≡ ok o → operand (p + 2) ≡ ok a
      → node operand c s p a_unary ≡ ok (record { item = unary o a.width a.item; width = unary_width o a.width; next = a.next })
  unfolding node
  unary-made o a = simp (o, a)

  pub binary-operator : {n q : ℕ} → within 3 9 6 s (p + 1) ≡ no n q → node operand c s p a_binary ≡ no n q
  unfolding node
  binary-operator o = simp o

  pub binary-first : {o n q : ℕ} → within 3 9 6 s (p + 1) ≡ ok o → operand (p + 2) ≡ no n q → node operand c s p a_binary ≡ no n q
  unfolding node
  binary-first o a = simp (o, a)

  pub binary-second : {o n q : ℕ} {a : Parsed Expr} → within 3 9 6 s (p + 1) ≡ ok o → operand (p + 2) ≡ ok a → operand a.next ≡ no n q
      → node operand c s p a_binary ≡ no n q
  unfolding node
  binary-second o a b = simp (o, a, b)

  pub binary-apart : {o : ℕ} {a b : Parsed Expr} → within 3 9 6 s (p + 1) ≡ ok o → operand (p + 2) ≡ ok a → operand a.next ≡ ok b
      → (a.width ≡ b.width → ⊥) → node operand c s p a_binary ≡ no 8 p
  unfolding node
  binary-apart o a b w = simp (o, a, b, ne_eqb _ _ w)

  pub binary-made : {o : ℕ} {a b : Parsed Expr} → within 3 9 6 s (p + 1) ≡ ok o → operand (p + 2) ≡ ok a → operand a.next ≡ ok b
      → a.width ≡ b.width
      → node operand c s p a_binary
      ≡ ok (record { item = binary o a.width a.item b.item; width = binary_width o a.width; next = b.next })
  unfolding node
  binary-made o a b w = simp (o, a, b, eq-eqb _ _ w)

  pub conditional-operator : {n q : ℕ} → within 10 10 6 s (p + 1) ≡ no n q → node operand c s p a_conditional ≡ no n q
  unfolding node
  conditional-operator o = simp o

  pub conditional-test : {o n q : ℕ} → within 10 10 6 s (p + 1) ≡ ok o → operand (p + 2) ≡ no n q → node operand c s p a_conditional ≡ no n q
  unfolding node
  conditional-test o t = simp (o, t)

  pub conditional-first : {o n q : ℕ} {t : Parsed Expr} → within 10 10 6 s (p + 1) ≡ ok o → operand (p + 2) ≡ ok t → operand t.next ≡ no n q
      → node operand c s p a_conditional ≡ no n q
  unfolding node
  conditional-first o t a = simp (o, t, a)

  pub conditional-second : {o n q : ℕ} {t a : Parsed Expr} → within 10 10 6 s (p + 1) ≡ ok o → operand (p + 2) ≡ ok t → operand t.next ≡ ok a
      → operand a.next ≡ no n q → node operand c s p a_conditional ≡ no n q
  unfolding node
  conditional-second o t a b = simp (o, t, a, b)

  pub conditional-apart : {o : ℕ} {t a b : Parsed Expr} → within 10 10 6 s (p + 1) ≡ ok o → operand (p + 2) ≡ ok t → operand t.next ≡ ok a
      → operand a.next ≡ ok b → (a.width ≡ b.width → ⊥) → node operand c s p a_conditional ≡ no 8 p
  unfolding node
  conditional-apart o t a b w = simp (o, t, a, b, ne_eqb _ _ w)

  pub conditional-made : {o : ℕ} {t a b : Parsed Expr} → within 10 10 6 s (p + 1) ≡ ok o → operand (p + 2) ≡ ok t → operand t.next ≡ ok a
      → operand a.next ≡ ok b → a.width ≡ b.width
      → node operand c s p a_conditional ≡ ok (record { item = conditional t.item a.item b.item; width = a.width; next = b.next })
  unfolding node
  conditional-made o t a b w = simp (o, t, a, b, eq-eqb _ _ w)

  pub call-function : {n q : ℕ} → function_at c s (p + 1) ≡ no n q → node operand c s p a_call ≡ no n q
  unfolding node
  call-function f = simp f

  module _ {f : ℕ} (named : function_at c s (p + 1) ≡ ok f) where
    abbrev ps : List ℕ
    ps = (get_or c.functions f no_function).parameters

    pub call-arguments : {n q : ℕ} → arguments_at operand (length ps) (p + 2) ≡ no n q → node operand c s p a_call ≡ no n q
    unfolding node
    call-arguments e = simp (named, e)

    pub call-apart : {es : Passed} → arguments_at operand (length ps) (p + 2) ≡ ok es → same_widths ps es.widths ≡ false
        → node operand c s p a_call ≡ no 8 p
    unfolding node
    call-apart e w = simp (named, e, w)

    pub call-made : {es : Passed} → arguments_at operand (length ps) (p + 2) ≡ ok es → same_widths ps es.widths ≡ true
        → node operand c s p a_call
        ≡ ok
        (record {
          item = call f (get_or c.functions f no_function).result es.items (get_or c.functions f no_function).body;
          width = (get_or c.functions f no_function).result;
          next = es.next;
        })
    unfolding node
    call-made e w = simp (named, e, w)

-- ---- arguments_at, for the parameters' widths

module _ (operand : ℕ → Res (Parsed Expr)) where
  pub arguments-none : (n p : ℕ) → n ≡ 0 → arguments_at operand n p ≡ ok (record { items = no_more; widths = []; next = p })
  unfolding arguments_at
  arguments-none n p e = rw e

  pub arguments-first : (n p : ℕ) {k q : ℕ} → (n ≡ 0 → ⊥) → operand p ≡ no k q → arguments_at operand n p ≡ no k q
  unfolding arguments_at
  arguments-first zero p h e = absurd (h refl)
  arguments-first (suc n) p h e = simp e

  pub arguments-rest : (n p : ℕ) {k q : ℕ} {e : Parsed Expr} → (n ≡ 0 → ⊥) → operand p ≡ ok e → arguments_at operand (n - 1) e.next ≡ no k q
      → arguments_at operand n p ≡ no k q
  unfolding arguments_at
  arguments-rest zero p h e r = absurd (h refl)
  arguments-rest (suc n) p h e r = simp (e, rw sub-one at r)

  pub arguments-made : (n p : ℕ) {e : Parsed Expr} {es : Passed} → (n ≡ 0 → ⊥) → operand p ≡ ok e → arguments_at operand (n - 1) e.next ≡ ok es
      → arguments_at operand n p ≡ ok (record { items = argument e.item es.items; widths = e.width ∷ es.widths; next = es.next })
  unfolding arguments_at
  arguments-made zero p h e r = absurd (h refl)
  arguments-made (suc n) p h e r = simp (e, rw sub-one at r)

-- ---- located

-- The answer does not tell how the expression is kept.
pub located-answer : (s : List ℕ) (c : Scope) (p : ℕ) → expr_answer (located s c p) ≡ expr_answer (read_expr 16 c s p)
unfolding located tree expr_answer
located-answer s c p = by (read_expr 16 c s p)
  where
    by : (x : Res (Parsed Expr)) → expr_answer (x >>= λ e. ok (record { item = p; width = e.width; next = e.next })) ≡ expr_answer x
    by (ok e) = refl
    by (no n q) = refl

-- It is kept as its place, and ends after its start and within the sheet.
pub record Kept (s : List ℕ) (p : ℕ) (e : Parsed ℕ) : Type 0 where
  pub place : e.item ≡ p
  pub later : p < e.next
  pub inside : e.next ≤ length s

pub located-kept : (s : List ℕ) (c : Scope) (p : ℕ) {e : Parsed ℕ} → located s c p ≡ ok e → Kept s p e
unfolding located tree
located-kept s c p h =
    let x = bind_ok (read_expr 16 c s p) _ h in
    let a = reads-after (derive c s 16 p x.1) in
    rw (← ok-injective x.2) (record { place = refl; later = a.0; inside = a.1 })
