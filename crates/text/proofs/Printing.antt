-- Laws of the text over any bytes: the ways through its definitions, and that it is the tree's text where an expression
-- was read.
use mathlib.Core.Path.{◌≡◌, refl, sym, ap, ◌∙◌}
use Prim.Native.Nat.{ℕ, zero, suc, ◌+◌, ◌-◌, ◌≤◌, ◌<◌, min}
use native.Mathlib.Numerals.{sub-one, add-one}
use native.Mathlib.Omega.{arith}
use mathlib.Core.List.{List, [], ◌∷◌, ◌++◌, append-nil}
use mathlib.Core.Bool.{Bool, true, false}
use lib.ListN.{length, get_or, drop, get_or-eq_default, length-take}
use lib.Seq.{drop-cons, get_or-take}
use lib.Dec.{eqb}
use borrow.Author.Tests.{lt-ltb, le-ltb, ne_eqb}
use Rattle.values.specs.Values.{pick}
use Rattle.sheet.specs.declared.EdgeTerm.{EdgeTerm}
use Rattle.sheet.specs.Reading.{word_of}
use Rattle.sheet.specs.Expression.{Expr, Scope, Parsed, Passed}
use Rattle.sheet.proofs.Expression.{Reads, a-variable, a-constant, an-unknown, a-unary, a-binary, a-conditional, a-call, ReadsAll, no_arguments, an-argument}
use Rattle.pseudocode.specs.Skipping.{argument_count}
use Rattle.pseudocode.proofs.Skipping.{arguments-most, Counted}
use Rattle.pseudocode.specs.declared.EdgeTerms.{EdgeTerms}
use Rattle.pseudocode.specs.Instruction.{no_term}
use Rattle.text.specs.declared.Printed.{Printed}
use Rattle.writing.specs.Ascii.{byte}
use Rattle.writing.specs.Numbers.{decimal}
use Rattle.writing.specs.Buffer.{Text, filled, puts}
use Rattle.text.specs.Listing.{◌␣◌, show_expr, show_all, show_term, show_terms}
use Rattle.text.specs.Printing.{Shown, shown, Prints, operands_of, mark_of, behind, operands_at, node_at, shown_at, text_at, all_terms, term_list}
use Rattle.writing.proofs.Buffer.{both, puts-nil, puts-append}

-- ---- Prints

-- A text that was written.
pub prints : {q : Shown} (before : Text) (r : Printed) (after : List ℕ) (t : List ℕ) → q ≡ shown r.next t
    → filled after r.pos ≡ puts before t → Prints q before r after
prints before r after t e p =
    record { place = sym (ap (λ x. x.next) e); bytes = p ∙ ap (λ x. puts before x.text) (sym e) }

-- Nothing written.
pub prints-none : {q : Shown} (bytes : List ℕ) (r : Printed) → q ≡ shown r.next []
    → Prints q (filled bytes r.pos) r bytes
prints-none bytes r e = prints _ r bytes [] e (sym (puts-nil _))

-- A text written in front of what is printed then.
pub prints-behind : {q : Shown} (before between : Text) (r : Printed) (after : List ℕ) (t : List ℕ) (rest : Shown)
    → q ≡ behind t rest → between ≡ puts before t → Prints rest between r after → Prints q before r after
unfolding behind
prints-behind before between r after t rest e p w =
    record {
      place = w.place ∙ sym (ap (λ x. x.next) e);
      bytes = both before between _ t rest.text p w.bytes ∙ ap (λ x. puts before x.text) (sym e);
    }

-- ---- operands_of

pub operands-few : (s ds : List ℕ) (m b : ℕ) → operands_of s ds m b ≤ 4
unfolding operands_of
operands-few s ds m b = few (eqb m 0x11) (eqb m 0x31) (eqb m 0x71) (eqb m 0x80)
  where
    few : (x y z w : Bool) → pick x 1 (pick y 2 (pick z 3 (pick w (argument_count s ds b) 0))) ≤ 4
    few true y z w = omega arith
    few false true z w = omega arith
    few false false true w = omega arith
    few false false false true = arguments-most s ds b
    few false false false false = omega arith

-- ---- operands_at

module _ (operand : ℕ → Shown) where
  pub operands-none : (n p : ℕ) → n ≡ 0 → operands_at operand n p ≡ shown p []
  unfolding operands_at
  operands-none n p e = rw e

  pub operands-more : (n p : ℕ) → (n ≡ 0 → ⊥)
      → operands_at operand n p ≡ behind ([] ␣ (operand p).text) (operands_at operand (n - 1) (operand p).next)
  unfolding operands_at
  operands-more zero p h = absurd (h refl)
  operands-more (suc n) p h = rw sub-one

  -- One operand and those after it, by what is shown.
  operands-suc : (k p : ℕ) {a : Shown} → operand p ≡ a
      → operands_at operand (suc k) p ≡ behind ([] ␣ a.text) (operands_at operand k a.next)
  unfolding operands_at
  operands-suc k p e = ap (λ x. behind ([] ␣ x.text) (operands_at operand k x.next)) e

  pub operands-one : (p : ℕ) {n : ℕ} {t : List ℕ} → operand p ≡ shown n t
      → operands_at operand 1 p ≡ shown n ([] ␣ t)
  unfolding operands_at behind
  operands-one p {n} {t} e = operands-suc 0 p e ∙ ap (λ x. shown n ([] ␣ x)) (append-nil t)

  pub operands-two : (p : ℕ) {n m : ℕ} {t u : List ℕ} → operand p ≡ shown n t → operand n ≡ shown m u
      → operands_at operand 2 p ≡ shown m ([] ␣ t ␣ u)
  unfolding behind
  operands-two p {n} {t = t} e f = operands-suc 1 p e ∙ ap (λ x. behind ([] ␣ t) x) (operands-one n f)

  pub operands-three : (p : ℕ) {n m k : ℕ} {t u v : List ℕ} → operand p ≡ shown n t → operand n ≡ shown m u
      → operand m ≡ shown k v
      → operands_at operand 3 p ≡ shown k ([] ␣ t ␣ u ␣ v)
  unfolding behind
  operands-three p {n} {t = t} e f g = operands-suc 2 p e ∙ ap (λ x. behind ([] ␣ t) x) (operands-two n f g)

  -- ---- node_at

  module _ (s ds : List ℕ) (p m b : ℕ) where
    pub node-variable : m ≡ 0x02 → node_at operand s ds p m b ≡ shown (p + 2) (byte "v" ∷ decimal b)
    unfolding node_at
    node-variable e = rw e

    pub node-constant : m ≡ 0x0C
        → node_at operand s ds p m b ≡ shown (p + 6) (byte "c" ∷ (decimal b ++ (byte ":" ∷ decimal (word_of s (p + 2)))))
    unfolding node_at
    node-constant e = rw e

    pub node-unknown : m ≡ 0x04 → node_at operand s ds p m b ≡ shown (p + 2) (byte "u" ∷ decimal b)
    unfolding node_at
    node-unknown e = rw e

    pub node-operator : (m ≡ 0x02 → ⊥) → (m ≡ 0x0C → ⊥) → (m ≡ 0x04 → ⊥)
        → node_at operand s ds p m b ≡ behind (mark_of m ∷ decimal b) (operands_at operand (operands_of s ds m b) (p + 2))
    unfolding node_at
    node-operator x y z = simp (ne_eqb m 0x02 x, ne_eqb m 0x0C y, ne_eqb m 0x04 z)

-- ---- shown_at

module _ (s ds : List ℕ) where
  pub shown-deep : (d p : ℕ) → d ≡ 0 → shown_at d s ds p ≡ shown p []
  unfolding shown_at
  shown-deep d p e = rw e

  pub shown-end : (d p : ℕ) → length s ≤ p → shown_at d s ds p ≡ shown p []
  unfolding shown_at
  shown-end zero p h = refl
  shown-end (suc d) p h = simp (le-ltb p (length s) h)

  -- A node that is there, its map and the byte after it.
  pub record Node (p m b : ℕ) : Type 0 where
    pub inside : p < length s
    pub map : m ≡ get_or s p 0
    pub after : b ≡ get_or s (p + 1) 0

  pub shown-suc : (d p m b : ℕ) → Node p m b → shown_at (suc d) s ds p ≡ node_at (shown_at d s ds) s ds p m b
  unfolding shown_at
  shown-suc d p m b h = rw (h.map, h.after) (simp (lt-ltb p (length s) h.inside))

  pub shown-node : (d p m b : ℕ) → (d ≡ 0 → ⊥) → Node p m b → shown_at d s ds p ≡ node_at (shown_at (d - 1) s ds) s ds p m b
  shown-node zero p m b z h = absurd (z refl)
  shown-node (suc d) p m b z h = rw sub-one (shown-suc d p m b h)

-- ---- an expression that was read

module _ (c : Scope) (s ds : List ℕ) (counted : Counted s ds c.functions) where
  -- A call's arguments, where each of them is shown as its tree.
  shown-all : {d : ℕ} → ((p : ℕ) (q : Parsed Expr) → Reads c s d p q → shown_at d s ds p ≡ shown q.next (show_expr q.item))
      → {n p : ℕ} {es : Passed} → ReadsAll c s d n p es → operands_at (shown_at d s ds) n p ≡ shown es.next (show_all es.items)
  unfolding operands_at behind show_all
  shown-all inner no_arguments = refl
  shown-all {d} inner (an-argument {n = n} {p = p} {e = e} x es) =
      operands-suc (shown_at d s ds) n p (inner p e x)
      ∙ ap (λ y. behind ([] ␣ show_expr e.item) y) (shown-all inner es)

  -- By the depth.
  shows : (d : ℕ) {p : ℕ} {q : Parsed Expr} → Reads c s d p q → shown_at d s ds p ≡ shown q.next (show_expr q.item)
  unfolding operands_of mark_of behind show_expr
  shows zero {p = p} {q = q} x' = elim x' [ ]
  shows (suc d) {p} (a-variable m h e l) =
      shown-suc s ds d p _ _ (record { inside = omega arith; map = sym m; after = sym e }) ∙ node-variable _ s ds p 0x02 _ refl
  shows (suc d) {p} (a-constant m w h e l) =
      let x = w.below in
      shown-suc s ds d p _ _ (record { inside = omega arith; map = sym m; after = sym w.same })
      ∙ node-constant _ s ds p 0x0C _ refl ∙ rw e
  shows (suc d) {p} (an-unknown m w) =
      let x = w.below in
      shown-suc s ds d p _ _ (record { inside = omega arith; map = sym m; after = sym w.same }) ∙ node-unknown _ s ds p 0x04 _ refl
  shows (suc d) {p} (a-unary {o = o} m w a) =
      let x = w.below in
      shown-suc s ds d p _ _ (record { inside = omega arith; map = sym m; after = sym w.same })
      ∙ node-operator _ s ds p 0x11 _ (omega arith) (omega arith) (omega arith)
      ∙ ap (λ x. behind (byte "o" ∷ decimal o) x) (operands-one _ (p + 2) (shows d a))
  shows (suc d) {p} (a-binary {o = o} m w a b e) =
      let x = w.below in
      shown-suc s ds d p _ _ (record { inside = omega arith; map = sym m; after = sym w.same })
      ∙ node-operator _ s ds p 0x31 _ (omega arith) (omega arith) (omega arith)
      ∙ ap (λ x. behind (byte "o" ∷ decimal o) x) (operands-two _ (p + 2) (shows d a) (shows d b))
  shows (suc d) {p} (a-conditional {o = o} m w q a b e) =
      let x = w.below in
      let z : o ≡ 10 = omega (arith, w.least, w.most) in
      shown-suc s ds d p _ _ (record { inside = omega arith; map = sym m; after = sym w.same })
      ∙ node-operator _ s ds p 0x71 _ (omega arith) (omega arith) (omega arith)
      ∙ ap (λ x. behind (byte "o" ∷ decimal o) x) (operands-three _ (p + 2) (shows d q) (shows d a) (shows d b))
      ∙ rw z
  shows (suc d) {p} (a-call {n = n} m h e l f es w) =
      shown-suc s ds d p _ _ (record { inside = omega arith; map = sym m; after = sym e })
      ∙ node-operator _ s ds p 0x80 _ (omega arith) (omega arith) (omega arith)
      ∙ ap (λ (k : ℕ). behind (byte "f" ∷ decimal n) (operands_at (shown_at d s ds) k (p + 2))) (counted n f)
      ∙ ap (λ x. behind (byte "f" ∷ decimal n) x) (shown-all (λ i q r. shows d r) es)

  pub shown-reads : {d p : ℕ} {q : Parsed Expr} → Reads c s d p q → shown_at d s ds p ≡ shown q.next (show_expr q.item)
  shown-reads {d = d} r = shows d r

  pub text-reads : {p : ℕ} {q : Parsed Expr} → Reads c s 16 p q → text_at s ds p ≡ show_expr q.item
  unfolding text_at
  text-reads r = ap (λ x. x.text) (shown-reads r)

-- ---- term_list

pub count-min : (t : EdgeTerms) → min t.count 8 ≡ length (term_list t)
unfolding term_list all_terms
count-min t = simp length-take (omega arith)

pub term_of : (t : EdgeTerms) (k : ℕ) → k < length (term_list t)
    → get_or (all_terms t) k no_term ≡ get_or (term_list t) k no_term
unfolding term_list
term_of t k h = sym (get_or-take t.count (all_terms t) k no_term (omega (arith, simp length-take at h)))

-- A pair of a wait written, and the rest to come.
pub terms-step : (t u : Text) (l : List EdgeTerm) (k : ℕ) → k < length l → u ≡ puts t (show_term (get_or l k no_term))
    → puts u (show_terms (drop (k + 1) l)) ≡ puts t (show_terms (drop k l))
unfolding show_terms
terms-step t u l k h e =
    rw (add-one, drop-cons l k no_term h)
    (ap (λ x. puts x (show_terms (drop (suc k) l))) e
    ∙ sym (puts-append t (show_term (get_or l k no_term)) (show_terms (drop (suc k) l))))

-- ---- all_terms

from4 : (k : ℕ) → (k ≡ 0 → ⊥) → (k ≡ 1 → ⊥) → (k ≡ 2 → ⊥) → (k ≡ 3 → ⊥) → 4 ≤ k
from4 k a b c d = omega arith

from8 : (k : ℕ) → 4 ≤ k → (k ≡ 4 → ⊥) → (k ≡ 5 → ⊥) → (k ≡ 6 → ⊥) → (k ≡ 7 → ⊥) → 8 ≤ k
from8 k l a b c d = omega arith

pub term-none : (t : EdgeTerms) (k : ℕ) → (k ≡ 0 → ⊥) → (k ≡ 1 → ⊥) → (k ≡ 2 → ⊥) → (k ≡ 3 → ⊥)
    → (k ≡ 4 → ⊥) → (k ≡ 5 → ⊥) → (k ≡ 6 → ⊥) → (k ≡ 7 → ⊥) → get_or (all_terms t) k no_term ≡ no_term
unfolding all_terms
term-none t k a b c d e f g h =
    get_or-eq_default (t.t0 ∷ t.t1 ∷ t.t2 ∷ t.t3 ∷ t.t4 ∷ t.t5 ∷ t.t6 ∷ t.t7 ∷ []) no_term
    (from8 k (from4 k a b c d) e f g h)
