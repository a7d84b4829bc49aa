-- Laws of the text over any bytes: what printing leaves, and the ways through its definitions.
use mathlib.Core.Path.{◌≡◌, refl, sym, ap, ◌∙◌}
use Prim.Native.Nat.{ℕ, zero, suc, ◌+◌, ◌-◌, ◌*◌, ◌≤◌, ◌<◌, min}
use native.Mathlib.Numerals.{sub-one}
use native.Mathlib.Omega.{arith}
use mathlib.Core.List.{List, [], ◌++◌, append-nil}
use mathlib.Core.Bool.{Bool, true, false}
use lib.ListN.{length, get_or, get_or-eq_default}
use lib.Dec.{ltb, eqb}
use borrow.Author.Tests.{lt-ltb, le-ltb, ltb-true, ltb-false, ne_eqb}
use Rattle.values.specs.Values.{pick}
use Rattle.values.specs.Edges.{edge_of}
use Rattle.values.proofs.Values.{and_left}
use Rattle.sheet.specs.Reading.{word_of}
use Rattle.pseudocode.specs.Skipping.{argument_count}
use Rattle.naming.specs.Naming.{plain_table, name_of}
use Rattle.writing.specs.Ascii.{ascii}
use Rattle.writing.specs.Numbers.{decimal}
use Rattle.writing.specs.Buffer.{Text, puts}
use Rattle.writing.proofs.Buffer.{both, puts-nil, puts-append}
use Rattle.signs.specs.Signs.{operands, lead, constant_text, unknown_text}
use Rattle.verilog.specs.Verilog.{◌&◌, indent, before, edge_text, range_text, direction_text, port_text, ports_text, declaration_text, own_name, function_head, function_end}
use Rattle.verilog.specs.Printing.{Shown, shown, behind, Left, left, leaves, lead_at, operands_at, opening_at, inside, count_of, operator_of, word_at, shape_of, bodies_of, flat, inner_level, end_at, closing_at, bodies_at, node_at, shown_at, term_at, terms_at, assign_at, condition_at, wait_at, heading_at, form_at, stmt_at, declarations_at, wire_at, wires_at, block_at, waiting_at, opens_at, thread_at, threads_at, definition_of, definition_at, definitions_at, module_at}

-- ---- leaves

-- A text that was put, and the next place.
pub leaves-text : (t u : Text) (n : ℕ) (q : Shown) → n ≡ q.next → u ≡ puts t q.text → left n u ≡ leaves t q
unfolding leaves
leaves-text t u n q e p = λ j. left (e j) (p j)

-- A text that was put, by what is shown.
pub leaves-shown : (t u : Text) (n : ℕ) {x : List ℕ} {q : Shown} → q ≡ shown n x → u ≡ puts t x → left n u ≡ leaves t q
unfolding leaves
leaves-shown t u n e p = ap (left n) p ∙ ap (leaves t) (sym e)

-- Nothing put.
pub leaves_none : (t : Text) (n : ℕ) {q : Shown} → q ≡ shown n [] → left n t ≡ leaves t q
unfolding leaves
leaves_none t n e = ap (left n) (sym (puts-nil t)) ∙ ap (leaves t) (sym e)

-- A text put in front of what is printed then.
pub leaves-behind : (t u : Text) (x : List ℕ) (l : Left) (rest : Shown) {q : Shown} → q ≡ behind x rest → u ≡ puts t x
    → l ≡ leaves u rest
    → l ≡ leaves t q
unfolding leaves behind
leaves-behind t u x l rest e p h =
    h ∙ ap (λ (v : Text). left rest.next (puts v rest.text)) p ∙ ap (left rest.next) (sym (puts-append t x rest.text))
    ∙ ap (leaves t) (sym e)

-- What was printed, by parts.
pub leaves-next : (t : Text) (l : Left) (q : Shown) → l ≡ leaves t q → l.next ≡ q.next
unfolding leaves
leaves-next t l q h = ap (λ (x : Left). x.next) h

pub leaves-puts : (t : Text) (l : Left) (q : Shown) → l ≡ leaves t q → l.text ≡ puts t q.text
unfolding leaves
leaves-puts t l q h = ap (λ (x : Left). x.text) h

-- Something else by which the same is shown.
pub leaves-as : (t : Text) {l : Left} {q h : Shown} → h ≡ q → l ≡ leaves t q → l ≡ leaves t h
leaves-as t e p = p ∙ ap (leaves t) (sym e)

-- ---- words

pub before_more : (t : List ℕ) (k : ℕ) → (k ≡ 0 → ⊥) → before t k ≡ t
unfolding before
before_more t k h = simp (ne_eqb k 0 h)

pub edge_other : (e : ℕ) → (e ≡ 0 → ⊥) → (e ≡ 1 → ⊥) → edge_text (edge_of e) ≡ ascii "negedge "
unfolding edge_text edge_of
edge_other e h l = simp (ne_eqb e 0 h, ne_eqb e 1 l)

pub range-wide : (w : ℕ) → (w ≡ 1 → ⊥) → range_text w ≡ (ascii "[" & decimal (w - 1) & ascii ":0] ")
unfolding range_text
range-wide w h = simp (ne_eqb w 1 h)

module _ (i r v : ℕ) where
  pub direction-input : v < i → direction_text i r v ≡ ascii "input "
  unfolding direction_text
  direction-input h = simp (lt-ltb v i h)

  pub direction-register : i ≤ v → v < i + r → direction_text i r v ≡ ascii "reg "
  unfolding direction_text
  direction-register h l = simp (le-ltb v i h, lt-ltb v (i + r) l)

  pub direction-wire : i ≤ v → i + r ≤ v → direction_text i r v ≡ ascii "wire "
  unfolding direction_text
  direction-wire h l = simp (le-ltb v i h, le-ltb v (i + r) l)

module _ (m k : ℕ) where
  pub flat-other : (m ≡ 0x0C → ⊥) → (m ≡ 0x2C → ⊥) → false ≡ flat m k
  unfolding flat
  flat-other h l = simp (ne_eqb m 0x0C h, ne_eqb m 0x2C l)

  pub end-other : (m ≡ 0x0E → ⊥) → end_at m k ≡ ascii "end\n"
  unfolding end_at
  end-other h = simp (ne_eqb m 0x0E h)

  pub end-last : m ≡ 0x0E → (k ≡ 2 → ⊥) → end_at m k ≡ ascii "end\n"
  unfolding end_at
  end-last e h = rw e (simp (ne_eqb k 2 h))

  pub end-else : m ≡ 0x0E → k ≡ 2 → end_at m k ≡ ascii "end else begin\n"
  unfolding end_at
  end-else e h = rw (e, h)

  pub closing-flat : (n : ℕ) → flat m k ≡ true → closing_at m k n ≡ []
  unfolding closing_at
  closing-flat n e = rw e

  pub closing-block : (n : ℕ) → flat m k ≡ false → closing_at m k n ≡ (indent n & end_at m k)
  unfolding closing_at
  closing-block n e = rw e

pub word-path : (n p : ℕ) (t : Text) (word : List ℕ) {a e : Text} → a ≡ puts t (indent n) → e ≡ puts a word
    → left (p + 1) e ≡ leaves t (word_at word n p)
unfolding word_at
word-path n p t word x y = leaves-text t _ _ _ refl (both _ _ _ _ _ x y)

-- ---- operands

pub lead-operator : (o n : ℕ) → o < 11 → lead_at o n ≡ lead o n
unfolding lead_at
lead-operator o n h = simp (lt-ltb o 11 h)

-- The first argument, with n and no more still to come, and one that is behind others.
pub lead-first-argument : (o n : ℕ) → 11 ≤ o → o - 11 ≤ n → lead_at o n ≡ []
unfolding lead_at before
lead-first-argument o n h l = let e : o - 11 - n ≡ 0 = omega arith in rw (le-ltb o 11 h, e)

pub lead-argument : (o n : ℕ) → 11 ≤ o → n < o - 11 → lead_at o n ≡ ascii ", "
unfolding lead_at
lead-argument o n h l = rw (le-ltb o 11 h) (before_more (ascii ", ") (o - 11 - n) (omega arith))

pub lead-place : (a k n : ℕ) → k + n ≡ a → lead_at (11 + a) n ≡ before (ascii ", ") k
unfolding lead_at
lead-place a k n e = let x : 11 + a - 11 - n ≡ k = omega arith in rw (le-ltb (11 + a) 11 (omega arith), x)

pub opening-call : (m b : ℕ) → m ≡ 0x80 → opening_at m b ≡ (ascii "f" & decimal b & ascii "(")
unfolding opening_at
opening-call m b e = rw e

pub opening-operator : (m b : ℕ) → (m ≡ 0x80 → ⊥) → opening_at m b ≡ ascii "("
unfolding opening_at
opening-operator m b h = simp (ne_eqb m 0x80 h)

module _ (operand : ℕ → Shown) (o : ℕ) where
  pub operands-none : (n p : ℕ) → n ≡ 0 → operands_at operand o n p ≡ shown p (ascii ")")
  unfolding operands_at
  operands-none n p e = rw e

  pub operands-more : (n p : ℕ) → (n ≡ 0 → ⊥)
      → operands_at operand o n p ≡ behind (lead_at o n ++ (operand p).text) (operands_at operand o (n - 1) (operand p).next)
  unfolding operands_at
  operands-more zero p h = absurd (h refl)
  operands-more (suc n) p h = rw sub-one

  operands-suc : (k p : ℕ) {a : Shown} → operand p ≡ a
      → operands_at operand o (suc k) p ≡ behind (lead_at o (suc k) ++ a.text) (operands_at operand o k a.next)
  unfolding operands_at
  operands-suc k p e = ap (λ (x : Shown). behind (lead_at o (suc k) ++ x.text) (operands_at operand o k x.next)) e

  pub operands-one : (p : ℕ) {n : ℕ} {t : List ℕ} → operand p ≡ shown n t
      → operands_at operand o 1 p ≡ shown n ((lead_at o 1 ++ t) ++ ascii ")")
  unfolding operands_at behind
  operands-one p e = operands-suc 0 p e

  pub operands-two : (p : ℕ) {n m : ℕ} {t u : List ℕ} → operand p ≡ shown n t → operand n ≡ shown m u
      → operands_at operand o 2 p ≡ shown m ((lead_at o 2 ++ t) ++ ((lead_at o 1 ++ u) ++ ascii ")"))
  unfolding behind
  operands-two p {n} {t = t} e f = operands-suc 1 p e ∙ ap (behind (lead_at o 2 ++ t)) (operands-one n f)

  pub operands-three : (p : ℕ) {n m k : ℕ} {t u v : List ℕ} → operand p ≡ shown n t → operand n ≡ shown m u
      → operand m ≡ shown k v
      → operands_at operand o 3 p ≡ shown k ((lead_at o 3 ++ t) ++ ((lead_at o 2 ++ u) ++ ((lead_at o 1 ++ v) ++ ascii ")")))
  unfolding behind
  operands-three p {n} {t = t} e f g = operands-suc 2 p e ∙ ap (behind (lead_at o 3 ++ t)) (operands-two n f g)

pub operands-few : (o : ℕ) → operands o ≤ 3
unfolding operands
operands-few o = few (ltb o 3) (ltb o 10)
  where
    few : (a b : Bool) → pick a 1 (pick b 2 3) ≤ 3
    few true b = omega arith
    few false true = omega arith
    few false false = omega arith

-- ---- bodies

module _ (stmt : ℕ → ℕ → Shown) (m n : ℕ) where
  pub bodies-none : (k p : ℕ) → k ≡ 0 → bodies_at stmt m n k p ≡ shown p []
  unfolding bodies_at
  bodies-none k p e = rw e

  pub bodies-more : (k p l : ℕ) → (k ≡ 0 → ⊥) → l ≡ inner_level m k n
      → bodies_at stmt m n k p ≡ behind ((stmt l p).text ++ closing_at m k n) (bodies_at stmt m n (k - 1) (stmt l p).next)
  unfolding bodies_at
  bodies-more zero p l h e = absurd (h refl)
  bodies-more (suc k) p l h e = rw (sub-one, e)

  bodies-suc : (k p : ℕ) {a : Shown} → stmt (inner_level m (suc k) n) p ≡ a
      → bodies_at stmt m n (suc k) p ≡ behind (a.text ++ closing_at m (suc k) n) (bodies_at stmt m n k a.next)
  unfolding bodies_at
  bodies-suc k p e = ap (λ (x : Shown). behind (x.text ++ closing_at m (suc k) n) (bodies_at stmt m n k x.next)) e

  pub bodies-one : (p : ℕ) {q : ℕ} {t : List ℕ} → stmt (inner_level m 1 n) p ≡ shown q t
      → bodies_at stmt m n 1 p ≡ shown q (t ++ closing_at m 1 n)
  unfolding bodies_at behind
  bodies-one p {q} {t} e = bodies-suc 0 p e ∙ ap (shown q) (append-nil (t ++ closing_at m 1 n))

  pub bodies-two : (p : ℕ) {q x : ℕ} {t u : List ℕ} → stmt (inner_level m 2 n) p ≡ shown q t → stmt (inner_level m 1 n) q ≡ shown x u
      → bodies_at stmt m n 2 p ≡ shown x ((t ++ closing_at m 2 n) ++ (u ++ closing_at m 1 n))
  unfolding behind
  bodies-two p {q} {t = t} e f = bodies-suc 1 p e ∙ ap (behind (t ++ closing_at m 2 n)) (bodies-one q f)

pub bodies-few : (m : ℕ) → bodies_of m ≤ 2
unfolding bodies_of
bodies-few m = few (eqb m 0x0C) (eqb m 0x1C) (eqb m 0x2C) (eqb m 0x06) (eqb m 0x0E) (eqb m 0x46) (eqb m 0x44)
  where
    few : (a b c d e f g : Bool) → pick a 2 (pick b 1 (pick c 2 (pick d 1 (pick e 2 (pick f 1 (pick g 1 0)))))) ≤ 2
    few true b c d e f g = omega arith
    few false true c d e f g = omega arith
    few false false true d e f g = omega arith
    few false false false true e f g = omega arith
    few false false false false true f g = omega arith
    few false false false false false true g = omega arith
    few false false false false false false true = omega arith
    few false false false false false false false = omega arith

pub inner-most : (m k n : ℕ) → inner_level m k n ≤ n + 1
unfolding inner_level
inner-most m k n = by (flat m k)
  where
    by : (a : Bool) → pick a n (n + 1) ≤ n + 1
    by true = omega arith
    by false = omega arith

-- ---- shapes

pub shape-map : (m b : ℕ) → (m ≡ 0x0C → ⊥) → m ≡ shape_of m b
unfolding shape_of
shape-map m b h = simp (ne_eqb m 0x0C h)

pub shape-single : (m b : ℕ) → m ≡ 0x0C → (b ≡ 0x10 → ⊥) → (b ≡ 0x0C → ⊥) → 0x0C ≡ shape_of m b
unfolding shape_of
shape-single m b e h l = rw e (simp (ne_eqb b 0x10 h, ne_eqb b 0x0C l))

pub opens-past : (s : List ℕ) (p : ℕ) → length s ≤ p → false ≡ opens_at s p
unfolding opens_at
opens-past s p h = rw (le-ltb p (length s) h) refl

pub opens-below : (s : List ℕ) (p : ℕ) → opens_at s p ≡ true → p < length s
unfolding opens_at
opens-below s p h = ltb-true p (length s) (and_left (ltb p (length s)) (eqb (shape_of (get_or s p 0) (get_or s (p + 1) 0)) 0x1C) h)

pub opens-shape : (s : List ℕ) (p m : ℕ) → p < length s → m ≡ shape_of (get_or s p 0) (get_or s (p + 1) 0) → eqb m 0x1C ≡ opens_at s p
unfolding opens_at
opens-shape s p m h e = rw (lt-ltb p (length s) h, ← e) refl

-- ---- a place that is within the sheet or at its end

module _ (s : List ℕ) (p : ℕ) where
  pub inside-end : length s < p → inside s p ≡ length s
  unfolding inside
  inside-end h = simp (lt-ltb (length s) p h)

  pub inside-place : p ≤ length s → inside s p ≡ p
  unfolding inside
  inside-place h = simp (le-ltb (length s) p h)

  pub inside-below : inside s p ≤ length s
  inside-below = by (ltb (length s) p) refl
    where
      by : (b : Bool) → ltb (length s) p ≡ b → inside s p ≤ length s
      by true e = rw (inside-end (ltb-true (length s) p e)) (omega arith)
      by false e = let h = ltb-false (length s) p e in rw (inside-place h) h

  pub inside-min : min p (length s) ≡ inside s p
  inside-min = by (ltb (length s) p) refl
    where
      by : (b : Bool) → ltb (length s) p ≡ b → min p (length s) ≡ inside s p
      by true e = let h = ltb-true (length s) p e in rw (inside-end h) (omega arith)
      by false e = let h = ltb-false (length s) p e in rw (inside-place h) (omega arith)

-- ---- the parts of a sheet

module _ (name : ℕ → List ℕ) (s : List ℕ) where
  -- ---- terms_at

  pub terms-turn : (n k p : ℕ) (t u : Text) → k < n → u ≡ puts t (term_at name s k p)
      → puts u (terms_at name s (n - (k + 1)) (k + 1) (p + 2)) ≡ puts t (terms_at name s (n - k) k p)
  unfolding terms_at
  terms-turn n k p t u h e = let x : n - k ≡ suc (n - (k + 1)) = omega arith in rw (x, puts-append, e) refl

  pub terms-end : (n k p : ℕ) → n ≤ k → terms_at name s (n - k) k p ≡ []
  unfolding terms_at
  terms-end n k p h = let x : n - k ≡ 0 = omega arith in rw x refl

  -- Past the sheet's end every place is as any other.
  terms-past : (n k p q : ℕ) → length s ≤ p → length s ≤ q → terms_at name s n k p ≡ terms_at name s n k q
  unfolding terms_at term_at
  terms-past zero k p q h l = refl
  terms-past (suc n) k p q h l =
      rw (
        get_or-eq_default s 0 h,
        get_or-eq_default s 0 l,
        next h,
        next l,
        terms-past n (k + 1) (p + 2) (q + 2) (omega arith) (omega arith),
      )
      refl
    where
      next : {i : ℕ} → length s ≤ i → get_or s (i + 1) 0 ≡ 0
      next b = get_or-eq_default s 0 (omega arith)

  pub terms-inside : (n p : ℕ) → terms_at name s n 0 (inside s p) ≡ terms_at name s n 0 p
  terms-inside n p = by (ltb (length s) p) refl
    where
      by : (b : Bool) → ltb (length s) p ≡ b → terms_at name s n 0 (inside s p) ≡ terms_at name s n 0 p
      by true e =
          let h = ltb-true (length s) p e in
          rw (inside-end s p h) (terms-past n 0 (length s) p (omega arith) (omega arith))
      by false e = rw (inside-place s p (ltb-false (length s) p e)) refl

  -- ---- waits

  pub wait-path : (n p : ℕ) (t : Text) (word : List ℕ) {k w : ℕ} {a b c e : Text} → k ≡ get_or s (p + 1) 0 → w ≡ k → a ≡ puts t (indent n)
      → b ≡ puts a (ascii "@(")
      → c ≡ puts b (terms_at name s k 0 (p + 2)) → e ≡ puts c word → left (p + 2 + 2 * w) e ≡ leaves t
      (wait_at name s word n p)
  unfolding wait_at
  wait-path n p t word {b = b} ek ew ea eb ec ee =
      leaves-text t _ _ _ (ap (λ (x : ℕ). p + 2 + 2 * x) (ew ∙ ek))
      (both _ _ _ _ _ ea (both _ _ _ _ _ eb (both _ _ _ _ _ (ec ∙ ap (λ (x : ℕ). puts b (terms_at name s x 0 (p + 2))) ek) ee)))

  -- ---- declarations

  pub declarations-turn : (i r q n v w : ℕ) (t u : Text) → v < n → w ≡ get_or s (q + v) 0
      → u ≡ puts t (declaration_text name i r v w)
      → puts u (declarations_at name s i r q (n - (v + 1)) (v + 1)) ≡ puts t (declarations_at name s i r q (n - v) v)
  unfolding declarations_at
  declarations-turn i r q n v w t u h f e = let x : n - v ≡ suc (n - (v + 1)) = omega arith in rw (x, puts-append, e, f) refl

  pub declarations-end : (i r q n v : ℕ) → n ≤ v → declarations_at name s i r q (n - v) v ≡ []
  unfolding declarations_at
  declarations-end i r q n v h = let x : n - v ≡ 0 = omega arith in rw x refl

-- ---- how many operands a node has, and their operator

module _ (s ds : List ℕ) (m b : ℕ) where
  pub count-call : m ≡ 0x80 → count_of s ds m b ≡ argument_count s ds b
  unfolding count_of
  count-call e = rw e

  pub count-operator : (m ≡ 0x80 → ⊥) → count_of s ds m b ≡ operands b
  unfolding count_of
  count-operator h = simp (ne_eqb m 0x80 h)

  pub operator-call : m ≡ 0x80 → operator_of s ds m b ≡ 11 + argument_count s ds b
  unfolding operator_of
  operator-call e = rw e

  pub operator-operator : (m ≡ 0x80 → ⊥) → operator_of s ds m b ≡ b
  unfolding operator_of
  operator-operator h = simp (ne_eqb m 0x80 h)

module _ (name : ℕ → List ℕ) (s ds : List ℕ) where
  -- ---- node_at

  module _ (operand : ℕ → Shown) (p m b : ℕ) where
    pub node-variable : m ≡ 0x02 → node_at name s ds operand p m b ≡ shown (p + 2) (name b)
    unfolding node_at
    node-variable e = rw e

    pub node-constant : m ≡ 0x0C → node_at name s ds operand p m b ≡ shown (p + 6) (constant_text b (word_of s (p + 2)))
    unfolding node_at
    node-constant e = rw e

    pub node-unknown : m ≡ 0x04 → node_at name s ds operand p m b ≡ shown (p + 2) (unknown_text b)
    unfolding node_at
    node-unknown e = rw e

    pub node-operands : (m ≡ 0x02 → ⊥) → (m ≡ 0x0C → ⊥) → (m ≡ 0x04 → ⊥)
        → node_at name s ds operand p m b ≡ behind (opening_at m b) (operands_at operand (operator_of s ds m b) (count_of s ds m b) (p + 2))
    unfolding node_at
    node-operands x y z = simp (ne_eqb m 0x02 x, ne_eqb m 0x0C y, ne_eqb m 0x04 z)

    pub node-operator : (m ≡ 0x02 → ⊥) → (m ≡ 0x0C → ⊥) → (m ≡ 0x04 → ⊥) → (m ≡ 0x80 → ⊥)
        → node_at name s ds operand p m b ≡ behind (ascii "(") (operands_at operand b (operands b) (p + 2))
    node-operator x y z h =
        node-operands x y z
        ∙ simp (opening-operator m b h, operator-operator s ds m b h, count-operator s ds m b h)

    pub node_call : m ≡ 0x80
        → node_at name s ds operand p m b ≡ behind (ascii "f" & decimal b & ascii "(")
        (operands_at operand (11 + argument_count s ds b) (argument_count s ds b) (p + 2))
    node_call e =
        node-operands (omega arith) (omega arith) (omega arith)
        ∙ simp (opening-call m b e, operator-call s ds m b e, count-call s ds m b e)

  -- ---- shown_at

  pub shown-deep : (d p : ℕ) → d ≡ 0 → shown_at name s ds d p ≡ shown p []
  unfolding shown_at
  shown-deep d p e = rw e

  pub shown-end : (d p : ℕ) → length s ≤ p → shown_at name s ds d p ≡ shown p []
  unfolding shown_at
  shown-end zero p h = refl
  shown-end (suc d) p h = simp (le-ltb p (length s) h)

  pub shown-suc : (d p m b : ℕ) → p < length s → m ≡ get_or s p 0 → b ≡ get_or s (p + 1) 0
      → shown_at name s ds (suc d) p ≡ node_at name s ds (shown_at name s ds d) p m b
  unfolding shown_at
  shown-suc d p m b h e f = rw (e, f) (simp (lt-ltb p (length s) h))

  pub shown-node : (d p m b : ℕ) → (d ≡ 0 → ⊥) → p < length s → m ≡ get_or s p 0 → b ≡ get_or s (p + 1) 0
      → shown_at name s ds d p ≡ node_at name s ds (shown_at name s ds (d - 1)) p m b
  shown-node zero p m b z h e f = absurd (z refl)
  shown-node (suc d) p m b z h e f = rw sub-one (shown-suc d p m b h e f)

  -- ---- heading_at

  module _ (n p m : ℕ) where
    pub heading-empty : m ≡ 0x00 → heading_at name s ds n p m ≡ word_at (ascii "begin end\n") n p
    unfolding heading_at
    heading-empty e = rw e

    pub heading-assign : m ≡ 0x03 → heading_at name s ds n p m ≡ assign_at name s ds (ascii " = ") n p
    unfolding heading_at
    heading-assign e = rw e

    pub heading-later : m ≡ 0x23 → heading_at name s ds n p m ≡ assign_at name s ds (ascii " <= ") n p
    unfolding heading_at
    heading-later e = rw e

    pub heading-sequence : m ≡ 0x0C → heading_at name s ds n p m ≡ shown (p + 1) []
    unfolding heading_at
    heading-sequence e = rw e

    pub heading-opening : m ≡ 0x1C → heading_at name s ds n p m ≡ wait_at name s (ascii ") begin\n") n (p + 1)
    unfolding heading_at
    heading-opening e = rw e

    pub heading-nesting : m ≡ 0x2C → heading_at name s ds n p m ≡ word_at (ascii "begin\n") n p
    unfolding heading_at
    heading-nesting e = rw e

    pub heading-if : m ≡ 0x06 → heading_at name s ds n p m ≡ condition_at name s ds (ascii "if (") n p
    unfolding heading_at
    heading-if e = rw e

    pub heading-if-else : m ≡ 0x0E → heading_at name s ds n p m ≡ condition_at name s ds (ascii "if (") n p
    unfolding heading_at
    heading-if-else e = rw e

    pub heading-while : m ≡ 0x46 → heading_at name s ds n p m ≡ condition_at name s ds (ascii "while (") n p
    unfolding heading_at
    heading-while e = rw e

    pub heading-forever : m ≡ 0x44 → heading_at name s ds n p m ≡ word_at (ascii "forever begin\n") n p
    unfolding heading_at
    heading-forever e = rw e

    pub heading-wait : m ≡ 0x10 → heading_at name s ds n p m ≡ wait_at name s (ascii ");\n") n p
    unfolding heading_at
    heading-wait e = rw e

    pub heading-other : (m ≡ 0x00 → ⊥) → (m ≡ 0x03 → ⊥) → (m ≡ 0x23 → ⊥) → (m ≡ 0x0C → ⊥) → (m ≡ 0x1C → ⊥) → (m ≡ 0x2C → ⊥)
        → (m ≡ 0x06 → ⊥) → (m ≡ 0x0E → ⊥) → (m ≡ 0x46 → ⊥) → (m ≡ 0x44 → ⊥) → (m ≡ 0x10 → ⊥) → heading_at name s ds n p m ≡ shown p []
    unfolding heading_at
    heading-other a b c d x y e f g h j =
        simp (
          ne_eqb m _ a,
          ne_eqb m _ b,
          ne_eqb m _ c,
          ne_eqb m _ d,
          ne_eqb m _ x,
          ne_eqb m _ y,
          ne_eqb m _ e,
          ne_eqb m _ f,
          ne_eqb m _ g,
          ne_eqb m _ h,
          ne_eqb m _ j,
        )

  -- ---- the forms, from what the code's calls give

  module _ (n p : ℕ) (t : Text) where
    pub assign-path : (sign : List ℕ) {v w : ℕ} {a b c e : Text} {l : Left} → v ≡ get_or s (p + 1) 0 → w ≡ v → a ≡ puts t (indent n)
        → b ≡ puts a (name w) → c ≡ puts b sign → l ≡ leaves c (shown_at name s ds 16 (p + 2)) → e ≡ puts l.text
        (ascii ";\n")
        → left l.next e ≡ leaves t (assign_at name s ds sign n p)
    unfolding assign_at
    assign-path sign {c = c} {l = l} ev ew ea eb ec el ee =
        let called = ap name (ew ∙ ev) in
        leaves-text t _ _ _ (leaves-next c l _ el)
        (both _ _ _ _ _ ea (both _ _ _ _ _ (eb ∙ ap (puts _) called)
        (both _ _ _ _ _ ec (both _ _ _ _ _ (leaves-puts c l _ el) ee))))

    pub condition-path : (word : List ℕ) {a c e : Text} {l : Left} → a ≡ puts t (indent n) → c ≡ puts a word
        → l ≡ leaves c (shown_at name s ds 16 (p + 1)) → e ≡ puts l.text (ascii ") begin\n")
        → left l.next e ≡ leaves t (condition_at name s ds word n p)
    unfolding condition_at
    condition-path word {c = c} {l = l} ea ec el ee =
        leaves-text t _ _ _ (leaves-next c l _ el)
        (both _ _ _ _ _ ea (both _ _ _ _ _ ec (both _ _ _ _ _ (leaves-puts c l _ el) ee)))

  -- ---- stmt_at

  pub stmt-deep : (d n p : ℕ) → d ≡ 0 → stmt_at name s ds d n p ≡ shown p []
  unfolding stmt_at
  stmt-deep d n p e = rw e

  pub stmt-end : (d n p : ℕ) → length s ≤ p → stmt_at name s ds d n p ≡ shown p []
  unfolding stmt_at
  stmt-end zero n p h = refl
  stmt-end (suc d) n p h = simp (le-ltb p (length s) h)

  pub stmt-suc : (d n p m : ℕ) → p < length s → m ≡ shape_of (get_or s p 0) (get_or s (p + 1) 0)
      → stmt_at name s ds (suc d) n p ≡ form_at name s ds (stmt_at name s ds d) n p m
  unfolding stmt_at
  stmt-suc d n p m h e = rw e (simp (lt-ltb p (length s) h))

  -- A statement that is no sequence.
  pub stmt-map : (d n p m : ℕ) → p < length s → m ≡ get_or s p 0 → (m ≡ 0x0C → ⊥)
      → stmt_at name s ds (suc d) n p ≡ form_at name s ds (stmt_at name s ds d) n p m
  stmt-map d n p m h e k =
      stmt-suc d n p m h (shape-map m (get_or s (p + 1) 0) k ∙ ap (λ (x : ℕ). shape_of x (get_or s (p + 1) 0)) e)

  pub stmt-form : (d n p m : ℕ) → (d ≡ 0 → ⊥) → p < length s → m ≡ shape_of (get_or s p 0) (get_or s (p + 1) 0)
      → stmt_at name s ds d n p ≡ form_at name s ds (stmt_at name s ds (d - 1)) n p m
  stmt-form zero n p m z h e = absurd (z refl)
  stmt-form (suc d) n p m z h e = rw sub-one (stmt-suc d n p m h e)

  -- Heading and bodies printed one after the other.
  pub form-path : (d n p m k : ℕ) (t : Text) {h l : Left} → (d ≡ 0 → ⊥) → p < length s
      → m ≡ shape_of (get_or s p 0) (get_or s (p + 1) 0) → k ≡ bodies_of m
      → h ≡ leaves t (heading_at name s ds n p m) → l ≡ leaves h.text (bodies_at (stmt_at name s ds (d - 1)) m n k h.next)
      → l ≡ leaves t (stmt_at name s ds d n p)
  unfolding form_at
  form-path d n p m k t {h} {l} z b e f x y =
      let q = heading_at name s ds n p m in
      leaves-behind t h.text q.text l _ (stmt-form d n p m z b e) (leaves-puts t h q x)
      (y ∙ ap (λ (c : ℕ). leaves h.text (bodies_at (stmt_at name s ds (d - 1)) m n c h.next)) f
      ∙ ap (λ (c : ℕ). leaves h.text (bodies_at (stmt_at name s ds (d - 1)) m n (bodies_of m) c)) (leaves-next t h q x))

  -- ---- the module's parts

  pub wires-turn : (n k v p : ℕ) (t : Text) {w : Left} → k < n → w ≡ leaves t (wire_at name s ds (v + k) p)
      → leaves w.text (wires_at name s ds (n - (k + 1)) (v + (k + 1)) w.next) ≡ leaves t (wires_at name s ds (n - k) (v + k) p)
  unfolding wires_at
  wires-turn n k v p t {w} h e =
      let x : n - k ≡ suc (n - (k + 1)) = omega arith in
      let y : v + (k + 1) ≡ v + k + 1 = omega arith in
      let q = wire_at name s ds (v + k) p in
      leaves-behind t w.text q.text _ (wires_at name s ds (n - (k + 1)) (v + k + 1) q.next) (rw x refl) (leaves-puts t w q e)
      (rw (y, leaves-next t w q e) refl)

  pub wires-start : (n v p : ℕ) (t : Text) → leaves t (wires_at name s ds (n - 0) (v + 0) p) ≡ leaves t (wires_at name s ds n v p)
  wires-start n v p t =
      let x : n - 0 ≡ n = omega arith in
      let y : v + 0 ≡ v = omega arith in
      λ j. leaves t (wires_at name s ds (x j) (y j) p)

  pub wires-end : (n k v p : ℕ) (t : Text) → n ≤ k → left p t ≡ leaves t (wires_at name s ds (n - k) v p)
  unfolding wires_at
  wires-end n k v p t h = let x : n - k ≡ 0 = omega arith in leaves_none t p (rw x refl)

  pub threads-turn : (n k p : ℕ) (t : Text) {w : Left} → k < n → w ≡ leaves t (thread_at name s ds p)
      → leaves w.text (threads_at name s ds (n - (k + 1)) w.next) ≡ leaves t (threads_at name s ds (n - k) p)
  unfolding threads_at
  threads-turn n k p t {w} h e =
      let x : n - k ≡ suc (n - (k + 1)) = omega arith in
      let q = thread_at name s ds p in
      leaves-behind t w.text q.text _ (threads_at name s ds (n - (k + 1)) q.next) (rw x refl) (leaves-puts t w q e)
      (rw (leaves-next t w q e) refl)

  pub threads-start : (n p : ℕ) (t : Text) → leaves t (threads_at name s ds (n - 0) p) ≡ leaves t (threads_at name s ds n p)
  threads-start n p t = let x : n - 0 ≡ n = omega arith in λ j. leaves t (threads_at name s ds (x j) p)

  pub threads_end : (n k p : ℕ) (t : Text) → n ≤ k → left p t ≡ leaves t (threads_at name s ds (n - k) p)
  unfolding threads_at
  threads_end n k p t h = let x : n - k ≡ 0 = omega arith in leaves_none t p (rw x refl)

  pub wire-path : (v p : ℕ) (t : Text) {a b c e : Text} {l : Left} → a ≡ puts t (ascii "  assign ") → b ≡ puts a (name v)
      → c ≡ puts b (ascii " = ") → l ≡ leaves c (shown_at name s ds 16 p) → e ≡ puts l.text (ascii ";\n")
      → left l.next e ≡ leaves t (wire_at name s ds v p)
  unfolding wire_at
  wire-path v p t {c = c} {l = l} ea eb ec el ee =
      leaves-text t _ _ _ (leaves-next c l _ el)
      (both _ _ _ _ _ ea (both _ _ _ _ _ eb (both _ _ _ _ _ ec (both _ _ _ _ _ (leaves-puts c l _ el) ee))))

  pub block-path : (p : ℕ) (t : Text) {a e : Text} {l : Left} → a ≡ puts t (ascii "  always begin\n")
      → l ≡ leaves a (stmt_at name s ds 64 2 p)
      → e ≡ puts l.text (ascii "  end\n") → left l.next e ≡ leaves t (block_at name s ds p)
  unfolding block_at
  block-path p t {a = a} {l = l} ea el ee =
      leaves-text t _ _ _ (leaves-next a l _ el) (both _ _ _ _ _ ea (both _ _ _ _ _ (leaves-puts a l _ el) ee))

  pub waiting-path : (p : ℕ) (t : Text) {a e : Text} {w l : Left} → a ≡ puts t (ascii "  always ")
      → w ≡ leaves a (wait_at name s (ascii ") begin\n") 0 (p + 1))
      → l ≡ leaves w.text (stmt_at name s ds 63 2 w.next)
      → e ≡ puts l.text (ascii "  end\n") → left l.next e ≡ leaves t (waiting_at name s ds p)
  unfolding waiting_at
  waiting-path p t {a = a} {w = w} {l = l} ea ew el ee =
      let q = wait_at name s (ascii ") begin\n") 0 (p + 1) in
      let x : l ≡ leaves w.text (stmt_at name s ds 63 2 q.next) = el ∙ ap
      (λ (n : ℕ). leaves w.text (stmt_at name s ds 63 2 n)) (leaves-next a w q ew) in
      leaves-text t _ _ _ (leaves-next w.text l _ x)
      (both _ _ _ _ _ ea (both _ _ _ _ _ (leaves-puts a w q ew) (both _ _ _ _ _ (leaves-puts w.text l _ x) ee)))

  pub thread-waiting : (p : ℕ) → opens_at s p ≡ true → thread_at name s ds p ≡ waiting_at name s ds p
  unfolding thread_at
  thread-waiting p h = rw h refl

  pub thread-block : (p : ℕ) → opens_at s p ≡ false → thread_at name s ds p ≡ block_at name s ds p
  unfolding thread_at
  thread-block p h = rw h refl

-- ---- functions

module _ (s ds : List ℕ) where
  pub definition-end : (n p : ℕ) → length s ≤ p → definition_at s ds n p ≡ shown p []
  unfolding definition_at
  definition-end n p h = simp (le-ltb p (length s) h)

  pub definition-of : (n p k : ℕ) → p < length s → k ≡ get_or s p 0 → definition_at s ds n p ≡ definition_of s ds n p k
  unfolding definition_at
  definition-of n p k h e = rw e (simp (lt-ltb p (length s) h))

  -- A function's parts printed one after the other.
  pub definition-path : (n p k x w : ℕ) (t : Text) {names : List ℕ} {a b c e : Text} {l : Left} → p < length s → k ≡ get_or s p 0 → x ≡ k
      → w ≡ get_or s (p + 1 + x) 0 → names ≡ plain_table k 1 → a ≡ puts t (function_head n w)
      → b ≡ puts a (declarations_at (name_of names) s k 1 (p + 1) (x + 1) 0) → c ≡ puts b (ascii "  begin\n")
      → l ≡ leaves c (stmt_at (name_of names) s ds 64 2 (p + 2 + x)) → e ≡ puts l.text (function_end n)
      → left l.next e ≡ leaves t (definition_at s ds n p)
  unfolding definition_of own_name
  definition-path n p k x w t {names} {a} {b} {c} {e} {l} h ek ex ew en ea eb ec el ee =
      let q = stmt_at (name_of (plain_table k 1)) s ds 64 2 (p + 2 + k) in
      let width : w ≡ get_or s (p + 1 + k) 0 = ew ∙ ap (λ (y : ℕ). get_or s (p + 1 + y) 0) ex in
      let body : l ≡ leaves c q = el ∙ (λ j. leaves c (stmt_at (name_of (en j)) s ds 64 2 (p + 2 + ex j))) in
      leaves-as t (definition-of n p k h ek)
      (leaves-text t _ _ _ (leaves-next c l q body)
      (both _ _ _ _ _ (ea ∙ ap (λ (y : ℕ). puts t (function_head n y)) width)
      (both _ _ _ _ _ (eb ∙ (λ j. puts a (declarations_at (name_of (en j)) s k 1 (p + 1) (ex j + 1) 0)))
      (both _ _ _ _ _ ec (both _ _ _ _ _ (leaves-puts c l q body) ee)))))

  pub definitions-turn : (n k p : ℕ) (t : Text) {w : Left} → k < n → w ≡ leaves t (definition_at s ds k p)
      → leaves w.text (definitions_at s ds (n - (k + 1)) (k + 1) w.next) ≡ leaves t (definitions_at s ds (n - k) k p)
  unfolding definitions_at
  definitions-turn n k p t {w} h e =
      let x : n - k ≡ suc (n - (k + 1)) = omega arith in
      let q = definition_at s ds k p in
      leaves-behind t w.text q.text _ (definitions_at s ds (n - (k + 1)) (k + 1) q.next) (rw x refl) (leaves-puts t w q e)
      (rw (leaves-next t w q e) refl)

  pub definitions-start : (n m p : ℕ) (t : Text) → m ≡ n → leaves t (definitions_at s ds (m - 0) 0 p) ≡ leaves t (definitions_at s ds n 0 p)
  definitions-start n m p t e = let x : m - 0 ≡ n = omega arith in λ j. leaves t (definitions_at s ds (x j) 0 p)

  pub definitions-end : (n k p : ℕ) (t : Text) → n ≤ k → left p t ≡ leaves t (definitions_at s ds (n - k) k p)
  unfolding definitions_at
  definitions-end n k p t h = let x : n - k ≡ 0 = omega arith in leaves_none t p (rw x refl)

-- ---- the module's parts printed one after the other

module _ (name : ℕ → List ℕ) (s ds : List ℕ) where
  pub module-path : (i r w t fs q f n x v : ℕ) (a : Text) {b c d e z : Text} {g k l : Left} → f ≡ i + r → n ≡ i + r + w → x ≡ w → v ≡ i
      → b ≡ puts a (ascii "module walbryts (") → c ≡ puts b (ports_text name v 0) → d ≡ puts c (ascii ");\n")
      → e ≡ puts d (declarations_at name s i r q n 0) → g ≡ leaves e (definitions_at s ds fs 0 (q + n))
      → k ≡ leaves g.text (wires_at name s ds x f g.next) → l ≡ leaves k.text (threads_at name s ds t k.next)
      → z ≡ puts l.text (ascii "endmodule\n") → z ≡ puts a (module_at name s ds i r w t fs q)
  unfolding module_at
  module-path i r w t fs q f n x v a {b = b} {d = d} {e = e} {g = g} {k = k} {l = l} ef en ex ev eb ec ed ee eg ek el ez =
      let y = definitions_at s ds fs 0 (q + (i + r + w)) in
      let functions : g ≡ leaves e y = eg ∙ (λ j. leaves e (definitions_at s ds fs 0 (q + en j))) in
      let u = wires_at name s ds w (i + r) y.next in
      let wires : k ≡ leaves g.text u = ek
      ∙ (λ j. leaves g.text (wires_at name s ds (ex j) (ef j) (leaves-next e g y functions j))) in
      let rest : l.text ≡ puts k.text (threads_at name s ds t u.next).text = leaves-puts k.text l _ el ∙ ap
      (λ (p : ℕ). puts k.text (threads_at name s ds t p).text) (leaves-next g.text k u wires) in
      both _ _ _ _ _ eb
      (both _ _ _ _ _ (ec ∙ ap (λ (m : ℕ). puts b (ports_text name m 0)) ev)
      (both _ _ _ _ _ ed
      (both _ _ _ _ _ (ee ∙ ap (λ (m : ℕ). puts d (declarations_at name s i r q m 0)) en)
      (both _ _ _ _ _ (leaves-puts e g y functions)
      (both _ _ _ _ _ (leaves-puts g.text k u wires) (both _ _ _ _ _ rest ez))))))

-- ---- ports

module _ (name : ℕ → List ℕ) where
  pub ports-turn : (n v : ℕ) (t u : Text) → v < n → u ≡ puts t (port_text name v)
      → puts u (ports_text name (n - (v + 1)) (v + 1)) ≡ puts t (ports_text name (n - v) v)
  unfolding ports_text
  ports-turn n v t u h e = let x : n - v ≡ suc (n - (v + 1)) = omega arith in rw (x, puts-append, e) refl

  pub ports-end : (n v : ℕ) → n ≤ v → ports_text name (n - v) v ≡ []
  unfolding ports_text
  ports-end n v h = let x : n - v ≡ 0 = omega arith in rw x refl
