-- The laws of every bit: "The per-bit laws are shown for every width together" (document 02, request [4]). Assumes nothing.
use mathlib.Core.Path.{◌≡◌, refl, sym, ap, ◌∙◌}
use mathlib.Core.Logic.{◌≢◌, ◌↔◌, ◌⊎◌, inl, inr}
use mathlib.Core.Bool.{Bool, true, false, not}
use mathlib.Core.List.{[], ◌∷◌}
use Prim.Native.Nat.{ℕ, ◌+◌, ◌-◌, ◌%◌, ◌^◌, ◌≤◌, ◌<◌, max}
use native.Mathlib.Omega.{arith}
use borrow.Author.Tests.{eq-eqb, ne_eqb, eqb-true, ltb-false}
use lib.Bits.{bit_and, bit_or, bit_xor, and_lt, or_lt, xor_lt}
use lib.Dec.{ltb, eqb}
use lib.ListN.{get_or}
use Rattle.values.specs.declared.Value.{Value}
use Rattle.values.specs.Values.{pick, known, ones, all_unknown, fits, holds}
use Rattle.values.specs.Operators.{difference, flag, possible, marked, between, outside, inverted, both, either, differing, certain, equal}
use Rattle.values.specs.Operators.{negated, unary, binary, agreed, choice}
use Rattle.values.proofs.Bits.{bit, bit-digit, bit-and, bit-or, bit-xor, bit-ones, bit-zero, bits-apart}
use Rattle.values.proofs.Values.{Fit, fits-is}
use Rattle.values.proofs.Operators.{sum-mod}
use Rattle.bitwise.specs.Bits.{bit_of, table, ands, ors, xors, nots, merges, Has, Zero, Open, Blurred, Clash, Differ, Agree}
use Rattle.bitwise.specs.Bits.{OneLaws, TwoLaws, ChoiceLaws, BitByBit}
use Rattle.bitwise.proofs.Cells.{Cell, cell, shown, unlike, and-cell, or-cell, xor-cell, merge-cell, not-cell}
use Rattle.bitwise.proofs.Cells.{one-shown, x-shown, shown-one, shown-x, zero-shown}
use Rattle.bitwise.proofs.Cells.{unlike-clash, clash-unlike, marked-blur, blur-left, blur-right, same-shown}
use Rattle.bitwise.proofs.Cells.{Seen, at, none, seen}

cells : {w : ℕ} {a : Value} → Fit w a → (i : ℕ) → Cell (bit a.number i) (bit a.unknown i)
cells {w} {a} f i = cell (bit-digit a.number i) (bit-digit a.unknown i) (bits-apart _ _ f.apart i)

no_way : (t : Bool) → t ≡ true → not t ≡ true → ⊥
no_way true e h = let z : ◌≡◌ {A = ℕ} 0 1 = cc h in omega arith
no_way false e h = let z : ◌≡◌ {A = ℕ} 0 1 = cc e in omega arith

-- ---- three outcomes, of which one is so

known-0-1 : known 0 ≢ known 1
unfolding known
known-0-1 e = let z = ap (λ (a : Value). a.number) e in omega arith

known-x : (n : ℕ) → known n ≢ all_unknown 1
unfolding known all_unknown ones
known-x n e = let z : ◌≡◌ {A = ℕ} 0 1 = ap (λ (a : Value). a.unknown) e in omega arith

data Outcome (A B C : Type 0) (r : Value) : Type 0 where
  gives-0 : A → r ≡ known 0 → Outcome A B C r
  gives-x : B → r ≡ all_unknown 1 → Outcome A B C r
  gives-1 : C → r ≡ known 1 → Outcome A B C r

module _ {A B C : Type 0} {r : Value} (a-b : A → ¬ B) (a_c : A → ¬ C) (b-c : B → ¬ C) where
  is-0 : Outcome A B C r → A ↔ (r ≡ known 0)
  is-0 (gives-0 a e) = (λ z. e, λ z. a)
  is-0 (gives-x b e) = (λ a. absurd (a-b a b), λ z. absurd (known-x 0 (sym z ∙ e)))
  is-0 (gives-1 c e) = (λ a. absurd (a_c a c), λ z. absurd (known-0-1 (sym z ∙ e)))

  is_x : Outcome A B C r → B ↔ (r ≡ all_unknown 1)
  is_x (gives-0 a e) = (λ b. absurd (a-b a b), λ z. absurd (known-x 0 (sym e ∙ z)))
  is_x (gives-x b e) = (λ z. e, λ z. b)
  is_x (gives-1 c e) = (λ b. absurd (b-c b c), λ z. absurd (known-x 1 (sym e ∙ z)))

  is-1 : Outcome A B C r → C ↔ (r ≡ known 1)
  is-1 (gives-0 a e) = (λ c. absurd (a_c a c), λ z. absurd (known-0-1 (sym e ∙ z)))
  is-1 (gives-x b e) = (λ c. absurd (b-c b c), λ z. absurd (known-x 1 (sym z ∙ e)))
  is-1 (gives-1 c e) = (λ z. e, λ z. c)

-- ---- one value

-- A number with a digit 1 isn't 0.
some-digit : (n i : ℕ) → bit n i ≡ 1 → eqb n 0 ≡ false
some-digit n i h = ne_eqb n 0 (λ e. let z : ◌≡◌ {A = ℕ} 1 0 = sym h ∙ ap (λ (m : ℕ). bit m i) e ∙ bit-zero i in omega arith)

no_digit : {n : ℕ} (i : ℕ) → n ≡ 0 → bit n i ≡ 0
no_digit i e = ap (λ (m : ℕ). bit m i) e ∙ bit-zero i

ones-pow : (w : ℕ) → w ≤ 32 → ones w ≡ 2 ^ w - 1
unfolding ones
ones-pow w l = by (ltb w 32) refl
  where
    by : (t : Bool) → ltb w 32 ≡ t → pick t (2 ^ w - 1) (2 ^ 32 - 1) ≡ 2 ^ w - 1
    by true e = refl
    by false e = let h = ltb-false w 32 e in let q : w ≡ 32 = omega arith in rw q refl

module _ (w : ℕ) (a : Value) (f : Fit w a) where
  has_one : Has w a 1 → eqb a.number 0 ≡ false
  has_one h = some-digit a.number h.0 (shown-one (cells f h.0) h.2)

  has-x : Has w a 2 → eqb a.unknown 0 ≡ false
  has-x h = some-digit a.unknown h.0 (shown-x (cells f h.0) h.2)

  no_one : a.number ≡ 0 → ¬ Has w a 1
  no_one e h =
      let z : ◌≡◌ {A = ℕ} 1 0 = sym (shown-one (cells f h.0) h.2) ∙ no_digit h.0 e in
      omega arith

  -- It has a 1; or no 1, but a bit that is unknown; or zeros alone.
  data Kind : Type 0 where
    sure : Has w a 1 → eqb a.number 0 ≡ false → Kind
    unsure : Open w a → eqb a.number 0 ≡ true → eqb a.unknown 0 ≡ false → Kind
    zero : Zero w a → eqb a.number 0 ≡ true → eqb a.unknown 0 ≡ true → Kind

  kind : Kind
  kind = by (seen w a.number f.number) (seen w a.unknown f.unknown)
    where
      by : Seen w a.number → Seen w a.unknown → Kind
      by (at i l e) y = sure (i, l, one-shown (cells f i) e) (some-digit a.number i e)
      by (none e) (at i l g) =
          unsure (no_one e, (i, l, x-shown (cells f i) g)) (eq-eqb a.number 0 e) (some-digit a.unknown i g)
      by (none e) (none g) =
          zero (λ i l. zero-shown (no_digit i e) (no_digit i g)) (eq-eqb a.number 0 e) (eq-eqb a.unknown 0 g)

  zero_one : Has w a 1 → ¬ Zero w a
  zero_one h z = let e : ◌≡◌ {A = ℕ} 0 1 = sym (z h.0 h.1) ∙ h.2 in omega arith

  zero-x : Has w a 2 → ¬ Zero w a
  zero-x h z = let e : ◌≡◌ {A = ℕ} 0 2 = sym (z h.0 h.1) ∙ h.2 in omega arith

  condition : Has w a 1 ↔ (holds a ≡ true)
  unfolding holds
  condition = by kind
    where
      by : Kind → Has w a 1 ↔ (holds a ≡ true)
      by (sure h e) = (λ z. rw e, λ z. h)
      by (unsure h e g) = (λ z. absurd (h.0 z), λ z. absurd (no_way (eqb a.number 0) e z))
      by (zero h e g) = (λ z. absurd (zero_one z h), λ z. absurd (no_way (eqb a.number 0) e z))

  negation : Outcome (Has w a 1) (Open w a) (Zero w a) (unary 2 w a)
  unfolding unary negated holds
  negation = by kind
    where
      by : Kind → Outcome (Has w a 1) (Open w a) (Zero w a) (negated a)
      by (sure h e) = gives-0 h (rw e)
      by (unsure h e g) = gives-x h (rw (e, g))
      by (zero h e g) = gives-1 h (rw (e, g))

  inversion : w ≤ 32 → (i : ℕ) → i < w → bit_of (unary 1 w a) i ≡ get_or nots (bit_of a i) 0
  unfolding unary inverted outside possible
  inversion l i h =
      rw (
        bit-xor (ones w) (bit_and (ones w) (bit_or a.number a.unknown)) i,
        bit-and (ones w) (bit_or a.number a.unknown) i,
        bit-or a.number a.unknown i,
        ones-pow w l,
        bit-ones w i h,
      )
      (not-cell (cells f i))

  one_laws : w ≤ 32 → OneLaws w a
  one_laws l =
      let x : Has w a 1 → ¬ Open w a = λ h o. o.0 h in
      let y : Open w a → ¬ Zero w a = λ o. zero-x o.1 in
      record {
        not = inversion l;
        condition = condition;
        negated-0 = is-0 x zero_one y negation;
        negated-x = is_x x zero_one y negation;
        negated-1 = is-1 x zero_one y negation;
      }

-- ---- two values

module _ (w : ℕ) (a b : Value) (f : Fit w a) (g : Fit w b) where
  -- the digits of what differs outside the marks, and of the marks
  unlikes : ℕ
  unlikes = outside (bit_xor a.number b.number) (marked a b)

  bit-unlike : (i : ℕ) → bit unlikes i ≡ unlike (bit a.number i) (bit a.unknown i) (bit b.number i) (bit b.unknown i)
  unfolding unlikes outside marked
  bit-unlike i =
      rw (
        bit-xor (bit_xor a.number b.number) (bit_and (bit_xor a.number b.number) (bit_or a.unknown b.unknown)) i,
        bit-and (bit_xor a.number b.number) (bit_or a.unknown b.unknown) i,
        bit-xor a.number b.number i,
        bit-or a.unknown b.unknown i,
      )

  bit-marked : (i : ℕ) → bit (marked a b) i ≡ max (bit a.unknown i) (bit b.unknown i)
  unfolding marked
  bit-marked i = bit-or a.unknown b.unknown i

  marked-lt : marked a b < 2 ^ w
  unfolding marked
  marked-lt = or_lt w a.unknown b.unknown f.unknown g.unknown

  unlikes-lt : unlikes < 2 ^ w
  unfolding unlikes outside
  unlikes-lt =
      let s = xor_lt w a.number b.number f.number g.number in
      xor_lt w _ _ s (and_lt w _ _ s marked-lt)

  -- the tables

  and-bit : (i : ℕ) → bit_of (binary 3 w a b) i ≡ table ands (bit_of a i) (bit_of b i)
  unfolding binary both between possible
  and-bit i =
      rw (
        bit-xor (bit_and a.number b.number) (bit_and (bit_or a.number a.unknown) (bit_or b.number b.unknown)) i,
        bit-and a.number b.number i,
        bit-and (bit_or a.number a.unknown) (bit_or b.number b.unknown) i,
        bit-or a.number a.unknown i,
        bit-or b.number b.unknown i,
      )
      (and-cell (cells f i) (cells g i))

  or-bit : (i : ℕ) → bit_of (binary 4 w a b) i ≡ table ors (bit_of a i) (bit_of b i)
  unfolding binary either between possible
  or-bit i =
      rw (
        bit-xor (bit_or a.number b.number) (bit_or (bit_or a.number a.unknown) (bit_or b.number b.unknown)) i,
        bit-or a.number b.number i,
        bit-or (bit_or a.number a.unknown) (bit_or b.number b.unknown) i,
        bit-or a.number a.unknown i,
        bit-or b.number b.unknown i,
      )
      (or-cell (cells f i) (cells g i))

  xor-bit : (i : ℕ) → bit_of (binary 5 w a b) i ≡ table xors (bit_of a i) (bit_of b i)
  unfolding binary differing unlikes
  xor-bit i = rw (bit-unlike i, bit-marked i) (xor-cell (cells f i) (cells g i))

  agreed-bit : (i : ℕ) → bit_of (agreed a b) i ≡ table merges (bit_of a i) (bit_of b i)
  unfolding agreed marked
  agreed-bit i =
      rw (
        bit-or (bit_xor a.number b.number) (bit_or a.unknown b.unknown) i,
        bit-and a.number b.number i,
        bit-xor a.number b.number i,
        bit-or a.unknown b.unknown i,
      )
      (merge-cell (cells f i) (cells g i))

  -- "any unknown bit"

  blurred : Blurred w a b → eqb (marked a b) 0 ≡ false
  blurred (inl (i, l, h)) = some-digit (marked a b) i (bit-marked i ∙ blur-left (cells f i) (cells g i) h)
  blurred (inr (i, l, h)) = some-digit (marked a b) i (bit-marked i ∙ blur-right (cells f i) (cells g i) h)

  blur-at : (i : ℕ) → i < w → bit (marked a b) i ≡ 1 → Blurred w a b
  blur-at i l e = by (marked-blur (cells f i) (cells g i) (sym (bit-marked i) ∙ e))
    where
      by : (bit_of a i ≡ 2) ⊎ (bit_of b i ≡ 2) → Blurred w a b
      by (inl h) = inl (i, l, h)
      by (inr h) = inr (i, l, h)

  clear : ¬ Blurred w a b → eqb (marked a b) 0 ≡ true
  clear n = by (seen w (marked a b) marked-lt)
    where
      by : Seen w (marked a b) → eqb (marked a b) 0 ≡ true
      by (at i l e) = absurd (n (blur-at i l e))
      by (none e) = eq-eqb (marked a b) 0 e

  -- ==

  differ-at : Differ w a b → eqb unlikes 0 ≡ false
  differ-at (i, l, c) = some-digit unlikes i (bit-unlike i ∙ clash-unlike (cells f i) (cells g i) c)

  equality : Outcome (Differ w a b) ((¬ Differ w a b) × Blurred w a b) (Agree w a b) (binary 8 w a b)
  unfolding binary equal certain unlikes
  equality = by (seen w unlikes unlikes-lt) (seen w (marked a b) marked-lt)
    where
      by : Seen w unlikes → Seen w (marked a b) →
          Outcome (Differ w a b) ((¬ Differ w a b) × Blurred w a b) (Agree w a b) (equal a b)
      by (at i l e) y =
          gives-0 (i, l, unlike-clash (cells f i) (cells g i) (sym (bit-unlike i) ∙ e)) (rw (some-digit unlikes i e))
      by (none e) (at i l h) =
          let no : ¬ Differ w a b = λ d. no_way (eqb unlikes 0) (eq-eqb unlikes 0 e) (rw (differ-at d)) in
          gives-x (no, blur-at i l h) (rw (eq-eqb unlikes 0 e, some-digit (marked a b) i h))
      by (none e) (none h) =
          gives-1
          (λ i l. same-shown (cells f i) (cells g i) (sym (bit-unlike i) ∙ no_digit i e) (sym (bit-marked i) ∙ no_digit i h))
          (rw (eq-eqb unlikes 0 e, eq-eqb (marked a b) 0 h))

  differ-agree : Differ w a b → ¬ Agree w a b
  differ-agree (i, l, c) z = c.2 (z i l).0

  blur-agree : Blurred w a b → ¬ Agree w a b
  blur-agree (inl (i, l, h)) z = let k = (z i l).1 in omega arith
  blur-agree (inr (i, l, h)) z = let e = (z i l).0 in let k = (z i l).1 in omega arith

  two-laws : w ≤ 32 → TwoLaws w a b
  unfolding binary certain
  two-laws l =
      let x : Differ w a b → ¬ ((¬ Differ w a b) × Blurred w a b) = λ d n. n.0 d in
      let y : (¬ Differ w a b) × Blurred w a b → ¬ Agree w a b = λ n. blur-agree n.1 in
      record {
        and = and-bit;
        or = or-bit;
        xor = xor-bit;
        sum-x = λ h. rw (blurred h);
        difference-x = λ h. rw (blurred h);
        less-x = λ h. rw (blurred h);
        sum = λ h. rw (clear h) (ap known (sum-mod w l a.number b.number));
        difference = λ h. rw (clear h);
        less = λ h. rw (clear h);
        equal-0 = is-0 x differ-agree y equality;
        equal-x = is_x x differ-agree y equality;
        equal-1 = is-1 x differ-agree y equality;
      }

-- ---- ?:

module _ (w k : ℕ) (c a b : Value) (h : Fit k c) (f : Fit w a) (g : Fit w b) where
  choice-laws : ChoiceLaws k c a b
  unfolding choice holds
  choice-laws =
      record {
        first = λ s. rw (has_one k c h s);
        second = λ z. second (kind k c h) z;
        merged = λ o i. merged (kind k c h) o i;
      }
    where
      second : Kind k c h → Zero k c → choice c a b ≡ b
      second (sure s e) z = absurd (zero_one k c h s z)
      second (unsure o e u) z = absurd (zero-x k c h o.1 z)
      second (zero y e u) z = rw (e, u)

      merged : Kind k c h → Open k c → (i : ℕ) → bit_of (choice c a b) i ≡ table merges (bit_of a i) (bit_of b i)
      merged (sure s e) o i = absurd (o.0 s)
      merged (unsure y e u) o i = rw (e, u) (agreed-bit w a b f g i)
      merged (zero z e u) o i = absurd (zero-x k c h o.1 z)

-- ---- all

pub bit-by-bit : BitByBit
bit-by-bit =
    record {
      one = λ w l a f. one_laws w a (fits-is {w = w} f) l;
      two = λ w l a b f g. two-laws w a b (fits-is {w = w} f) (fits-is {w = w} g) l;
      chosen = λ w k c a b h f g. choice-laws w k c a b (fits-is {w = k} h) (fits-is {w = w} f) (fits-is {w = w} g);
    }
