-- The ways through specs/Emitting. Assumes nothing.
use mathlib.Core.Path.{◌≡◌, refl, sym, ap, ◌∙◌}
use mathlib.Core.List.{List}
use Prim.Native.Nat.{ℕ, zero, suc, ◌+◌, ◌-◌, ◌/◌, ◌%◌, ◌≤◌, ◌<◌}
use native.Mathlib.Numerals.{sub-one}
use borrow.Author.Tests.{lt-ltb, le-ltb, ne_eqb}
use lib.ListN.{length, get_or, get_or-eq_default}
use Rattle.sheet.specs.Reading.{word_of}
use Rattle.extraction.specs.declared.Expressed.{Expressed}
use Rattle.extraction.specs.Emitting.{put_node, emit_words, emit_count, Expression, expression, expressed, made}
use Rattle.extraction.specs.Emitting.{unmade, held_at, unary_at, binary_at, conditional_at, node_at, express_at}

-- ---- one node more

module _ (n : ℕ) where
  pub count-more : n < 4096 → emit_count n ≡ n + 1
  unfolding emit_count
  count-more h = simp (lt-ltb n 4096 h)

  pub count-full : 4096 ≤ n → emit_count n ≡ 4097
  unfolding emit_count
  count-full h = simp (le-ltb n 4096 h)

  module _ (k a b c : ℕ) (l : List ℕ) where
    pub words_more : n < 4096 → emit_words n k a b c l ≡ put_node n k a b c l
    unfolding emit_words
    words_more h = simp (lt-ltb n 4096 h)

    pub words-full : 4096 ≤ n → emit_words n k a b c l ≡ l
    unfolding emit_words
    words-full h = simp (le-ltb n 4096 h)

-- ---- a constant: its words are the halves of its number

pub constant-path : (next n o : ℕ) (s : List ℕ) (p : ℕ) (l : List ℕ) {x : Expression} {v a b c : ℕ} → v ≡ word_of s p → a ≡ o → b ≡ v % 65536 → c ≡ v / 65536
    → x ≡ made next n 1 a b c l → x ≡ made next n 1 o (word_of s p % 65536) (word_of s p / 65536) l
constant-path next n o s p l v a b c e =
    e ∙ (λ i. made next n 1 (a i) (b i) (c i) l) ∙ (λ i. made next n 1 o (v i % 65536) (v i / 65536) l)

-- ---- held_at

module _ (row : List ℕ) (inputs registers v : ℕ) where
  pub held-input : v < inputs → held_at row inputs registers v ≡ v
  unfolding held_at
  held-input h = simp (lt-ltb v inputs h)

  pub held-wire : inputs ≤ v → registers ≤ v - inputs → held_at row inputs registers v ≡ v
  unfolding held_at
  held-wire h g = simp (le-ltb v inputs h, le-ltb (v - inputs) registers g)

  pub held_none : inputs ≤ v → v - inputs < registers → 32 ≤ v - inputs → held_at row inputs registers v ≡ 0
  unfolding held_at
  held_none h g f = simp (le-ltb v inputs h, lt-ltb (v - inputs) registers g, le-ltb (v - inputs) 32 f)

  pub held-register : inputs ≤ v → v - inputs < registers → v - inputs < 32 → held_at row inputs registers v ≡ get_or row (v - inputs) 0
  unfolding held_at
  held-register h g f = simp (le-ltb v inputs h, lt-ltb (v - inputs) registers g, lt-ltb (v - inputs) 32 f)

-- ---- operand by operand

module _ (operand : ℕ → ℕ → List ℕ → Expression) (p n : ℕ) (l : List ℕ) {x : Expression} where
  pub unary-path : (o : ℕ) {k : ℕ} {a : Expressed} {la : List ℕ} → expression a la ≡ operand p n l → k ≡ o
      → x ≡ made a.next a.count (10 + k) a.node 0 0 la → x ≡ unary_at operand o p n l
  unfolding unary_at
  unary-path o e k f = f ∙ λ i. let a = e i in made a.answer.next a.answer.count (10 + k i) a.answer.node 0 0 a.words

  pub binary-path : (o : ℕ) {k : ℕ} {a b : Expressed} {la lb : List ℕ} → expression a la ≡ operand p n l
      → expression b lb ≡ operand a.next a.count la → k ≡ o
      → x ≡ made b.next b.count (10 + k) a.node b.node 0 lb → x ≡ binary_at operand o p n l
  unfolding binary_at
  binary-path o {a = a} e f k g =
      g
      ∙ (λ i. let b = f i in made b.answer.next b.answer.count (10 + k i) a.node b.answer.node 0 b.words)
      ∙ (λ i. let a = e i in
      let b = operand a.answer.next a.answer.count a.words in
      made b.answer.next b.answer.count (10 + o) a.answer.node b.answer.node 0 b.words)

  pub conditional-path : {c a b : Expressed} {lc la lb : List ℕ} → expression c lc ≡ operand p n l
      → expression a la ≡ operand c.next c.count lc
      → expression b lb ≡ operand a.next a.count la
      → x ≡ made b.next b.count 20 c.node a.node b.node lb → x ≡ conditional_at operand p n l
  unfolding conditional_at
  conditional-path {c} {a} e f g h =
      h
      ∙ (λ i. let b = g i in made b.answer.next b.answer.count 20 c.node a.node b.answer.node b.words)
      ∙ (λ i. let a = f i in
      let b = operand a.answer.next a.answer.count a.words in
      made b.answer.next b.answer.count 20 c.node a.answer.node b.answer.node b.words)
      ∙ (λ i. let c = e i in
      let a = operand c.answer.next c.answer.count c.words in
      let b = operand a.answer.next a.answer.count a.words in
      made b.answer.next b.answer.count 20 c.answer.node a.answer.node b.answer.node b.words)

-- ---- a map past those of a node

pub node-none : (held : ℕ → ℕ) (operand : ℕ → ℕ → List ℕ → Expression) (s : List ℕ) (m o p n : ℕ) (l : List ℕ) → (m ≡ 0x02 → ⊥) → (m ≡ 0x0C → ⊥)
    → (m ≡ 0x04 → ⊥) → (m ≡ 0x11 → ⊥) → (m ≡ 0x31 → ⊥) → (m ≡ 0x71 → ⊥) → node_at held operand s m o p n l ≡ unmade p n l
unfolding node_at
node-none held operand s m o p n l a b c d e f =
    simp (ne_eqb _ _ a, ne_eqb _ _ b, ne_eqb _ _ c, ne_eqb _ _ d, ne_eqb _ _ e, ne_eqb _ _ f)

-- ---- express_at: no level left, no byte left, and each node

module _ (held : ℕ → ℕ) (s : List ℕ) (p n : ℕ) (l : List ℕ) where
  pub express-deep : (d : ℕ) {r : Expressed} → d ≡ 0 → r ≡ expressed p 0 n → expression r l ≡ express_at held d s p n l
  unfolding express_at unmade
  express-deep d e f = rw e (λ i. expression (f i) l)

  pub express-node : (d : ℕ) {m o : ℕ} → (d ≡ 0 → ⊥) → get_or s p 0 ≡ m → o ≡ get_or s (p + 1) 0
      → express_at held d s p n l ≡ node_at held (express_at held (d - 1) s) s m o p n l
  unfolding express_at
  express-node zero h e f = absurd (h refl)
  express-node (suc d) h e f = rw (sub-one, e, f) refl

  pub express-end : (d : ℕ) {r : Expressed} → (d ≡ 0 → ⊥) → length s ≤ p → r ≡ expressed p 0 n → expression r l ≡ express_at held d s p n l
  unfolding node_at unmade
  express-end d h g f = (λ i. expression (f i) l) ∙ sym (express-node d h (get_or-eq_default s 0 g) refl)

  module _ (d : ℕ) (deep : d ≡ 0 → ⊥) where
    pub at-variable : {o r : ℕ} → get_or s p 0 ≡ 0x02 → o ≡ get_or s (p + 1) 0 → r ≡ held o
        → expression (expressed (p + 2) r n) l ≡ express_at held d s p n l
    unfolding node_at
    at-variable m e h = ap (λ (r : ℕ). expression (expressed (p + 2) r n) l) h ∙ sym (express-node d deep m e)

    pub at_constant : {o : ℕ} {x : Expression} → get_or s p 0 ≡ 0x0C → o ≡ get_or s (p + 1) 0
        → x ≡ made (p + 6) n 1 o (word_of s (p + 2) % 65536) (word_of s (p + 2) / 65536) l → x ≡ express_at held d s p n l
    unfolding node_at
    at_constant m e x = x ∙ sym (express-node d deep m e)

    pub at-unknown : {o a : ℕ} {x : Expression} → get_or s p 0 ≡ 0x04 → o ≡ get_or s (p + 1) 0 → a ≡ o → x ≡ made (p + 2) n 2 a 0 0 l
        → x ≡ express_at held d s p n l
    unfolding node_at
    at-unknown m e f x = x ∙ (λ i. made (p + 2) n 2 (f i) 0 0 l) ∙ sym (express-node d deep m e)

    pub at-unary : {o : ℕ} {x : Expression} → get_or s p 0 ≡ 0x11 → o ≡ get_or s (p + 1) 0
        → x ≡ unary_at (express_at held (d - 1) s) o (p + 2) n l → x ≡ express_at held d s p n l
    unfolding node_at
    at-unary m e x = x ∙ sym (express-node d deep m e)

    pub at-binary : {o : ℕ} {x : Expression} → get_or s p 0 ≡ 0x31 → o ≡ get_or s (p + 1) 0
        → x ≡ binary_at (express_at held (d - 1) s) o (p + 2) n l → x ≡ express_at held d s p n l
    unfolding node_at
    at-binary m e x = x ∙ sym (express-node d deep m e)

    pub at-conditional : {o : ℕ} {x : Expression} → get_or s p 0 ≡ 0x71 → o ≡ get_or s (p + 1) 0
        → x ≡ conditional_at (express_at held (d - 1) s) (p + 2) n l → x ≡ express_at held d s p n l
    unfolding node_at
    at-conditional m e x = x ∙ sym (express-node d deep m e)

    pub at_none : {m o : ℕ} {r : Expressed} → get_or s p 0 ≡ m → o ≡ get_or s (p + 1) 0 → (m ≡ 0x02 → ⊥) → (m ≡ 0x0C → ⊥) → (m ≡ 0x04 → ⊥)
        → (m ≡ 0x11 → ⊥) → (m ≡ 0x31 → ⊥) → (m ≡ 0x71 → ⊥) → r ≡ expressed p 0 n → expression r l ≡ express_at held d s p n l
    unfolding unmade
    at_none {m} {o} e f a b c x y z g =
        (λ i. expression (g i) l)
        ∙ sym (express-node d deep e f ∙ node-none held (express_at held (d - 1) s) s m o p n l a b c x y z)
