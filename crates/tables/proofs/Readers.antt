-- Laws of the tables: each way through a definition, and one turn of each loop. Assumes nothing.
use mathlib.Core.Path.{◌≡◌, refl, sym, ap, ◌∙◌}
use mathlib.Core.Bool.{Bool, true, false}
use mathlib.Core.List.{List}
use Prim.Native.Nat.{ℕ, zero, suc, min, ◌+◌, ◌-◌, ◌^◌, ◌≤◌, ◌<◌}
use native.Mathlib.Numerals.{add-one, sub-one}
use native.Mathlib.Omega.{arith}
use Rattle.std.proofs.Math.Nat.{min-eq_left, min-eq_right}
use borrow.Author.Tests.{lt-ltb, le-ltb, ltb-true, ltb-false, ne_eqb}
use lib.Dec.{ltb}
use lib.ListN.{length, get_or, set, get_or-eq_default}
use Rattle.values.specs.Values.{pick}
use Rattle.sheet.specs.declared.EdgeTerm.{EdgeTerm}
use Rattle.pseudocode.specs.Skipping.{argument_count}
use Rattle.pseudocode.specs.declared.EdgeTerms.{EdgeTerms}
use Rattle.pseudocode.specs.declared.Instruction.{Instruction}
use Rattle.pseudocode.specs.Fetching.{term_at, fetch_at}
use Rattle.pseudocode.proofs.Skipping.{arguments-most}
use Rattle.masks.specs.Masks.{bits, mask}
use Rattle.masks.proofs.Masks.{mask-bits}
use Rattle.tables.specs.Readers.{at_most, Marking, marking, mark_variable, mark_binary, mark_conditional, mark_arguments, mark_node, mark_at, readers_below}
use Rattle.tables.specs.Readers.{watch_variable, watch_terms, watch_instr, watch_thread, watched_below}

-- ---- at_most

module _ (limit n : ℕ) where
  pub at_most-in : n < limit → at_most limit n ≡ n
  unfolding at_most
  at_most-in h = simp (lt-ltb n limit h)

  pub at_most-cut : limit ≤ n → at_most limit n ≡ limit
  unfolding at_most
  at_most-cut h = simp (le-ltb n limit h)

  pub at_most-most : at_most limit n ≤ limit
  unfolding at_most
  at_most-most = by (ltb n limit) refl
    where
      by : (t : Bool) → ltb n limit ≡ t → pick t n limit ≤ limit
      by true e = let l = ltb-true n limit e in omega arith
      by false e = omega arith

  pub at_most-same : n ≤ limit → at_most limit n ≡ n
  unfolding at_most
  at_most-same h = by (ltb n limit) refl
    where
      by : (t : Bool) → ltb n limit ≡ t → pick t n limit ≡ n
      by true e = refl
      by false e = let l = ltb-false n limit e in omega arith

  pub min-at_most : min n limit ≡ at_most limit n
  unfolding at_most
  min-at_most = by (ltb n limit) refl
    where
      by : (t : Bool) → ltb n limit ≡ t → min n limit ≡ pick t n limit
      by true e = let l = ltb-true n limit e in min-eq_left (omega arith)
      by false e = min-eq_right (ltb-false n limit e)

-- ---- mark_variable

module _ (k v : ℕ) (rs : List ℕ) where
  pub mark_variable-past : 80 ≤ v → mark_variable k v rs ≡ rs
  unfolding mark_variable
  mark_variable-past h = simp (le-ltb v 80 h)

  pub mark_variable-in : v < 80 → mark_variable k v rs ≡ set rs v (mask (set (bits (get_or rs v 0)) k true))
  unfolding mark_variable
  mark_variable-in h = simp (lt-ltb v 80 h)

  -- A word with these bits is the word that is stored.
  pub mark_variable-word : {r : ℕ} → v < 80 → r < 2 ^ 32 → bits r ≡ set (bits (get_or rs v 0)) k true → set rs v r ≡ mark_variable k v rs
  mark_variable-word {r} h l e = ap (set rs v) (sym (mask-bits r l) ∙ ap mask e) ∙ sym (mark_variable-in h)

-- ---- mark_binary, mark_conditional: operand by operand

module _ (operand : ℕ → List ℕ → Marking) (p : ℕ) (rs : List ℕ) where
  pub binary-path : {a : ℕ} {ss : List ℕ} {x : Marking} → marking a ss ≡ operand p rs → x ≡ operand a ss → x ≡ mark_binary operand p rs
  unfolding mark_binary
  binary-path e f = f ∙ λ i. operand (e i).next (e i).readers

  pub conditional-path : {a b : ℕ} {ss us : List ℕ} {x : Marking} → marking a ss ≡ operand p rs → marking b us ≡ operand a ss → x ≡ operand b us
      → x ≡ mark_conditional operand p rs
  unfolding mark_conditional mark_binary
  conditional-path e f g = let h = binary-path e f in g ∙ λ i. operand (h i).next (h i).readers

-- ---- mark_arguments: at most four, none, and one by one

pub count_most : (s ds : List ℕ) (n : ℕ) {r : ℕ} → r ≡ argument_count s ds n → r ≤ 4
count_most s ds n e = let m = arguments-most s ds n in omega arith

module _ (operand : ℕ → List ℕ → Marking) where
  pub arguments-none : (n p : ℕ) (rs : List ℕ) → n ≡ 0 → mark_arguments operand n p rs ≡ marking p rs
  unfolding mark_arguments
  arguments-none n p rs e = rw e refl

  pub arguments-next : (n p : ℕ) (rs : List ℕ) {a : ℕ} {ss : List ℕ} {x : Marking} → (n ≡ 0 → ⊥) → marking a ss ≡ operand p rs
      → x ≡ mark_arguments operand (n - 1) a ss → x ≡ mark_arguments operand n p rs
  unfolding mark_arguments
  arguments-next zero p rs h e f = absurd (h refl)
  arguments-next (suc n) p rs h e f = (rw sub-one at f) ∙ λ i. mark_arguments operand n (e i).next (e i).readers

-- ---- mark_node: a map past those of a node

pub mark_node-none : (operand : ℕ → List ℕ → Marking) (s ds : List ℕ) (k m p : ℕ) (rs : List ℕ) → (m ≡ 0x02 → ⊥) → (m ≡ 0x0C → ⊥) → (m ≡ 0x04 → ⊥)
    → (m ≡ 0x11 → ⊥) → (m ≡ 0x31 → ⊥) → (m ≡ 0x71 → ⊥) → (m ≡ 0x80 → ⊥) → mark_node operand s ds k m p rs ≡ marking p rs
unfolding mark_node
mark_node-none operand s ds k m p rs a b c d e f g =
    simp (ne_eqb _ _ a, ne_eqb _ _ b, ne_eqb _ _ c, ne_eqb _ _ d, ne_eqb _ _ e, ne_eqb _ _ f, ne_eqb _ _ g)

-- ---- mark_at: no level left, no byte left, and each node

module _ (s ds : List ℕ) (k p : ℕ) (rs : List ℕ) where
  pub mark-deep : (d : ℕ) → d ≡ 0 → mark_at d s ds k p rs ≡ marking p rs
  unfolding mark_at
  mark-deep d e = rw e refl

  pub mark-node : (d : ℕ) {m : ℕ} → (d ≡ 0 → ⊥) → get_or s p 0 ≡ m → mark_at d s ds k p rs ≡ mark_node (mark_at (d - 1) s ds k) s ds k m p rs
  unfolding mark_at
  mark-node zero h e = absurd (h refl)
  mark-node (suc d) h e = rw (sub-one, e) refl

  pub mark-end : (d : ℕ) → (d ≡ 0 → ⊥) → length s ≤ p → mark_at d s ds k p rs ≡ marking p rs
  unfolding mark_node
  mark-end d h l = mark-node d h (get_or-eq_default s 0 l)

  module _ (d : ℕ) (deep : d ≡ 0 → ⊥) where
    pub at-variable : {v : ℕ} {ss : List ℕ} → get_or s p 0 ≡ 0x02 → v ≡ get_or s (p + 1) 0 → ss ≡ mark_variable k v rs
        → marking (p + 2) ss ≡ mark_at d s ds k p rs
    unfolding mark_node
    at-variable m e h = ap (marking (p + 2)) (h ∙ ap (λ (u : ℕ). mark_variable k u rs) e) ∙ sym (mark-node d deep m)

    pub at_constant : get_or s p 0 ≡ 0x0C → marking (p + 6) rs ≡ mark_at d s ds k p rs
    unfolding mark_node
    at_constant m = sym (mark-node d deep m)

    pub at-unknown : get_or s p 0 ≡ 0x04 → marking (p + 2) rs ≡ mark_at d s ds k p rs
    unfolding mark_node
    at-unknown m = sym (mark-node d deep m)

    pub at-unary : {x : Marking} → get_or s p 0 ≡ 0x11 → x ≡ mark_at (d - 1) s ds k (p + 2) rs → x ≡ mark_at d s ds k p rs
    unfolding mark_node
    at-unary m h = h ∙ sym (mark-node d deep m)

    pub at-binary : {x : Marking} → get_or s p 0 ≡ 0x31 → x ≡ mark_binary (mark_at (d - 1) s ds k) (p + 2) rs → x ≡ mark_at d s ds k p rs
    unfolding mark_node
    at-binary m h = h ∙ sym (mark-node d deep m)

    pub at-conditional : {x : Marking} → get_or s p 0 ≡ 0x71 → x ≡ mark_conditional (mark_at (d - 1) s ds k) (p + 2) rs → x ≡ mark_at d s ds k p rs
    unfolding mark_node
    at-conditional m h = h ∙ sym (mark-node d deep m)

    pub at_call : {x : Marking} {n c : ℕ} → get_or s p 0 ≡ 0x80 → n ≡ get_or s (p + 1) 0 → c ≡ argument_count s ds n
        → x ≡ mark_arguments (mark_at (d - 1) s ds k) c (p + 2) rs → x ≡ mark_at d s ds k p rs
    unfolding mark_node
    at_call m e f h =
        h ∙ ap (λ (n : ℕ). mark_arguments (mark_at (d - 1) s ds k) n (p + 2) rs) (f ∙ ap (argument_count s ds) e) ∙ sym (mark-node d deep m)

-- ---- readers_below: no wire, and one more

pub readers-none : (s ds starts rs : List ℕ) → rs ≡ readers_below s ds starts 0 rs
unfolding readers_below
readers-none s ds starts rs = refl

pub readers-turn : (s ds starts : List ℕ) (k : ℕ) (rs : List ℕ) {ss us : List ℕ} {p : ℕ} → ss ≡ readers_below s ds starts k rs
    → marking p us ≡ mark_at 16 s ds k (get_or starts k 0) ss → us ≡ readers_below s ds starts (k + 1) rs
unfolding readers_below
readers-turn s ds starts k rs e h =
    rw (add-one k) (ap (λ (x : Marking). x.readers) h ∙ ap (λ (ss : List ℕ). (mark_at 16 s ds k (get_or starts k 0) ss).readers) e)

-- ---- watch_variable

module _ (v : ℕ) (ws : List Bool) where
  pub watch_variable-past : 80 ≤ v → watch_variable v ws ≡ ws
  unfolding watch_variable
  watch_variable-past h = simp (le-ltb v 80 h)

  pub watch_variable-in : v < 80 → watch_variable v ws ≡ set ws v true
  unfolding watch_variable
  watch_variable-in h = simp (lt-ltb v 80 h)

-- ---- watch_terms: no term, and one more

pub terms-none : (t : EdgeTerms) (ws : List Bool) → ws ≡ watch_terms t 0 ws
unfolding watch_terms
terms-none t ws = refl

pub terms-turn : (t : EdgeTerms) (k : ℕ) (ws : List Bool) {vs us : List Bool} {x : EdgeTerm} → vs ≡ watch_terms t k ws → x ≡ term_at t k
    → us ≡ watch_variable x.variable vs → us ≡ watch_terms t (k + 1) ws
unfolding watch_terms
terms-turn t k ws e x h = rw (add-one k) (h ∙ λ i. watch_variable (x i).variable (e i))

-- ---- watch_thread: no place, and one more

pub thread-none : (s code : List ℕ) (t : ℕ) (ws : List Bool) → ws ≡ watch_thread s code t 0 ws
unfolding watch_thread
thread-none s code t ws = refl

pub thread-turn : (s code : List ℕ) (t p : ℕ) (ws : List Bool) {vs us : List Bool} {x : Instruction} → vs ≡ watch_thread s code t p ws → x ≡ fetch_at s code t p
    → us ≡ watch_instr x vs → us ≡ watch_thread s code t (p + 1) ws
unfolding watch_thread
thread-turn s code t p ws e x h = rw (add-one p) (h ∙ λ i. watch_instr (x i) (e i))

-- ---- watched_below: no thread, and one more

pub watched-none : (s code sizes : List ℕ) (ws : List Bool) → ws ≡ watched_below s code sizes 0 ws
unfolding watched_below
watched-none s code sizes ws = refl

pub watched-turn : (s code sizes : List ℕ) (t : ℕ) (ws : List Bool) {vs us : List Bool} {n : ℕ} → vs ≡ watched_below s code sizes t ws
    → n ≡ at_most 256 (get_or sizes t 0) → us ≡ watch_thread s code t n vs → us ≡ watched_below s code sizes (t + 1) ws
unfolding watched_below
watched-turn s code sizes t ws e n h = rw (add-one t) (h ∙ λ i. watch_thread s code t (n i) (e i))
