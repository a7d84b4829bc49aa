-- The ways through specs/Walking. Assumes nothing.
use mathlib.Core.Path.{◌≡◌, refl, sym, ap, ◌∙◌}
use mathlib.Core.Bool.{true, false}
use mathlib.Core.List.{List, []}
use Prim.Native.Nat.{ℕ, zero, suc, ◌+◌, ◌-◌, ◌%◌, ◌≤◌, ◌<◌}
use native.Mathlib.Numerals.{add-one, sub-one}
use borrow.Author.Tests.{lt-ltb, le-ltb}
use lib.ListN.{get_or, set}
use Rattle.masks.specs.Masks.{bits}
use Rattle.pseudocode.specs.declared.Action.{Action}
use Rattle.pseudocode.specs.declared.EdgeTerms.{EdgeTerms}
use Rattle.pseudocode.specs.declared.Instruction.{Instruction}
use Rattle.pseudocode.specs.declared.Instruction.TheVariants.{Wait, Act}
use Rattle.pseudocode.specs.Filling.{after}
use Rattle.pseudocode.specs.Fetching.{fetch_at}
use Rattle.extraction.specs.declared.Expressed.{Expressed}
use Rattle.extraction.specs.declared.Thread.{Thread}
use Rattle.extraction.specs.declared.Merged.{Merged}
use Rattle.extraction.specs.declared.Walked.{Walked}
use Rattle.extraction.specs.Emitting.{emit_words, emit_count, expression, held_at, express_at}
use Rattle.extraction.specs.Walking.{fill_below, own_node, put_at, land_at, Walking, walking, walked}
use Rattle.extraction.specs.Walking.{merging, merged, merge_node, merge_one, merge_below, join_at}
use Rattle.extraction.specs.Walking.{ended, wait_at, assign_at, branch_at, act_at, visit_at, walk_at}

-- ---- own_node, put_at

module _ (inputs registers r : ℕ) where
  pub own_in : r < registers → own_node inputs registers r ≡ inputs + r
  unfolding own_node
  own_in h = simp (lt-ltb r registers h)

  pub own-past : registers ≤ r → own_node inputs registers r ≡ 0
  unfolding own_node
  own-past h = simp (le-ltb r registers h)

module _ (h : List (List ℕ)) (k r n : ℕ) where
  pub put-row-past : 2 ≤ k → put_at h k r n ≡ h
  unfolding put_at
  put-row-past l = simp (le-ltb k 2 l)

  pub put-past : k < 2 → 32 ≤ r → put_at h k r n ≡ h
  unfolding put_at
  put-past l g = simp (lt-ltb k 2 l, le-ltb r 32 g)

  pub put_in : k < 2 → r < 32 → put_at h k r n ≡ set h k (set (get_or h k []) r n)
  unfolding put_at
  put_in l g = simp (lt-ltb k 2 l, lt-ltb r 32 g)

-- ---- fill_below: no item, and one more

module _ (f : ℕ → ℕ) (row : List ℕ) where
  pub fill_none : row ≡ fill_below f 0 row
  unfolding fill_below
  fill_none = refl

  pub fill-turn : (k : ℕ) {xs : List ℕ} {x : ℕ} → xs ≡ fill_below f k row → x ≡ f k → set xs k x ≡ fill_below f (k + 1) row
  unfolding fill_below
  fill-turn k e g = rw (add-one k) (λ i. set (e i) k (g i))

-- ---- merge_node: a register that is written, and one that isn't

module _ (written c r x y n : ℕ) (l : List ℕ) where
  pub merge-written : {m : ℕ} {la : List ℕ} → true ≡ get_or (bits written) r false → m ≡ emit_count n → la ≡ emit_words n 40 c x y l
      → merging (merged n m) la ≡ merge_node written c r x y n l
  unfolding merge_node
  merge-written e f g = rw (← e) (λ i. merging (merged n (f i)) (g i))

  pub merge-other : false ≡ get_or (bits written) r false → merging (merged x n) l ≡ merge_node written c r x y n l
  unfolding merge_node
  merge-other e = rw (← e) refl

-- ---- merge_below, join_at

module _ (written c : ℕ) (a b : Walked) (l : List ℕ) where
  pub merge_none : walking (walked b.count 0 a.registers) l ≡ merge_below written c a b 0 l
  unfolding merge_below
  merge_none = refl

  pub merge-turn : (r : ℕ) {n : ℕ} {row : List ℕ} {la lb : List ℕ} {m : Merged}
      → walking (walked n 0 row) la ≡ merge_below written c a b r l
      → merging m lb ≡ merge_node written c r (get_or a.registers r 0) (get_or b.registers r 0) n la
      → walking (walked m.count 0 (set row r m.node)) lb ≡ merge_below written c a b (r + 1) l
  unfolding merge_below merge_one
  merge-turn r {row = row} e f =
      rw (add-one r)
      ((λ i. let g = f i in walking (walked g.answer.count 0 (set row r g.answer.node)) g.words)
      ∙ (λ i. let x = e i in
      let g = merge_node written c r (get_or a.registers r 0) (get_or b.registers r 0) x.answer.count x.words in
      walking (walked g.answer.count 0 (set x.answer.registers r g.answer.node)) g.words))

  pub join-path : {n m : ℕ} {row : List ℕ} {la lb : List ℕ} → walking (walked n 0 row) la ≡ merge_below written c a b 32 l
      → m ≡ emit_count n → lb ≡ emit_words n 40 c a.place b.place la
      → walking (walked m n row) lb ≡ join_at written c a b l
  unfolding join_at
  join-path {n} {row = row} e f g =
      (λ i. walking (walked (f i) n row) (g i))
      ∙ (λ i. let x = e i in
      let n = x.answer.count in
      walking (walked (emit_count n) n x.answer.registers) (emit_words n 40 c a.place b.place x.words))

-- ---- one instruction

pub wait-path : (t : Thread) (p : ℕ) (h : List (List ℕ)) (n : ℕ) (l : List ℕ) {m w : ℕ} {row la : List ℕ} → row ≡ land_at h t.deferred
    → m ≡ emit_count n → w ≡ p % 65536 → la ≡ emit_words n 1 8 w 0 l → walking (walked m n row) la ≡ wait_at t p h n l
unfolding wait_at
wait-path t p h n l {w = w} e f g k =
    (λ i. walking (walked (f i) n (e i)) (k i)) ∙ (λ i. walking (walked (emit_count n) n (land_at h t.deferred)) (emit_words n 1 8 (g i) 0 l))

module _ (s : List ℕ) (t : Thread) (next : ℕ → List (List ℕ) → ℕ → List ℕ → Walking) (p : ℕ) (h : List (List ℕ)) (n : ℕ) (l : List ℕ) where
  abbrev held_in : ℕ → ℕ
  held_in = held_at (get_or h 0 []) t.inputs t.registers

  pub assign-path : (k v e : ℕ) {x : Expressed} {lx : List ℕ} {q r : ℕ} {g : List (List ℕ)} {w : Walking}
      → expression x lx ≡ express_at held_in 16 s e n l → q ≡ after p → r ≡ v - t.inputs → g ≡ put_at h k r x.node
      → w ≡ next q g x.count lx → w ≡ assign_at s t next k v e p h n l
  unfolding assign_at
  assign-path k v e {x} {lx} x-made q-after r-register g-put w-next =
      w-next
      ∙ (λ i. next (q-after i) (g-put i) x.count lx)
      ∙ (λ i. next (after p) (put_at h k (r-register i) x.node) x.count lx)
      ∙ (λ i. let x = x-made i in next (after p) (put_at h k (v - t.inputs) x.answer.node) x.answer.count x.words)

  pub branch-path : (g e : ℕ) {x : Expressed} {a b : Walked} {lx la lb : List ℕ} {q : ℕ} {w : Walking}
      → expression x lx ≡ express_at held_in 16 s e n l → q ≡ after p → walking a la ≡ next q h x.count lx
      → walking b lb ≡ next g h a.count la → w ≡ join_at t.written x.node a b lb → w ≡ branch_at s t next g e p h n l
  unfolding branch_at
  branch-path g e {x} {a} {b} {lx} {la} x-made q-after a-walked b-walked joined =
      let a-walked = a-walked ∙ (λ i. next (q-after i) h x.count lx) in
      joined
      ∙ (λ i. let b = b-walked i in join_at t.written x.node a b.answer b.words)
      ∙ (λ i. let a = a-walked i in
      let b = next g h a.answer.count a.words in
      join_at t.written x.node a.answer b.answer b.words)
      ∙ (λ i. let x = x-made i in
      let a = next (after p) h x.answer.count x.words in
      let b = next g h a.answer.count a.words in
      join_at t.written x.answer.node a.answer b.answer b.words)

-- ---- walk_at

module _ (s code : List ℕ) (t : Thread) (p : ℕ) (h : List (List ℕ)) (n : ℕ) (l : List ℕ) where
  pub walk-spent : (f : ℕ) {w : Walked} → f ≡ 0 → w ≡ walked n 0 (get_or h 0 []) → walking w l ≡ walk_at s code t f p h n l
  unfolding walk_at ended
  walk-spent f e g = rw e (λ i. walking (g i) l)

  pub walk-full : (f : ℕ) {w : Walked} → (f ≡ 0 → ⊥) → 4096 < n → w ≡ walked n 0 (get_or h 0 []) → walking w l ≡ walk_at s code t f p h n l
  unfolding walk_at ended
  walk-full zero e m g = absurd (e refl)
  walk-full (suc f) e m g = rw (lt-ltb 4096 n m) (λ i. walking (g i) l)

  module _ (f : ℕ) (some : f ≡ 0 → ⊥) (room : n ≤ 4096) where
    walk-visit : (i : Instruction) → i ≡ fetch_at s code t.number p
        → visit_at s t (walk_at s code t (f - 1)) p h n l i ≡ walk_at s code t f p h n l
    unfolding walk_at
    walk-visit i e = by f some
      where
        by : (f : ℕ) → (f ≡ 0 → ⊥) → visit_at s t (walk_at s code t (f - 1)) p h n l i ≡ walk_at s code t f p h n l
        by zero z = absurd (z refl)
        by (suc f) z = rw (sub-one, le-ltb 4096 n room) (ap (visit_at s t (walk_at s code t f) p h n l) e)

    pub walk-wait : (i : Instruction) {ts : EdgeTerms} {w : Walking} → i ≡ fetch_at s code t.number p → i ≡ Wait ts → w ≡ wait_at t p h n l
        → w ≡ walk_at s code t f p h n l
    unfolding visit_at
    walk-wait i e g w = w ∙ sym (ap (visit_at s t (walk_at s code t (f - 1)) p h n l) g) ∙ walk-visit i e

    pub walk-act : (i : Instruction) {a : Action} {w : Walking} → i ≡ fetch_at s code t.number p → i ≡ Act a
        → w ≡ act_at s t (walk_at s code t (f - 1)) p h n l a → w ≡ walk_at s code t f p h n l
    unfolding visit_at
    walk-act i e g w = w ∙ sym (ap (visit_at s t (walk_at s code t (f - 1)) p h n l) g) ∙ walk-visit i e
