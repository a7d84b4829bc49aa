-- The threads that a change wakes are those whose waits fire on it, and moved on they stand where the simulation cycle puts them.
-- Assumes nothing.
use mathlib.Core.Path.{◌≡◌, refl, sym, ap, ◌∙◌}
use mathlib.Core.Logic.{◌≢◌}
use mathlib.Core.Bool.{Bool, true, false, ◌&&◌, ◌||◌, and-false, or-false, or-true}
use mathlib.Core.List.{List}
use Prim.Native.Nat.{ℕ, zero, suc, ◌≤◌, ◌<◌}
use native.Mathlib.Omega.{arith}
use lib.ListN.{length, get_or, set, length-set}
use lib.Seq.{get_or-set_same, get_or-set_other}
use lib.Dec.{ltb, eqb}
use borrow.Author.Tests.{ltb-false, eqb-true, eqb-false}
use Rattle.values.specs.declared.Value.{Value}
use Rattle.values.specs.Values.{pick}
use Rattle.values.specs.Edges.{fires}
use Rattle.values.proofs.Edges.{fires-refl}
use Rattle.sheet.specs.Expression.{Expr}
use Rattle.sheet.specs.Module.{Module}
use Rattle.pseudocode.specs.declared.EdgeTerms.{EdgeTerms}
use Rattle.pseudocode.specs.Translation.{Instr}
use Rattle.pseudocode.specs.Instruction.{terms_of}
use Rattle.pseudocode.specs.Fetching.{term_at}
use Rattle.pseudocode.proofs.Fetching.{term_of}
use Rattle.masks.specs.Masks.{any_mark}
use Rattle.masks.proofs.Masks.{any_none}
use Rattle.events.specs.Cycle.{code_of, instr_at, any_below, terms_fire, wait_fires}
use Rattle.events.proofs.Cycle.{absurd-bool, any_same, some_below}
use Rattle.refinement.proofs.Firing.{term-fires, waits-fire}
use Rattle.plan.specs.declared.Instruction.{Instruction}
use Rattle.plan.specs.Plan.{Plan}
use Rattle.plan_changes.specs.Changes.{eight, term_wakes, wakes, wake_thread, wake_below, wake}
use Rattle.plan_refinement.specs.Refinement.{Fetched, a-wait, a-set, a-later, a-go, an-ifnot, PlanOf}

-- ---- eight

pub eight-same : (n : ℕ) → n ≤ 8 → eight n ≡ n
unfolding eight
eight-same n h = by (ltb n 8) refl
  where
    by : (t : Bool) → ltb n 8 ≡ t → pick t n 8 ≡ n
    by true e = refl
    by false e = let l = ltb-false n 8 e in omega arith

-- ---- any_below of two tests

either-four : (a b c d : Bool) → (a || b || (c || d)) ≡ (a || c || (b || d))
either-four true b c d = refl
either-four false true c d = sym (or-true c)
either-four false false c d = refl

any-or : (f g : ℕ → Bool) (n : ℕ) → any_below n (λ k. f k || g k) ≡ (any_below n f || any_below n g)
unfolding any_below
any-or f g zero = refl
any-or f g (suc n) =
    ap (λ (b : Bool). b || (f n || g n)) (any-or f g n) ∙ either-four (any_below n f) (any_below n g) (f n) (g n)

-- ---- one variable's new value: what fires then fired before, or is woken by it

-- g are the values so far, h those with variable v's new value b; f are those before the change.
module _ (f g h : ℕ → Value) (v : ℕ) (b : Value) (fresh : g v ≡ f v) (new : h v ≡ b) (others : (u : ℕ) → v ≢ u → h u ≡ g u) where
  term-put : (t : EdgeTerms) (k : ℕ)
      → term-fires f h t k ≡ (term-fires f g t k || term_wakes t v (f v) b k)
  unfolding term_wakes
  term-put t k = by (eqb (term_at t k).variable v) refl
    where
      u : ℕ
      u = (term_at t k).variable

      by : (r : Bool) → eqb u v ≡ r
          → fires (term_at t k).edge (f u) (h u)
          ≡ (fires (term_at t k).edge (f u) (g u) || (eqb u v && fires (term_at t k).edge (f v) b))
      by true q = rw (q, eqb-true u v q, fresh, new, fires-refl (term_at t k).edge (f v))
      by false q = rw (q, others u (λ e. eqb-false u v q (sym e))) (sym (or-false (fires (term_at t k).edge (f u) (g u))))

  terms-put : (t : EdgeTerms) (n : ℕ)
      → any_below n (term-fires f h t) ≡ (any_below n (term-fires f g t) || any_below n (term_wakes t v (f v) b))
  terms-put t n =
      any_same (term-fires f h t) (λ k. term-fires f g t k || term_wakes t v (f v) b k) n (λ k l. term-put t k)
      ∙ any-or (term-fires f g t) (term_wakes t v (f v) b) n

  pub wait-put : {q : Plan} {x : Instr Expr} {y : Instruction} → Fetched q x y
      → wait_fires x f h ≡ (wait_fires x f g || wakes y v (f v) b)
  unfolding wait_fires wakes terms_of
  wait-put (a-wait {ts = ts} l) =
      sym (waits-fire f h ts l)
      ∙ terms-put (terms_of ts) (length ts)
      ∙ ap (λ (r : Bool). r || any_below (length ts) (term_wakes (terms_of ts) v (f v) b)) (waits-fire f g ts l)
      ∙ ap (λ (n : ℕ). terms_fire ts f g || any_below n (term_wakes (terms_of ts) v (f v) b)) (sym (eight-same (length ts) l))
  wait-put (a-set s) = refl
  wait-put (a-later s) = refl
  wait-put a-go = refl
  wait-put (an-ifnot s) = refl

-- ---- wake: the marks of the threads that a variable's change wakes

module _ (q : Plan) (ps : List ℕ) (v : ℕ) (a b : Value) where
  -- Does thread i watch the variable, and does its wait fire?
  abbrev pub woke : ℕ → Bool
  woke i = get_or (q.watchers v) i false && wakes (q.instruction i (get_or ps i 0)) v a b

  thread-same : (i : ℕ) (ws : List Bool) → i < length ws
      → get_or (wake_thread q ps v a b i ws) i false ≡ (get_or ws i false || woke i)
  unfolding wake_thread
  thread-same i ws h = by (woke i)
    where
      by : (t : Bool) → get_or (pick t (set ws i true) ws) i false ≡ (get_or ws i false || t)
      by true = get_or-set_same ws i true false h ∙ sym (or-true (get_or ws i false))
      by false = sym (or-false (get_or ws i false))

  thread-other : (j i : ℕ) (ws : List Bool) → i ≢ j → get_or (wake_thread q ps v a b j ws) i false ≡ get_or ws i false
  unfolding wake_thread
  thread-other j i ws h = by (woke j)
    where
      by : (t : Bool) → get_or (pick t (set ws j true) ws) i false ≡ get_or ws i false
      by true = get_or-set_other ws j i true false h
      by false = refl

  length-thread : (i : ℕ) (ws : List Bool) → length (wake_thread q ps v a b i ws) ≡ length ws
  unfolding wake_thread
  length-thread i ws = by (woke i)
    where
      by : (t : Bool) → length (pick t (set ws i true) ws) ≡ length ws
      by true = length-set ws i true
      by false = refl

  length-below : (n : ℕ) (ws : List Bool) → length (wake_below q ps v a b n ws) ≡ length ws
  unfolding wake_below
  length-below zero ws = refl
  length-below (suc n) ws = length-thread n (wake_below q ps v a b n ws) ∙ length-below n ws

  below-past : (n i : ℕ) (ws : List Bool) → n ≤ i → get_or (wake_below q ps v a b n ws) i false ≡ get_or ws i false
  unfolding wake_below
  below-past zero i ws h = refl
  below-past (suc n) i ws h =
      thread-other n i (wake_below q ps v a b n ws) (λ e. omega arith) ∙ below-past n i ws (omega arith)

  below_in : (n i : ℕ) (ws : List Bool) → i < n → n ≤ length ws
      → get_or (wake_below q ps v a b n ws) i false ≡ (get_or ws i false || woke i)
  unfolding wake_below
  below_in zero i ws h l = absurd (omega arith)
  below_in (suc n) i ws h l = by (eqb i n) refl (λ k. below_in n i ws k (omega arith))
    where
      us : List Bool
      us = wake_below q ps v a b n ws

      last : get_or (wake_thread q ps v a b n us) n false ≡ (get_or ws n false || woke n)
      last =
          thread-same n us (rw (length-below n ws) l)
          ∙ ap (λ (t : Bool). t || woke n) (below-past n n ws (omega arith))

      by : (t : Bool) → eqb i n ≡ t → (i < n → get_or us i false ≡ (get_or ws i false || woke i))
          → get_or (wake_thread q ps v a b n us) i false ≡ (get_or ws i false || woke i)
      by true e ih = rw (eqb-true i n e) last
      by false e ih =
          let d = eqb-false i n e in
          thread-other n i us d ∙ ih (omega arith)

  pub length-wake : (ws : List Bool) → length (wake q ps v a b ws) ≡ length ws
  unfolding wake
  length-wake ws = by (any_mark (q.watchers v))
    where
      by : (t : Bool) → length (pick t (wake_below q ps v a b (eight q.threads) ws) ws) ≡ length ws
      by true = length-below (eight q.threads) ws
      by false = refl

  pub wake-at : (ws : List Bool) (i : ℕ) → i < eight q.threads → eight q.threads ≤ length ws
      → get_or (wake q ps v a b ws) i false ≡ (get_or ws i false || woke i)
  unfolding wake
  wake-at ws i h l = by (any_mark (q.watchers v)) refl
    where
      by : (t : Bool) → any_mark (q.watchers v) ≡ t
          → get_or (pick t (wake_below q ps v a b (eight q.threads) ws) ws) i false ≡ (get_or ws i false || woke i)
      by true e = below_in (eight q.threads) i ws h l
      by false e = rw (any_none (q.watchers v) e i) (sym (or-false (get_or ws i false)))

-- ---- a thread whose wait fires watches the variable

both_left : (a b : Bool) → (a && b) ≡ true → a ≡ true
both_left true b e = refl
both_left false b e = e

module _ {m : Module Expr} {q : Plan} (w : PlanOf m q) (i p : ℕ) (h : i < length m.threads) (l : p < length (code_of m i))
    (v : ℕ) (a b : Value) where
  watches : {x : Instr Expr} {y : Instruction} → Fetched q x y → instr_at (code_of m i) p ≡ x
      → wakes y v a b ≡ true → get_or (q.watchers v) i false ≡ true
  unfolding wakes term_wakes terms_of
  watches (a-wait {ts = ts} few) e f =
      let s = some_below (term_wakes (terms_of ts) v a b) (eight (length ts)) f in
      let k = s.0 in
      let u = both_left (eqb (term_at (terms_of ts) k).variable v) _ s.2 in
      let z = eqb-true (term_at (terms_of ts) k).variable v u in
      let n : k < length ts = omega (arith, s.1, eight-same (length ts) few) in
      rw (← z, term_of ts k few) (w.named i p k h l e n)
  watches (a-set s) e f = absurd-bool f refl
  watches (a-later s) e f = absurd-bool f refl
  watches a-go e f = absurd-bool f refl
  watches (an-ifnot s) e f = absurd-bool f refl

  pub watch-woken : (get_or (q.watchers v) i false && wakes (q.instruction i p) v a b) ≡ wakes (q.instruction i p) v a b
  watch-woken = by (wakes (q.instruction i p) v a b) refl
    where
      by : (t : Bool) → wakes (q.instruction i p) v a b ≡ t → (get_or (q.watchers v) i false && t) ≡ t
      by true e = rw (watches (w.instruction i p h l) refl e)
      by false e = and-false (get_or (q.watchers v) i false)
