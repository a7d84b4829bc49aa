-- How statements wait: each way through a statement, one turn of the loops over the threads, and that of a statement that was read
-- the walk gives what its tree says. Assumes nothing.
use mathlib.Core.Path.{◌≡◌, refl, sym, ap, ◌∙◌}
use mathlib.Core.Bool.{Bool, true, false, not, ◌&&◌, ◌||◌}
use mathlib.Core.List.{List, ◌∷◌, map}
use Prim.Native.Nat.{ℕ, zero, suc, ◌+◌, ◌*◌, ◌-◌, ◌≤◌, ◌<◌}
use native.Mathlib.Numerals.{sub-one}
use native.Mathlib.Omega.{arith}
use borrow.Author.Tests.{lt-ltb, le-ltb}
use lib.Dec.{leb}
use lib.ListN.{length, get_or}
use Rattle.sheet.specs.Reading.{Res, ok, no}
use Rattle.sheet.specs.Expression.{Expr, Scope, located}
use Rattle.sheet.specs.Statement.{Form, an_empty, an_assign, a_later, a_sequence, an_if, an_if_else, a_while, a_forever, a_wait, form_of}
use Rattle.sheet.specs.Statement.{Stmt, empty, size, map_stmt, Body, read_stmt}
use Rattle.sheet.specs.Module.{Listed, read_threads}
use Rattle.sheet.proofs.Reading.{bind_ok, check-ok, ok-injective}
use Rattle.sheet.proofs.Statements.{ReadsStmt, an-empty, an-assign, a-later, a-sequence, an-if, an-if-else, a-while, a-forever, a-wait}
use Rattle.sheet.proofs.Statements.{form_map, map-form, derive-stmt}
use Rattle.pseudocode.specs.Skipping.{skip_at}
use Rattle.pseudocode.proofs.Skipping.{Counted, located-ok}
use Rattle.events.specs.Cycle.{any_below}
use Rattle.nextstate.specs.Rules.{starts_waiting, surely_waits, loops_wait}
use Rattle.rules.specs.declared.Waiting.{Waiting}
use Rattle.rules.proofs.Tests.{any-front}
use Rattle.rules.specs.Walking.{running, waits, in_sequence, in_if, in_if_else, in_while, in_forever, walk_form, walk_at, some_from, starts_running_from, runs_away_from}

-- ---- no level left, no byte left, no map

module _ (s ds : List ℕ) (p : ℕ) where
  pub walk_none : (d : ℕ) {r : Waiting} → d ≡ 0 → r ≡ running p → r ≡ walk_at d s ds p
  unfolding walk_at
  walk_none d e h = rw e h

  pub walk-far : (d : ℕ) {r : Waiting} → 8192 ≤ p → r ≡ running p → r ≡ walk_at d s ds p
  unfolding walk_at
  walk-far zero l h = h
  walk-far (suc d) l h = rw (le-ltb p 8192 l) h

  walk-read : (d : ℕ) (k : Res Form) → (d ≡ 0 → ⊥) → p < 8192 → form_of (get_or s p 0) p ≡ k → walk_at d s ds p ≡ walk_form (walk_at (d - 1) s ds) s ds p k
  unfolding walk_at
  walk-read zero k n h e = absurd (n refl)
  walk-read (suc d) k n h e = simp (lt-ltb p 8192 h, e, sub-one)

  pub walk-other : (d : ℕ) {r : Waiting} → (d ≡ 0 → ⊥) → p < 8192 → form_of (get_or s p 0) p ≡ no 5 p → r ≡ running p → r ≡ walk_at d s ds p
  unfolding walk_form
  walk-other d n h e r = r ∙ sym (walk-read d (no 5 p) n h e)

-- ---- the forms, from what the code's calls give

module _ (s ds : List ℕ) (p d : ℕ) (deep : d ≡ 0 → ⊥) (near : p < 8192) {r : Waiting} where
  by_form : (k : Form) → get_or s p 0 ≡ form_map k → r ≡ walk_form (walk_at (d - 1) s ds) s ds p (ok k) → r ≡ walk_at d s ds p
  by_form k m e = e ∙ sym (walk-read s ds p d (ok k) deep near (map-form (get_or s p 0) p k m))

  pub at-empty : get_or s p 0 ≡ 0x00 → r ≡ running (p + 1) → r ≡ walk_at d s ds p
  unfolding walk_form form_map
  at-empty m h = by_form an_empty m h

  pub at-assign : {e : ℕ} → get_or s p 0 ≡ 0x03 → e ≡ skip_at 16 s ds (p + 2) → r ≡ running e → r ≡ walk_at d s ds p
  unfolding walk_form form_map
  at-assign m e h = by_form an_assign m (h ∙ ap running e)

  pub at-later : {e : ℕ} → get_or s p 0 ≡ 0x23 → e ≡ skip_at 16 s ds (p + 2) → r ≡ running e → r ≡ walk_at d s ds p
  unfolding walk_form form_map
  at-later m e h = by_form a_later m (h ∙ ap running e)

  pub at-sequence : {a b : Waiting} → get_or s p 0 ≡ 0x0C → a ≡ walk_at (d - 1) s ds (p + 1) → b ≡ walk_at (d - 1) s ds a.next → r ≡ in_sequence a b → r ≡ walk_at d s ds p
  unfolding walk_form form_map
  at-sequence m a b h = by_form a_sequence m (h ∙ ap (in_sequence _) b ∙ λ i. in_sequence (a i) (walk_at (d - 1) s ds (a i).next))

  pub at-if : {e : ℕ} {a : Waiting} → get_or s p 0 ≡ 0x06 → e ≡ skip_at 16 s ds (p + 1) → a ≡ walk_at (d - 1) s ds e → r ≡ in_if a → r ≡ walk_at d s ds p
  unfolding walk_form form_map
  at-if m e a h = by_form an_if m (h ∙ ap in_if (a ∙ ap (walk_at (d - 1) s ds) e))

  pub at-if-else : {e : ℕ} {a b : Waiting} → get_or s p 0 ≡ 0x0E → e ≡ skip_at 16 s ds (p + 1) → a ≡ walk_at (d - 1) s ds e → b ≡ walk_at (d - 1) s ds a.next
      → r ≡ in_if_else a b → r ≡ walk_at d s ds p
  unfolding walk_form form_map
  at-if-else m e a b h =
      let x = a ∙ ap (walk_at (d - 1) s ds) e in
      by_form an_if_else m (h ∙ ap (in_if_else _) b ∙ λ i. in_if_else (x i) (walk_at (d - 1) s ds (x i).next))

  pub at-while : {e : ℕ} {a : Waiting} → get_or s p 0 ≡ 0x46 → e ≡ skip_at 16 s ds (p + 1) → a ≡ walk_at (d - 1) s ds e → r ≡ in_while a → r ≡ walk_at d s ds p
  unfolding walk_form form_map
  at-while m e a h = by_form a_while m (h ∙ ap in_while (a ∙ ap (walk_at (d - 1) s ds) e))

  pub at-forever : {a : Waiting} → get_or s p 0 ≡ 0x44 → a ≡ walk_at (d - 1) s ds (p + 1) → r ≡ in_forever a → r ≡ walk_at d s ds p
  unfolding walk_form form_map
  at-forever m a h = by_form a_forever m (h ∙ ap in_forever a)

  pub at-wait : {n w : ℕ} → get_or s p 0 ≡ 0x10 → n ≡ get_or s (p + 1) 0 → w ≡ n → r ≡ waits (p + 2 + 2 * w) → r ≡ walk_at d s ds p
  unfolding walk_form form_map
  at-wait m n w h = by_form a_wait m (h ∙ ap (λ (k : ℕ). waits (p + 2 + 2 * k)) (w ∙ n))

-- ---- the loop over the threads, so many of them left

module _ (f : Waiting → Bool) (s ds : List ℕ) where
  pub some-end : (n p : ℕ) → n ≡ 0 → some_from f s ds n p ≡ false
  unfolding some_from
  some-end n p e = rw e refl

  pub some-found : (n p : ℕ) {w : Waiting} → (n ≡ 0 → ⊥) → w ≡ walk_at 64 s ds p → f w ≡ true → some_from f s ds n p ≡ true
  unfolding some_from
  some-found zero p h e k = absurd (h refl)
  some-found (suc n) p h e k = rw (ap f (sym e) ∙ k)

  pub some-turn : (n p : ℕ) {w : Waiting} → (n ≡ 0 → ⊥) → w ≡ walk_at 64 s ds p → f w ≡ false
      → some_from f s ds n p ≡ some_from f s ds (n - 1) w.next
  unfolding some_from
  some-turn zero p h e k = absurd (h refl)
  some-turn (suc n) p h e k = rw (ap f (sym e) ∙ k, sub-one) (ap (λ (w : Waiting). some_from f s ds n w.next) (sym e))

module _ (s ds : List ℕ) where
  pub some-starts : (n p : ℕ) → some_from (λ w. not w.starts) s ds n p ≡ starts_running_from s ds n p
  unfolding some_from starts_running_from
  some-starts zero p = refl
  some-starts (suc n) p = let w = walk_at 64 s ds p in ap (λ t. not w.starts || t) (some-starts n w.next)

  pub some-away : (n p : ℕ) → some_from (λ w. not (w.surely && w.loops)) s ds n p ≡ runs_away_from s ds n p
  unfolding some_from runs_away_from
  some-away zero p = refl
  some-away (suc n) p = let w = walk_at 64 s ds p in ap (λ t. not (w.surely && w.loops) || t) (some-away n w.next)

-- ---- a statement that was read

-- What its tree says, and the place after it.
unfoldable pub waiting_of : ℕ → Stmt Expr → Waiting
waiting_of p a = record { next = p; starts = starts_waiting a; surely = surely_waits a; loops = loops_wait a }

-- Thread i doesn't start with a wait; its body, or one of its loops', doesn't surely wait.
abbrev pub runs_at : List (Stmt Expr) → ℕ → Bool
runs_at ts i = not (starts_waiting (get_or ts i empty))

abbrev pub away_at : List (Stmt Expr) → ℕ → Bool
away_at ts i = not (surely_waits (get_or ts i empty) && loops_wait (get_or ts i empty))

module _ (c : Scope) (s ds : List ℕ) (short : length s ≤ 8192) (counted : Counted s ds c.functions) (f : ℕ → Expr) where
  walk-map : (d p : ℕ) (k : Form) → p < length s → get_or s p 0 ≡ form_map k → walk_at (suc d) s ds p ≡ walk_form (walk_at d s ds) s ds p (ok k)
  unfolding walk_at
  walk-map d p k h e = simp (lt-ltb p 8192 (omega arith), map-form (get_or s p 0) p k e)

  -- Where an expression that was read ends.
  ends : (p : ℕ) {e : _} → located s c p ≡ ok e → skip_at 16 s ds p ≡ e.next
  ends p h = (located-ok c s ds p short counted h).skip

  pub walks : {d p : ℕ} {b : Body ℕ} → ReadsStmt (located s) c s d p b → walk_at d s ds p ≡ waiting_of b.next (map_stmt f b.stmt)
  unfolding walk_form form_map waiting_of map_stmt starts_waiting surely_waits loops_wait running waits in_sequence in_if in_if_else in_while in_forever
  walks {p = p} (an-empty {d = d} l m) = walk-map d p an_empty l m
  walks {p = p} (an-assign {d = d} l m t r e w) = walk-map d p an_assign (omega arith) m ∙ ap running (ends (p + 2) e)
  walks {p = p} (a-later {d = d} l m t r e w) = walk-map d p a_later (omega arith) m ∙ ap running (ends (p + 2) e)
  walks {p = p} (a-sequence {d = d} {a = a} l m x y) =
      walk-map d p a_sequence l m
      ∙ ap (λ (w : Waiting). in_sequence w (walk_at d s ds w.next)) (walks x)
      ∙ ap (in_sequence (waiting_of a.next (map_stmt f a.stmt))) (walks y)
  walks {p = p} (an-if {d = d} l m e x) = walk-map d p an_if l m ∙ ap in_if (ap (walk_at d s ds) (ends (p + 1) e) ∙ walks x)
  walks {p = p} (an-if-else {d = d} {a = a} l m e x y) =
      walk-map d p an_if_else l m
      ∙ ap (λ (w : Waiting). in_if_else w (walk_at d s ds w.next)) (ap (walk_at d s ds) (ends (p + 1) e) ∙ walks x)
      ∙ ap (in_if_else (waiting_of a.next (map_stmt f a.stmt))) (walks y)
  walks {p = p} (a-while {d = d} l m e x) = walk-map d p a_while l m ∙ ap in_while (ap (walk_at d s ds) (ends (p + 1) e) ∙ walks x)
  walks {p = p} (a-forever {d = d} l m x) = walk-map d p a_forever l m ∙ ap in_forever (walks x)
  walks {p = p} (a-wait {d = d} m n ts w) =
      let b = n.below in
      walk-map d p a_wait (omega arith) m ∙ ap (λ (k : ℕ). waits (p + 2 + 2 * k)) n.same

  -- ---- threads that were read

  pub starts-read : (n p : ℕ) {l : Listed (Stmt ℕ)} → read_threads (located s) c s n p ≡ ok l
      → starts_running_from s ds n p ≡ any_below (length l.items) (runs_at (map (map_stmt f) l.items))
  unfolding read_threads starts_running_from any_below waiting_of
  starts-read zero p h = rw (← ok-injective h) refl
  starts-read (suc n) p h =
      let b = bind_ok (read_stmt (located s) c s 64 p) _ h in
      let k = check-ok (leb (size b.0.stmt + 1) 256) 11 p _ b.2 in
      let bs = bind_ok (read_threads (located s) c s n b.0.next) _ k.1 in
      let a = walks (derive-stmt (located s) c s 64 p b.1) in
      let ts = map (map_stmt f) (b.0.stmt ∷ bs.0.items) in
      rw (← ok-injective {a = record { items = b.0.stmt ∷ bs.0.items; next = bs.0.next }} bs.2)
      (ap (λ (w : Waiting). not w.starts || starts_running_from s ds n w.next) a
      ∙ ap (λ t. not (starts_waiting (map_stmt f b.0.stmt)) || t) (starts-read n b.0.next bs.1)
      ∙ sym (any-front (runs_at ts) (length bs.0.items)))

  pub away-read : (n p : ℕ) {l : Listed (Stmt ℕ)} → read_threads (located s) c s n p ≡ ok l
      → runs_away_from s ds n p ≡ any_below (length l.items) (away_at (map (map_stmt f) l.items))
  unfolding read_threads runs_away_from any_below waiting_of
  away-read zero p h = rw (← ok-injective h) refl
  away-read (suc n) p h =
      let b = bind_ok (read_stmt (located s) c s 64 p) _ h in
      let k = check-ok (leb (size b.0.stmt + 1) 256) 11 p _ b.2 in
      let bs = bind_ok (read_threads (located s) c s n b.0.next) _ k.1 in
      let a = walks (derive-stmt (located s) c s 64 p b.1) in
      let v = map_stmt f b.0.stmt in
      let ts = map (map_stmt f) (b.0.stmt ∷ bs.0.items) in
      rw (← ok-injective {a = record { items = b.0.stmt ∷ bs.0.items; next = bs.0.next }} bs.2)
      (ap (λ (w : Waiting). not (w.surely && w.loops) || runs_away_from s ds n w.next) a
      ∙ ap (λ t. not (surely_waits v && loops_wait v) || t) (away-read n b.0.next bs.1)
      ∙ sym (any-front (away_at ts) (length bs.0.items)))
