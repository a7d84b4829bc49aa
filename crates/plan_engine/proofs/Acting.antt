-- Laws of what one choice does: an action of a thread, a due wire, the commit and the inputs, each by what the code did.
-- Assumes nothing.
use mathlib.Core.Path.{◌≡◌, refl, sym, ap, ◌∙◌}
use Prim.Native.Nat.{ℕ, ◌+◌, ◌<◌}
use native.Mathlib.Omega.{arith}
use native.Mathlib.Numerals.{add-one}
use mathlib.Core.Bool.{Bool, true, false}
use mathlib.Core.List.{List}
use lib.ListN.{get_or, set}
use lib.Dec.{ltb}
use borrow.Author.Tests.{ltb-true, ltb-false}
use Rattle.values.specs.declared.Value.{Value}
use Rattle.masks.specs.Masks.{bits}
use Rattle.masks.proofs.Masks.{get_d-bits-past}
use Rattle.values.specs.Cells.{cell_of}
use Rattle.plan.specs.declared.Expression.{Expression}
use Rattle.plan.specs.declared.Action.TheVariants.{Set, Later, Go, IfNot}
use Rattle.plan.specs.Plan.{Plan}
use Rattle.plan_changes.specs.Scene.{Stand, stand, Changing, Scene, scene}
use Rattle.plan_changes.specs.Changes.{after, placed, move, put, opened, store}
use Rattle.plan_changes.proofs.Changes.{finish-made}
use Rattle.plan_engine.specs.Live.{Live, alive, stand_of, evaluate, worth}
use Rattle.plan_engine.specs.Acting.{goes, pending_with, held_with, leg, act, settle}
use Rattle.plan_engine.specs.Acting.{put_register, put_pending, committed, commit, put_inputs, feed}

-- ---- a mask has no mark past the 32nd

pub mark-below : (m k : ℕ) → get_or (bits m) k false ≡ true → k < 32
mark-below m k e = by (ltb k 32) refl
  where
    by : (t : Bool) → ltb k 32 ≡ t → k < 32
    by true q = ltb-true k 32 q
    by false q =
        let f : false ≡ true = sym (get_d-bits-past m k (ltb-false k 32 q)) ∙ e in
        absurd (let z : ◌≡◌ {A = ℕ} 0 1 = cc in omega arith)

-- ---- act

module _ (q : Plan) (i p : ℕ) (cs ns ps : List ℕ) (ds rs hs : List Bool) where
  pub act-go : (g : ℕ) (t : Stand) → t ≡ placed q i g (stand ps rs)
      → alive cs ns t.places ds t.ready hs ≡ act q i p (Go g) (alive cs ns ps ds rs hs)
  unfolding act goes
  act-go g t h = rw h

  module _ (e : Expression) (es : List ℕ) (c : ℕ) (ev : es ≡ evaluate q e cs) (wo : c ≡ worth q e cs) where
    pub act-ifnot : (g n : ℕ) (t : Stand) → n ≡ leg c p g → t ≡ placed q i n (stand ps rs)
        → alive es ns t.places ds t.ready hs ≡ act q i p (IfNot g e) (alive cs ns ps ds rs hs)
    unfolding act goes
    act-ifnot g n t a h = rw (h, a, wo, ev)

    module _ (v n : ℕ) (a : n ≡ after p) (t : Stand) where
      pub act-set : (u : ℕ) (s : Scene) (gs : List Bool) → u ≡ v → gs ≡ hs → s ≡ store q u c (scene es ps ds rs)
          → t ≡ placed q i n (stand s.places s.ready)
          → alive s.cells ns t.places s.due t.ready gs ≡ act q i p (Set v e) (alive cs ns ps ds rs hs)
      unfolding act goes
      act-set u s gs w g k h = rw (h, a, k, w, wo, ev, g)

      pub act-later : (ms : List ℕ) (gs : List Bool) → ms ≡ pending_with q v c ns → gs ≡ held_with q v hs
          → t ≡ placed q i n (stand ps rs)
          → alive es ms t.places ds t.ready gs ≡ act q i p (Later v e) (alive cs ns ps ds rs hs)
      unfolding act goes
      act-later ms gs m g h = rw (h, a, m, g, wo, ev)

-- ---- settle

pub settle-made : (q : Plan) (k : ℕ) (cs ps : List ℕ) (ds rs : List Bool) (e : Expression) (es : List ℕ) (c v : ℕ)
    (fs : List Bool) (s : Scene) → e ≡ q.wire k → es ≡ evaluate q e cs → c ≡ worth q e cs
    → v ≡ q.inputs + q.registers + k → fs ≡ set ds k false → s ≡ store q v c (scene es ps fs rs)
    → s ≡ settle q k (scene cs ps ds rs)
unfolding settle
settle-made q k cs ps ds rs e es c v fs s w ev wo u f h = rw (h, u, f, wo, ev, w)

-- ---- commit, feed

module _ (q : Plan) (ps : List ℕ) where
  pub pending-more : (hs : List Bool) (ns : List ℕ) (n : ℕ) (k : Changing)
      → put_pending q ps hs ns (n + 1) k ≡ put_register q ps hs ns n (put_pending q ps hs ns n k)
  unfolding put_pending
  pending-more hs ns n k = ap (λ (m : ℕ). put_pending q ps hs ns m k) (add-one n)

  pub inputs-more : (f : ℕ → Value) (n : ℕ) (k : Changing)
      → put_inputs q ps f (n + 1) k ≡ put q ps n (cell_of (f n)) (put_inputs q ps f n k)
  unfolding put_inputs
  inputs-more f n k = ap (λ (m : ℕ). put_inputs q ps f m k) (add-one n)

module _ (q : Plan) (l : Live) (k : Changing) (t : Stand) (h : t ≡ move q k.woken (stand_of l)) where
  pub commit-made : k ≡ committed q l
      → alive k.cells l.pending t.places k.due t.ready (bits 0) ≡ commit q l
  unfolding commit
  commit-made e =
      ap (λ (s : Scene). alive s.cells l.pending s.places s.due s.ready (bits 0))
      (finish-made q k (committed q l) t (stand_of l) e h)

  pub feed-made : (f : ℕ → Value) → k ≡ put_inputs q l.places f q.inputs (opened l.cells l.due)
      → alive k.cells l.pending t.places k.due t.ready l.held ≡ feed q f l
  unfolding feed
  feed-made f e =
      ap (λ (s : Scene). alive s.cells l.pending s.places s.due s.ready l.held)
      (finish-made q k (put_inputs q l.places f q.inputs (opened l.cells l.due)) t (stand_of l) e h)
