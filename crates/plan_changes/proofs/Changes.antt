-- Laws of a change, one step more of each count, and the bound of eight. Assumes nothing.
use mathlib.Core.Path.{◌≡◌, refl, ap}
use Prim.Native.Nat.{ℕ, min, ◌+◌, ◌≤◌, ◌<◌}
use native.Mathlib.Omega.{arith}
use Rattle.std.proofs.Math.Nat.{min-eq_left, min-eq_right}
use native.Mathlib.Numerals.{add-one}
use mathlib.Core.Bool.{Bool, true, false, ◌||◌}
use mathlib.Core.List.{List}
use lib.Dec.{ltb, eqb}
use lib.ListN.{get_or, set}
use borrow.Author.Tests.{lt-ltb, le-ltb, ltb-true, ltb-false}
use Rattle.values.specs.declared.Value.{Value}
use Rattle.values.specs.Values.{pick, same}
use Rattle.values.specs.Cells.{cell_of, value_of, cell_at}
use Rattle.masks.specs.Masks.{bits, either, any_mark}
use Rattle.masks.proofs.Masks.{any-bits}
use Rattle.events.specs.Cycle.{any_below}
use Rattle.pseudocode.specs.declared.EdgeTerms.{EdgeTerms}
use Rattle.plan.specs.declared.Action.{Action}
use Rattle.plan.specs.declared.Instruction.TheVariants.{Wait, Act}
use Rattle.plan.specs.Sections.{code_place}
use Rattle.plan.specs.Plan.{Plan, decode, fetch_at, waits_at}
use Rattle.plan_changes.specs.Scene.{Stand, Changing, changing, scene}
use Rattle.plan_changes.specs.Changes.{eight, wakes, wake_thread, wake_below, wake, put, move_thread, move_below, move, opened, finish, store}

-- ---- eight

pub eight-most : (n : ℕ) → eight n ≤ 8
unfolding eight
eight-most n = by (ltb n 8) refl
  where
    by : (t : Bool) → ltb n 8 ≡ t → pick t n 8 ≤ 8
    by true e = omega (arith, ltb-true n 8 e)
    by false e = omega arith

pub min-eight : (n : ℕ) → min n 8 ≡ eight n
unfolding eight
min-eight n = by (ltb n 8) refl
  where
    by : (t : Bool) → ltb n 8 ≡ t → min n 8 ≡ pick t n 8
    by true e = let h = ltb-true n 8 e in min-eq_left (omega arith)
    by false e = min-eq_right (ltb-false n 8 e)

-- ---- one more

pub any-more : (n : ℕ) (f : ℕ → Bool) → any_below (n + 1) f ≡ (any_below n f || f n)
unfolding any_below
any-more n f = ap (λ (m : ℕ). any_below m f) (add-one n)

pub wake-more : (q : Plan) (ps : List ℕ) (v : ℕ) (a b : Value) (n : ℕ) (ws : List Bool)
    → wake_below q ps v a b (n + 1) ws ≡ wake_thread q ps v a b n (wake_below q ps v a b n ws)
unfolding wake_below
wake-more q ps v a b n ws = ap (λ (m : ℕ). wake_below q ps v a b m ws) (add-one n)

pub move-more : (q : Plan) (ws : List Bool) (n : ℕ) (s : Stand)
    → move_below q ws (n + 1) s ≡ move_thread q ws n (move_below q ws n s)
unfolding move_below
move-more q ws n s = ap (λ (m : ℕ). move_below q ws m s) (add-one n)

-- ---- wakes: an instruction that doesn't wait wakes nobody

no-wait :
    (i k l m n : Bool) (T : EdgeTerms) (s t g f e : Action) (v : ℕ) (a b : Value) → pick i k false ≡ false →
    wakes (pick i (pick k (Wait T) (pick l (Act s) (pick m (Act t) (pick n (Act g) (Act f))))) (Act e)) v a b ≡ false
unfolding wakes
no-wait true true l m n T s t g f e v a b h = ap (λ (z : Bool). pick z (wakes (Wait T) v a b) false) h
no-wait true false true m n T s t g f e v a b h = refl
no-wait true false false true n T s t g f e v a b h = refl
no-wait true false false false true T s t g f e v a b h = refl
no-wait true false false false false T s t g f e v a b h = refl
no-wait false k l m n T s t g f e v a b h = refl

pub wakes-none :
    (ws : List ℕ) (i p v : ℕ) (a b : Value) → waits_at ws i p ≡ false → wakes (fetch_at ws i p) v a b ≡ false
unfolding waits_at fetch_at decode
wakes-none ws i p v a b h =
    let k = get_or ws (code_place i p) 0 in
    no-wait (ltb i 8) (eqb k 0) (eqb k 1) (eqb k 2) (eqb k 3) _ _ _ _ _ _ v a b h

-- ---- finish: what the code made of a change, and where the threads stand after it

pub finish-made : (q : Plan) (k d : Changing) (s t : Stand) → k ≡ d → s ≡ move q k.woken t
    → scene k.cells s.places k.due s.ready ≡ finish q d t
unfolding finish
finish-made q k d s t e h = rw (← e, h)

-- ---- put: by the tests of the code

module _ (q : Plan) (ps : List ℕ) (v c : ℕ) (k : Changing) where
  pub put-past : 80 ≤ v → k ≡ put q ps v c k
  unfolding put
  put-past h = rw (le-ltb v 80 h)

  module _ (h : v < 80) (cs : List ℕ) (s : cs ≡ set k.cells v (cell_of (value_of c))) where
    pub put_same : same (cell_at k.cells v) (value_of c) ≡ true → changing cs k.due k.woken ≡ put q ps v c k
    unfolding put
    put_same e = rw (lt-ltb v 80 h, e, s)

    module _ (e : same (cell_at k.cells v) (value_of c) ≡ false) (ds : List Bool) (d : ds ≡ either k.due (q.readers v)) where
      pub put-unwatched : any_mark (q.watchers v) ≡ false → changing cs ds k.woken ≡ put q ps v c k
      unfolding put wake
      put-unwatched w = rw (lt-ltb v 80 h, e, s, d, w)

      pub put-watched : (ws : List Bool) → ws ≡ wake q ps v (cell_at k.cells v) (value_of c) k.woken
          → changing cs ds ws ≡ put q ps v c k
      unfolding put
      put-watched ws w = rw (lt-ltb v 80 h, e, s, d, w)

-- ---- store: a change that wakes nobody

pub store-quiet :
    (q : Plan) (v c : ℕ) (cs ps ks : List ℕ) (ds rs es : List Bool) → changing ks es (bits 0) ≡ put q ps v c (opened cs ds)
    → scene ks ps es rs ≡ store q v c (scene cs ps ds rs)
unfolding store finish move
store-quiet q v c cs ps ks ds rs es e = rw (← e, any-bits 0 (omega arith))
