-- The instructions of a body do what its tree does: what is done along them is the same, and so is the result.
use mathlib.Core.Path.{◌≡◌, refl, ap, ◌∙◌}
use Prim.Native.Nat.{ℕ, zero, suc, ◌+◌, ◌≤◌, ◌<◌}
use native.Mathlib.Omega.{arith}
use mathlib.Core.Bool.{Bool, true, false}
use mathlib.Core.List.{List}
use borrow.Author.Tests.{lt-ltb, le-ltb}
use Rattle.values.specs.declared.Value.{Value}
use Rattle.values.specs.Values.{pick, holds}
use Rattle.sheet.specs.Expression.{Expr, Body, nothing, result, in_turn, if_then, if_else}
use Rattle.evaluation.specs.Evaluation.{frame, eval, run}
use Rattle.bodies.specs.Steps.{Step, go, size_of, lay_out}
use Rattle.bodies.specs.Along.{along, step, steps, work_assign, work_branch, run_steps}
use Rattle.bodies.proofs.Steps.{lay_out-size, Lies, lies-first, lies-second, lies-here, lies-on}

module _ {K : Type 0} (assign : Expr → K → K) (branch : Expr → K → K → K) (fetch : ℕ → Step Expr) (end : ℕ) (k : K) where
  abbrev from : ℕ → ℕ → K
  from = steps assign branch fetch end k

  -- One instruction before the end.
  from_step : (n p : ℕ) {i : Step Expr} → p < end → fetch p ≡ i → from (suc n) p ≡ step assign branch (from n) p i
  unfolding steps
  from_step n p l e = rw (lt-ltb p end l, e)

  -- Wherever a body lies before the end: q is the place behind it, where `rest` is left to do.
  from-body : (b : Body) (p q : ℕ) (rest : K) → q ≡ p + size_of b → q ≤ end → Lies fetch p (lay_out b p)
      → ((m : ℕ) → end ≤ q + m → from m q ≡ rest)
      → (m : ℕ) → end ≤ p + m → from m p ≡ along assign branch b rest
  unfolding along size_of lay_out step
  from-body nothing p q rest e u h c m l = let z : p ≡ q = omega arith in rw z (c m (omega arith))
  from-body (result x) p q rest e u h c zero l = absurd (omega arith)
  from-body (result x) p q rest e u h c (suc n) l =
      from_step n p (omega arith) (lies-here h) ∙ ap (assign x) (let z : p + 1 ≡ q = omega arith in rw z (c n (omega arith)))
  from-body (in_turn a b) p q rest e u h c m l =
      let s = lay_out-size a p in
      from-body a p (p + size_of a) (along assign branch b rest) refl (omega arith) (lies-first (lay_out a p) _ h)
      (from-body b (p + size_of a) q rest (omega arith) u (lies-second (lay_out a p) (p + size_of a) (omega arith) h) c)
      m l
  from-body (if_then x a) p q rest e u h c zero l = absurd (omega arith)
  from-body (if_then x a) p q rest e u h c (suc n) l =
      let held = from-body a (p + 1) q rest (omega arith) u (lies-on h) c n (omega arith) in
      let z : p + 1 + size_of a ≡ q = omega arith in
      let other : from n (p + 1 + size_of a) ≡ rest = rw z (c n (omega arith)) in
      from_step n p (omega arith) (lies-here h) ∙ λ i. branch x (held i) (other i)
  from-body (if_else x a b) p q rest e u h c zero l = absurd (omega arith)
  from-body (if_else x a b) p q rest e u h c (suc n) l =
      let s = lay_out-size a (p + 1) in
      let behind = lies-second (lay_out a (p + 1)) (p + 1 + size_of a) (omega arith) (lies-on h) in
      let z : p + 2 + size_of a + size_of b ≡ q = omega arith in
      let y : p + 1 + size_of a + 1 ≡ p + 2 + size_of a = omega arith in
      let held =
      from-body a (p + 1) (p + 1 + size_of a) rest refl (omega arith) (lies-first (lay_out a (p + 1)) _ (lies-on h))
      (leap (p + 1 + size_of a) (p + 2 + size_of a + size_of b) rest (omega arith) (omega arith) (lies-here behind) (rw z c))
      n (omega arith)
      in
      let other = from-body b (p + 2 + size_of a) q rest (omega arith) u (rw y at (lies-on behind)) c n (omega arith) in
      from_step n p (omega arith) (lies-here h) ∙ λ i. branch x (held i) (other i)
    where
      leap : (p g : ℕ) (rest : K) → p < end → p < g → fetch p ≡ go g → ((m : ℕ) → end ≤ g + m → from m g ≡ rest)
          → (m : ℕ) → end ≤ p + m → from m p ≡ rest
      leap p g rest u v e c zero l = absurd (omega arith)
      leap p g rest u v e c (suc m) l = from_step m p u e ∙ c m (omega arith)

-- ---- a whole body

-- At the end nothing more is done.
at-end : {K : Type 0} (assign : Expr → K → K) (branch : Expr → K → K → K) (fetch : ℕ → Step Expr) (end : ℕ) (k : K) (m : ℕ)
    → steps assign branch fetch end k m end ≡ k
unfolding steps
at-end assign branch fetch end k zero = refl
at-end assign branch fetch end k (suc m) = rw (le-ltb end end (omega arith))

pub steps-along : {K : Type 0} (assign : Expr → K → K) (branch : Expr → K → K → K) (fetch : ℕ → Step Expr) (k : K) (b : Body) (p n : ℕ)
    → Lies fetch p (lay_out b p) → size_of b ≤ n
    → steps assign branch fetch (p + size_of b) k n p ≡ along assign branch b k
steps-along assign branch fetch k b p n h l =
    from-body assign branch fetch (p + size_of b) k b p (p + size_of b) k refl (omega arith) h
    (λ m e. at-end assign branch fetch (p + size_of b) k m) n (omega arith)

-- ---- working a body out

pick-left : {A B : Type 0} (f : A → B) (c : Bool) (u v : A) → pick c (f u) (f v) ≡ f (pick c u v)
pick-left f true u v = refl
pick-left f false u v = refl

module _ (ys : List Value) where
  work-along : (b : Body) (k : Value → Value) (r : Value) → along (work_assign ys) (work_branch ys) b k r ≡ k (run ys b r)
  unfolding along run
  work-along nothing k r = refl
  work-along (result e) k r = refl
  work-along (in_turn a b) k r = work-along a (along (work_assign ys) (work_branch ys) b k) r ∙ work-along b k (run ys a r)
  work-along (if_then e a) k r = rw (work-along a k r) (pick-left k (holds (eval (frame ys r) e)) (run ys a r) r)
  work-along (if_else e a b) k r =
      rw (work-along a k r, work-along b k r) (pick-left k (holds (eval (frame ys r) e)) (run ys a r) (run ys b r))

  -- Running the instructions gives the body's result.
  pub run-steps : (fetch : ℕ → Step Expr) (b : Body) (p n : ℕ) (r : Value) → Lies fetch p (lay_out b p) → size_of b ≤ n
      → run_steps ys fetch (p + size_of b) n p r ≡ run ys b r
  run-steps fetch b p n r h l =
      ap (λ (f : Value → Value). f r) (steps-along (work_assign ys) (work_branch ys) fetch (λ (v : Value). v) b p n h l)
      ∙ work-along b (λ (v : Value). v) r
