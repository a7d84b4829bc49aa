-- Laws of settling, for a module that was read (Sound) and that extraction accepts (Ruled): the settled wires hold their
-- expressions' values, they are the only ones that do, they go by inputs and registers alone, they don't see the clock, and they
-- fit their widths. Assumes nothing.
use mathlib.Core.Path.{◌≡◌, refl, sym, ap, ◌∙◌}
use mathlib.Core.Logic.{◌≢◌}
use mathlib.Core.Bool.{Bool, true, false}
use Prim.Native.Nat.{ℕ, zero, suc, ◌+◌, ◌≤◌, ◌<◌}
use native.Mathlib.Decide.{ℕ_discrete, dec_le}
use native.Mathlib.Omega.{arith}
use lib.ListN.{length, get_or}
use lib.Dec.{ltb}
use borrow.Author.Tests.{ltb-true, lt-ltb, eq-eqb, ne_eqb}
use Rattle.values.specs.declared.Value.{Value}
use Rattle.values.specs.Values.{pick, all_unknown, fits}
use Rattle.values.proofs.Values.{fits-unknown}
use Rattle.sheet.specs.Expression.{Expr}
use Rattle.sheet.specs.Module.{Module}
use Rattle.evaluation.specs.Evaluation.{eval, reads}
use Rattle.evaluation.proofs.Evaluation.{eval-same}
use Rattle.soundness.specs.Soundness.{Sound, Fitting}
use Rattle.events.specs.Cycle.{variables, wire_expr, wire_variable}
use Rattle.events.specs.Calls.{width_of}
use Rattle.events.proofs.Cycle.{absurd-bool}
use Rattle.nextstate.specs.Rules.{wire_reads}
use Rattle.nextstate.specs.Book.{put, settle_below, settle}
use Rattle.nextstate.specs.Ruled.{Ruled}
use Rattle.settling.specs.Settles.{Consistent}

-- ---- put

put_same : (f : ℕ → Value) (v : ℕ) (a : Value) → put f v a v ≡ a
unfolding put
put_same f v a = rw (eq-eqb v v refl)

put_other : (f : ℕ → Value) (v : ℕ) (a : Value) (u : ℕ) → u ≢ v → put f v a u ≡ f u
unfolding put
put_other f v a u d = rw (ne_eqb u v d)

-- ---- the wires below n, and what a wire reads

module _ (m : Module Expr) where
  settle_below-other :
      (n : ℕ) (f : ℕ → Value) (v : ℕ) → ((k : ℕ) → k < n → v ≢ wire_variable m k) → settle_below m n f v ≡ f v
  unfolding settle_below
  settle_below-other zero f v d = refl
  settle_below-other (suc n) f v d =
      put_other (settle_below m n f) (wire_variable m n) (eval (settle_below m n f) (wire_expr m n)) v (d n (omega arith))
      ∙ settle_below-other n f v (λ k l. d k (omega arith))

  -- Higher wires don't change what stands below wire k.
  settle_below-stays :
      (n k : ℕ) (f : ℕ → Value) (v : ℕ) → k ≤ n → v < wire_variable m k → settle_below m n f v ≡ settle_below m k f v
  unfolding settle_below wire_variable
  settle_below-stays zero k f v l h = let e : k ≡ 0 = omega arith in rw e refl
  settle_below-stays (suc n) k f v l h = by (dec_le k n) (λ q. settle_below-stays n k f v q h)
    where
      g : ℕ → Value
      g = settle_below m n f

      by : Dec (k ≤ n) → (k ≤ n → g v ≡ settle_below m k f v) →
          put g (wire_variable m n) (eval g (wire_expr m n)) v ≡ settle_below m k f v
      by (yes q) below =
          put_other g (wire_variable m n) (eval g (wire_expr m n)) v (λ e. omega arith) ∙ below q
      by (no q) below = let e : k ≡ suc n = omega arith in rw e refl

  -- Rule 19: only what stands below it; rule 18: not the clock.
  pub reads-lower : Ruled m → (k v : ℕ) → reads (wire_expr m k) v ≡ true → v < wire_variable m k
  unfolding wire_reads wire_variable
  reads-lower R k v r = R.lower k v r

  pub reads-no-clock : Ruled m → (k v : ℕ) → reads (wire_expr m k) v ≡ true → v ≢ 0
  unfolding wire_reads
  reads-no-clock R k v r e = absurd-bool r (rw e (R.clock-wire k))

-- ---- what settling leaves

module _ (m : Module Expr) (f : ℕ → Value) where
  pub settle_other : (v : ℕ) → ((k : ℕ) → k < length m.wires → v ≢ wire_variable m k) → settle m f v ≡ f v
  unfolding settle
  settle_other v d = settle_below-other m (length m.wires) f v d

  pub settle-below : (v : ℕ) → v < m.scope.inputs + m.scope.registers → settle m f v ≡ f v
  unfolding wire_variable
  settle-below v l = settle_other v (λ k h e. omega arith)

-- Settled, every wire holds its expression's value.
pub settle-wire :
    (m : Module Expr) → Ruled m → (f : ℕ → Value) (k : ℕ) → k < length m.wires →
    settle m f (wire_variable m k) ≡ eval (settle m f) (wire_expr m k)
unfolding settle settle_below wire_variable
settle-wire m R f k l =
    settle_below-stays m W (suc k) f (wire_variable m k) (omega arith) (omega arith)
    ∙ put_same g (wire_variable m k) (eval g (wire_expr m k))
    ∙ eval-same g (settle m f) (wire_expr m k) (λ v r. sym (settle_below-stays m W k f v (omega arith) (reads-lower m R k v r)))
  where
    W : ℕ
    W = length m.wires

    g : ℕ → Value
    g = settle_below m k f

-- ---- inputs and registers, the clock left out, decide what consistent wires hold

consistent-same :
    (m : Module Expr) → Ruled m → (f h : ℕ → Value) → Consistent m f → Consistent m h →
    ((v : ℕ) → v ≢ 0 → v < m.scope.inputs + m.scope.registers → f v ≡ h v) →
    (n : ℕ) → n ≤ length m.wires → (v : ℕ) → v ≢ 0 → v < wire_variable m n → f v ≡ h v
unfolding wire_variable
consistent-same m R f h F H same zero s v d l = same v d (omega arith)
consistent-same m R f h F H same (suc n) s v d l =
    by (ℕ_discrete v (wire_variable m n)) (consistent-same m R f h F H same n (omega arith))
  where
    by : Dec (v ≡ wire_variable m n) → ((u : ℕ) → u ≢ 0 → u < wire_variable m n → f u ≡ h u) → f v ≡ h v
    by (yes e) below =
        ap f e ∙ F n (omega arith)
        ∙ eval-same f h (wire_expr m n) (λ u r. below u (reads-no-clock m R n u r) (reads-lower m R n u r))
        ∙ sym (H n (omega arith)) ∙ ap h (sym e)
    by (no q) below = below v d (let x : v ≢ m.scope.inputs + m.scope.registers + n = q in omega arith)

-- The variables are those below where one more wire would stand.
pub variables-end : (m : Module Expr) → Sound m → variables m ≡ wire_variable m (length m.wires)
unfolding variables wire_variable
variables-end m w = w.variables

pub settle-unique :
    (m : Module Expr) → Sound m → Ruled m → (f h : ℕ → Value) →
    ((v : ℕ) → v < m.scope.inputs + m.scope.registers → f v ≡ h v) →
    ((k : ℕ) → k < length m.wires → f (wire_variable m k) ≡ eval f (wire_expr m k)) →
    (v : ℕ) → v < variables m → f v ≡ settle m h v
settle-unique m w R f h same F v l = by (ℕ_discrete v 0)
  where
    low : (u : ℕ) → u < m.scope.inputs + m.scope.registers → f u ≡ settle m h u
    low u s = same u s ∙ sym (settle-below m h u s)

    by : Dec (v ≡ 0) → f v ≡ settle m h v
    by (yes e) = low v (omega (arith, w.inputs-some))
    by (no d) =
        consistent-same m R f (settle m h) F (settle-wire m R h) (λ u c s. low u s) (length m.wires) (omega arith) v d
        (omega (arith, variables-end m w))

pub settle-agree :
    (m : Module Expr) → Sound m → Ruled m → (f h : ℕ → Value) →
    ((v : ℕ) → v < m.scope.inputs + m.scope.registers → f v ≡ h v) →
    (v : ℕ) → v < variables m → settle m f v ≡ settle m h v
settle-agree m w R f h same =
    settle-unique m w R (settle m f) h (λ u s. settle-below m f u s ∙ same u s) (settle-wire m R f)

-- Values that differ in the clock alone settle to values that differ in the clock alone.
pub clock-apart :
    (m : Module Expr) → Sound m → Ruled m → (f h : ℕ → Value) →
    ((v : ℕ) → v ≢ 0 → v < m.scope.inputs + m.scope.registers → f v ≡ h v) →
    (v : ℕ) → v ≢ 0 → v < variables m → settle m f v ≡ settle m h v
clock-apart m w R f h same v d l =
    consistent-same m R (settle m f) (settle m h) (settle-wire m R f) (settle-wire m R h)
    (λ u c s. settle-below m f u s ∙ same u c s ∙ sym (settle-below m h u s)) (length m.wires) (omega arith) v d
    (omega (arith, variables-end m w))

-- ---- settled values fit

-- The values below n, and x from n on.
cut : Module Expr → ℕ → (ℕ → Value) → ℕ → Value
cut m n f v = pick (ltb v n) (f v) (all_unknown (get_or m.scope.widths v 0))

cut_below : (m : Module Expr) (n : ℕ) (f : ℕ → Value) (v : ℕ) → v < n → cut m n f v ≡ f v
unfolding cut
cut_below m n f v l = rw (lt-ltb v n l)

cut_fits :
    (m : Module Expr) (n : ℕ) (f : ℕ → Value) → ((v : ℕ) → v < n → fits (get_or m.scope.widths v 0) (f v) ≡ true) →
    Fitting m.scope (cut m n f)
unfolding cut
cut_fits m n f h v l = by (ltb v n) refl
  where
    by : (t : Bool) → ltb v n ≡ t → fits (get_or m.scope.widths v 0) (pick t (f v) (all_unknown (get_or m.scope.widths v 0))) ≡ true
    by true e = h v (ltb-true v n e)
    by false e = fits-unknown (get_or m.scope.widths v 0)

fits-wires :
    (m : Module Expr) → Sound m → Ruled m → (f : ℕ → Value) → Consistent m f →
    ((v : ℕ) → v < m.scope.inputs + m.scope.registers → fits (get_or m.scope.widths v 0) (f v) ≡ true) →
    (n : ℕ) → n ≤ length m.wires → (v : ℕ) → v < wire_variable m n → fits (get_or m.scope.widths v 0) (f v) ≡ true
unfolding wire_variable wire_expr
fits-wires m w R f F h zero s v l = h v (omega arith)
fits-wires m w R f F h (suc n) s v l = by (ℕ_discrete v x) (fits-wires m w R f F h n (omega arith))
  where
    x : ℕ
    x = wire_variable m n

    by : Dec (v ≡ x) → ((u : ℕ) → u < x → fits (get_or m.scope.widths u 0) (f u) ≡ true) →
        fits (get_or m.scope.widths v 0) (f v) ≡ true
    by (yes e) below =
        let same = eval-same (cut m x f) f (wire_expr m n) (λ u r. cut_below m x f u (reads-lower m R n u r)) in
        let whole = (w.wire n (omega arith)).fits_width (cut m x f) (cut_fits m x f below) in
        rw (e, F n (omega arith)) (rw same at whole)
    by (no q) below = below v (let y : v ≢ m.scope.inputs + m.scope.registers + n = q in omega arith)

pub settle-fits :
    (m : Module Expr) → Sound m → Ruled m → (f : ℕ → Value) →
    ((v : ℕ) → v < m.scope.inputs + m.scope.registers → fits (width_of m v) (f v) ≡ true) → Fitting m.scope (settle m f)
unfolding width_of variables
settle-fits m w R f h v l =
    fits-wires m w R (settle m f) (settle-wire m R f) (λ u s. rw (settle-below m f u s) (h u s)) (length m.wires) (omega arith) v
    (rw (← variables-end m w) l)
