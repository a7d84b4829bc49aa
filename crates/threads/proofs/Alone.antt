-- A thread run alone: what an instruction leads to and what it leaves as it was (exec-leads, alone-keeps, alone-keeps-pending); at a
-- wait it stays (alone-stays); from a wait it comes to the next one within its own number of instructions (ends, end-waits,
-- end-inside); values stay within their widths (local_fits). Assumes nothing.
use Prim.Native.Nat.{ℕ, zero, suc, ◌+◌, ◌-◌, ◌≤◌, ◌<◌}
use mathlib.Core.Path.{◌≡◌, refl, sym, ap, ◌∙◌, subst}
use mathlib.Core.Logic.{◌⊎◌, inl, inr}
use mathlib.Core.Bool.{Bool, true, false}
use mathlib.Core.Option.{Option, some}
use native.Mathlib.Nat.{add-suc, add-zero}
use native.Mathlib.Omega.{arith}
use lib.ListN.{length, get_or}
use lib.Dec.{eqb}
use borrow.Author.Tests.{eqb-true, eqb-false, ne_eqb}
use Rattle.values.specs.declared.Value.{Value}
use Rattle.values.specs.Values.{pick, holds, fits}
use Rattle.sheet.specs.Expression.{Expr, Scope}
use Rattle.sheet.specs.Module.{Module}
use Rattle.evaluation.specs.Evaluation.{eval}
use Rattle.pseudocode.specs.Translation.{Instr, wait!, set!, later!, go, ifnot}
use Rattle.soundness.specs.Soundness.{Fitting, Sound, SoundTarget, SoundInstr, sound-wait, sound-set, sound-later, sound-go, sound-ifnot}
use Rattle.events.specs.Cycle.{code_of, instr_at, is_wait}
use Rattle.events.specs.Calls.{width_of, pending_fits}
use Rattle.events.proofs.Cycle.{absurd-bool}
use Rattle.nextstate.specs.Rules.{sets_at, defers_at, plain_writes, defers}
use Rattle.nextstate.specs.Book.{put}
use Rattle.nextstate.specs.Ruled.{Ruled}
use Rattle.threads.specs.Resting.{Leads, Rests, rests, Way, here, step}
use Rattle.threads.specs.Alone.{Local, put_pending, exec, turn, alone, begin, end_of}
use Rattle.nextstate.proofs.Ruled.{at-instr, sound-instr, target-set, target-later}
use Rattle.threads.proofs.Resting.{thread-rests, way-inside, way-bound}

-- ---- put, put_pending: a value stored, read at another number

pub put_other : (f : ℕ → Value) (t : ℕ) (a : Value) (v : ℕ) → (v ≡ t → ⊥) → put f t a v ≡ f v
unfolding put
put_other f t a v h = rw (ne_eqb v t h)

pub put_pending-other : (f : ℕ → Option Value) (t : ℕ) (a : Value) (r : ℕ) → (r ≡ t → ⊥) → put_pending f t a r ≡ f r
unfolding put_pending
put_pending-other f t a r h = rw (ne_eqb r t h)

-- ---- exec: one instruction

module _ (m : Module Expr) where
  pub exec-leads : (q : Instr Expr) (L : Local) → is_wait q ≡ false → Leads q L.place (exec m q L).place
  unfolding exec is_wait
  exec-leads (wait! ts) L h = absurd-bool refl h
  exec-leads (set! t e) L h = refl
  exec-leads (later! t e) L h = refl
  exec-leads (go g) L h = refl
  exec-leads (ifnot e g) L h = by (holds (eval L.values e))
    where
      by : (t : Bool) → (pick t (L.place + 1) g ≡ L.place + 1) ⊎ (pick t (L.place + 1) g ≡ g)
      by true = inl refl
      by false = inr refl

  pub exec-wait : (q : Instr Expr) (L : Local) → is_wait q ≡ true → exec m q L ≡ L
  unfolding exec is_wait
  exec-wait (wait! ts) L h = refl
  exec-wait (set! t e) L h = absurd-bool h refl
  exec-wait (later! t e) L h = absurd-bool h refl
  exec-wait (go g) L h = absurd-bool h refl
  exec-wait (ifnot e g) L h = absurd-bool h refl

  -- It stores into no variable but its target.
  pub exec_keeps : (q : Instr Expr) (L : Local) (v : ℕ) → sets_at v q ≡ false → (exec m q L).values v ≡ L.values v
  unfolding exec sets_at
  exec_keeps (wait! ts) L v h = refl
  exec_keeps (set! t e) L v h = put_other L.values t (eval L.values e) v (λ d. eqb-false t v h (sym d))
  exec_keeps (later! t e) L v h = refl
  exec_keeps (go g) L v h = refl
  exec_keeps (ifnot e g) L v h = refl

  -- It assigns no register later but its target, which is no input.
  pub exec-keeps-pending : (q : Instr Expr) (L : Local) (r : ℕ) → ((t : ℕ) (e : Expr) → q ≡ later! t e → m.scope.inputs ≤ t) →
      defers_at (m.scope.inputs + r) q ≡ false → (exec m q L).pending r ≡ L.pending r
  unfolding exec defers_at
  exec-keeps-pending (wait! ts) L r k h = refl
  exec-keeps-pending (set! t e) L r k h = refl
  exec-keeps-pending (later! t e) L r k h =
      let l = k t e refl in
      put_pending-other L.pending (t - m.scope.inputs) (eval L.values e) r
      (λ d. eqb-false t (m.scope.inputs + r) h (omega arith))
  exec-keeps-pending (go g) L r k h = refl
  exec-keeps-pending (ifnot e g) L r k h = refl

-- ---- turn: the instruction at a thread's place

module _ (m : Module Expr) (i : ℕ) (L : Local) where
  pub turn-leads : is_wait (instr_at (code_of m i) L.place) ≡ false →
      Leads (instr_at (code_of m i) L.place) L.place (turn m i L).place
  unfolding turn
  turn-leads h = exec-leads m (instr_at (code_of m i) L.place) L h

  pub turn-wait : is_wait (instr_at (code_of m i) L.place) ≡ true → turn m i L ≡ L
  unfolding turn
  turn-wait h = exec-wait m (instr_at (code_of m i) L.place) L h

  pub turn-keeps : (v : ℕ) → plain_writes m i v ≡ false → (turn m i L).values v ≡ L.values v
  unfolding turn plain_writes sets_at
  turn-keeps v h =
      exec_keeps m (instr_at (code_of m i) L.place) L v (at-instr (sets_at v) refl (code_of m i) h L.place)

  pub turn-keeps-pending : Sound m → (r : ℕ) → defers m i (m.scope.inputs + r) ≡ false → (turn m i L).pending r ≡ L.pending r
  unfolding turn defers defers_at
  turn-keeps-pending w r h =
      exec-keeps-pending m (instr_at (code_of m i) L.place) L r (λ t e q. (target-later m w i L.place q).not-input)
      (at-instr (defers_at (m.scope.inputs + r)) refl (code_of m i) h L.place)

-- ---- alone: so many instructions

module _ (m : Module Expr) where
  pub alone-keeps : (i n : ℕ) (L : Local) (v : ℕ) → plain_writes m i v ≡ false → (alone m i n L).values v ≡ L.values v
  unfolding alone
  alone-keeps i zero L v h = refl
  alone-keeps i (suc n) L v h = turn-keeps m i (alone m i n L) v h ∙ alone-keeps i n L v h

  pub alone-keeps-pending : Sound m → (i n : ℕ) (L : Local) (r : ℕ) → defers m i (m.scope.inputs + r) ≡ false →
      (alone m i n L).pending r ≡ L.pending r
  unfolding alone
  alone-keeps-pending w i zero L r h = refl
  alone-keeps-pending w i (suc n) L r h =
      turn-keeps-pending m i (alone m i n L) w r h ∙ alone-keeps-pending w i n L r h

  pub alone-stays : (i n k : ℕ) (L : Local) → is_wait (instr_at (code_of m i) (alone m i n L).place) ≡ true →
      alone m i (n + k) L ≡ alone m i n L
  unfolding alone
  alone-stays i n zero L h = ap (λ u. alone m i u L) (add-zero n)
  alone-stays i n (suc k) L h =
      ap (λ u. alone m i u L) (add-suc n k) ∙ ap (turn m i) (alone-stays i n k L h) ∙ turn-wait m i (alone m i n L) h

  pub alone-shift : (i n : ℕ) (L : Local) → alone m i (suc n) L ≡ alone m i n (turn m i L)
  unfolding alone
  alone-shift i zero L = refl
  alone-shift i (suc n) L = ap (turn m i) (alone-shift i n L)

  pub end_is : (i p n : ℕ) (f : ℕ → Value) → n ≤ length (code_of m i) →
      is_wait (instr_at (code_of m i) (alone m i n (begin m i f p)).place) ≡ true → end_of m i f p ≡ alone m i n (begin m i f p)
  unfolding end_of
  end_is i p n f l h =
      let k = length (code_of m i) in
      let e : n + (k - n) ≡ k = omega arith in
      ap (λ u. alone m i u (begin m i f p)) (sym e) ∙ alone-stays i n (k - n) (begin m i f p) h

-- ---- a place that rests: the thread comes to a wait

pub record Comes (m : Module Expr) (i : ℕ) (L : Local) : Type 0 where
  pub count : ℕ
  pub way : Way (code_of m i) L.place count (alone m i count L).place
  pub waits : is_wait (instr_at (code_of m i) (alone m i count L).place) ≡ true

module _ (m : Module Expr) (i : ℕ) where
  comes-here : (L : Local) → is_wait (instr_at (code_of m i) L.place) ≡ true → Comes m i L
  unfolding alone
  comes-here L h = record { count = 0; way = here; waits = h }

  comes-step : (L : Local) → is_wait (instr_at (code_of m i) L.place) ≡ false → Comes m i (turn m i L) → Comes m i L
  comes-step L h c =
      let e = alone-shift m i c.count L in
      record {
        count = suc c.count;
        way = rw e (step (turn-leads m i L h) c.way);
        waits = rw e c.waits;
      }

  pub comes : {p : ℕ} → Rests (code_of m i) p → (L : Local) → L.place ≡ p → Comes m i L
  comes (rests f) L e =
      by (is_wait (instr_at (code_of m i) L.place)) refl
      (λ h.
      let q = (turn m i L).place in
      comes (f q (subst (λ (k : ℕ). Leads (instr_at (code_of m i) k) k q) e (turn-leads m i L h))) (turn m i L) refl)
    where
      by : (t : Bool) → is_wait (instr_at (code_of m i) L.place) ≡ t →
          (is_wait (instr_at (code_of m i) L.place) ≡ false → Comes m i (turn m i L)) → Comes m i L
      by true h next = comes-here L h
      by false h next = comes-step L h (next h)

-- ---- from a wait to the next

wait-next : {c : Scope} {n p : ℕ} {q : Instr Expr} → SoundInstr c n p q → is_wait q ≡ true → p + 1 < n
unfolding is_wait
wait-next (sound-wait l t) h = l
wait-next (sound-set l t) h = l
wait-next (sound-later l t) h = l
wait-next (sound-go l) h = absurd-bool h refl
wait-next (sound-ifnot w l g e) h = l

-- The place behind a wait is inside the thread.
pub behind-wait : (m : Module Expr) → Sound m → (i p : ℕ) → i < length m.threads → p < length (code_of m i) →
    is_wait (instr_at (code_of m i) p) ≡ true → p + 1 < length (code_of m i)
behind-wait m w i p l h a = wait-next (sound-instr m w i p l h) a

module _ (m : Module Expr) (w : Sound m) (u : Ruled m) (i p : ℕ) (f : ℕ → Value) (l : i < length m.threads)
    (h : p < length (code_of m i)) (a : is_wait (instr_at (code_of m i) p) ≡ true) where
  pub begin-inside : (begin m i f p).place < length (code_of m i)
  unfolding begin
  begin-inside = behind-wait m w i p l h a

  pub begin-comes : Comes m i (begin m i f p)
  begin-comes = comes m i (thread-rests m w u i (begin m i f p).place l begin-inside) (begin m i f p) refl

  pub ends : (n : ℕ) × (n < length (code_of m i)) × (is_wait (instr_at (code_of m i) (alone m i n (begin m i f p)).place) ≡ true)
      × (end_of m i f p ≡ alone m i n (begin m i f p))
  ends =
      let c = begin-comes in
      let n = c.count in
      let b = way-bound m w u i l begin-inside c.way in
      (n, b, c.waits, end_is m i p n f (omega arith) c.waits)

  pub end-waits : is_wait (instr_at (code_of m i) (end_of m i f p).place) ≡ true
  end-waits = let e = ends in rw e.3 e.2

  pub end-inside : (end_of m i f p).place < length (code_of m i)
  end-inside =
      let c = begin-comes in
      let b = way-bound m w u i l begin-inside c.way in
      rw (end_is m i p c.count f (omega arith) c.waits) (way-inside m w i l begin-inside c.way)

-- ---- values stay within their widths

pub record LocalFits (m : Module Expr) (L : Local) : Type 0 where
  pub values : Fitting m.scope L.values
  pub pending : (r : ℕ) → r < m.scope.registers → pending_fits (width_of m (m.scope.inputs + r)) (L.pending r) ≡ true

pub put-fits : (c : Scope) (f : ℕ → Value) (t : ℕ) (a : Value) → Fitting c f → fits (get_or c.widths t 0) a ≡ true →
    Fitting c (put f t a)
unfolding put
put-fits c f t a h k v l = by (eqb v t) refl
  where
    by : (b : Bool) → eqb v t ≡ b → fits (get_or c.widths v 0) (pick b a (f v)) ≡ true
    by true e = rw (eqb-true v t e) k
    by false e = h v l

module _ (m : Module Expr) where
  put_pending-fits : (o : ℕ → Option Value) (t : ℕ) (a : Value) → m.scope.inputs ≤ t → fits (get_or m.scope.widths t 0) a ≡ true →
      (r : ℕ) → pending_fits (width_of m (m.scope.inputs + r)) (o r) ≡ true →
      pending_fits (width_of m (m.scope.inputs + r)) (put_pending o (t - m.scope.inputs) a r) ≡ true
  unfolding put_pending pending_fits width_of
  put_pending-fits o t a l k r h = by (eqb r (t - m.scope.inputs)) refl
    where
      by : (b : Bool) → eqb r (t - m.scope.inputs) ≡ b →
          pending_fits (get_or m.scope.widths (m.scope.inputs + r) 0) (pick b (some a) (o r)) ≡ true
      by true e =
          let d = eqb-true r (t - m.scope.inputs) e in
          let q : m.scope.inputs + r ≡ t = omega arith in
          rw q k
      by false e = h

  exec-fits : (q : Instr Expr) (L : Local) → ((t : ℕ) (e : Expr) → q ≡ set! t e → SoundTarget m.scope t e) →
      ((t : ℕ) (e : Expr) → q ≡ later! t e → SoundTarget m.scope t e) → LocalFits m L → LocalFits m (exec m q L)
  unfolding exec
  exec-fits (wait! ts) L s k h = h
  exec-fits (set! t e) L s k h =
      record {
        values = put-fits m.scope L.values t (eval L.values e) h.values
            ((s t e refl).expression.fits_width L.values h.values);
        pending = h.pending;
      }
  exec-fits (later! t e) L s k h =
      record {
        values = h.values;
        pending = λ r l. put_pending-fits L.pending t (eval L.values e) (k t e refl).not-input
            ((k t e refl).expression.fits_width L.values h.values) r (h.pending r l);
      }
  exec-fits (go g) L s k h = record { values = h.values; pending = h.pending }
  exec-fits (ifnot e g) L s k h = record { values = h.values; pending = h.pending }

  pub turn-fits : Sound m → (i : ℕ) (L : Local) → LocalFits m L → LocalFits m (turn m i L)
  unfolding turn
  turn-fits w i L h =
      exec-fits (instr_at (code_of m i) L.place) L (λ t e q. target-set m w i L.place q)
      (λ t e q. target-later m w i L.place q) h

  pub local_fits : Sound m → (i n : ℕ) (L : Local) → LocalFits m L → LocalFits m (alone m i n L)
  unfolding alone
  local_fits w i zero L h = h
  local_fits w i (suc n) L h = turn-fits w i (alone m i n L) (local_fits w i n L h)

  pub begin-fits : (i : ℕ) (f : ℕ → Value) (p : ℕ) → Fitting m.scope f → LocalFits m (begin m i f p)
  unfolding begin pending_fits
  begin-fits i f p h = record { values = h; pending = λ r l. refl }

  -- The end of a thread alone: what it leaves fits.
  pub end_fits : Sound m → (i : ℕ) (f : ℕ → Value) (p : ℕ) → Fitting m.scope f → LocalFits m (end_of m i f p)
  unfolding end_of
  end_fits w i f p h = local_fits w i (length (code_of m i)) (begin m i f p) (begin-fits i f p h)
