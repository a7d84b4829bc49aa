-- The plain run, in a module that extraction accepts (Ruled), stores no wire twice unless an input or a register changes in
-- between: plain-once, for every state that fits the sheet; plain-rising says more. plain-course ties the states and the choices
-- that they speak of to the steps of events' specs/Steps. Assumes nothing.
use mathlib.Core.Path.{◌≡◌, refl, sym, ◌∙◌}
use mathlib.Core.Logic.{◌⊎◌, inl, inr}
use mathlib.Core.Bool.{Bool, true, false, ◌&&◌}
use mathlib.Core.List.{List}
use Prim.Native.Nat.{ℕ, zero, suc, ◌+◌, ◌-◌, ◌≤◌, ◌<◌}
use native.Mathlib.Decide.{ℕ_discrete, dec_lt}
use native.Mathlib.Omega.{arith}
use lib.ListN.{length}
use lib.Dec.{ltb}
use borrow.Author.Tests.{lt-ltb, ltb-true}
use Rattle.sheet.specs.Reading.{ok}
use Rattle.sheet.specs.Expression.{Expr}
use Rattle.sheet.specs.Module.{Module, read}
use Rattle.pseudocode.specs.Translation.{Instr}
use Rattle.state.specs.declared.State.{State}
use Rattle.state.specs.State.{Shaped, users, value_of, place_of, is_due}
use Rattle.soundness.specs.Soundness.{Sound}
use Rattle.soundness.proofs.Soundness.{sound}
use Rattle.events.specs.Cycle.{current, is_wait, enabled, any_enabled, any_below, changed}
use Rattle.events.specs.Calls.{state_fits, judged, run_by, plain_choice, run_plain}
use Rattle.events.specs.Steps.{Acts, assigns, defers, jumps, goes_in, passes-by, settles, commits, Step}
use Rattle.events.proofs.Cycle.{absurd-bool, and_left, and_right, some_below, none_below, changed-true, changed-false, current-place}
use Rattle.events.proofs.Choices.{enabled-thread, enabled-wire}
use Rattle.events.proofs.Runs.{length-choices_by, plain-lowest, plain-commit}
use Rattle.nextstate.specs.Ruled.{Ruled}
use Rattle.settling.specs.Settles.{WireStep}
use Rattle.settling.specs.Plain.{state_at, Stores, Changes, ChangeBetween, StoresOnce, StoresRising}
use Rattle.settling.proofs.Marks.{place_kept, mark-same, wire-settles, wire-kept}
use Rattle.settling.proofs.Course.{Course, course}

-- ---- nothing is enabled below a wire: no thread, and no wire below b

abbrev Past : Module Expr → ℕ → State → Type 0
Past m b st = (c : ℕ) → c < length m.threads + b → enabled m st c ≡ false

-- No input and no register changes.
abbrev Keeps : Module Expr → State → State → Type 0
Keeps m old new = (v : ℕ) → v < m.scope.inputs + m.scope.registers → value_of new v ≡ value_of old v

module _ (m : Module Expr) (old new : State) where
  -- It stays so where places and those marks stay.
  past-kept :
      (b : ℕ) → ((i : ℕ) → place_of new i ≡ place_of old i) → ((j : ℕ) → j < b → is_due new j ≡ is_due old j) → Past m b old →
      Past m b new
  past-kept b places marks h c l = by (dec_lt c threads)
    where
      threads : ℕ
      threads = length m.threads

      by : Dec (c < threads) → enabled m new c ≡ false
      by (yes t) =
          enabled-thread m new c t ∙ (rw (current-place m new old c (places c)) (sym (enabled-thread m old c t) ∙ h c l))
      by (no t) =
          let k = c - threads in
          let e : c ≡ threads + k = omega arith in
          rw e (enabled-wire m new k ∙ marks k (omega arith) ∙ sym (enabled-wire m old k) ∙ h (threads + k) (omega arith))

  -- After the step of wire k it is so of one wire more.
  past-wire : (k : ℕ) → WireStep m old new k → Past m k old → Past m (suc k) new
  past-wire k x h c l = by (ℕ_discrete c (length m.threads + k))
    where
      by : Dec (c ≡ length m.threads + k) → enabled m new c ≡ false
      by (yes e) = rw e (enabled-wire m new k ∙ x.cleared)
      by (no d) = past-kept k x.places x.lower h c (omega arith)

  module _ (w : Sound m) (R : Ruled m) (b : ℕ) (h : Past m b old) where
    -- A thread that stands at no wait is enabled.
    no-thread : {A : Type 0} (i : ℕ) {x : Instr Expr} → i < length m.threads → current m old i ≡ x → is_wait x ≡ false → A
    no-thread i l q f =
        let e : enabled m old i ≡ true = enabled-thread m old i l ∙ (rw (q, f) refl) in
        absurd-bool e (h i (omega arith))

    -- It stays so in every step that changes no input and no register.
    past-acts : {c : ℕ} → Acts m old new c → Keeps m old new → Past m b new
    unfolding is_wait
    past-acts (assigns {i = i} l q v o p r s) same = no-thread i l q refl
    past-acts (defers {i = i} l q v o p c) same = no-thread i l q refl
    past-acts (jumps {i = i} l q p c s) same = no-thread i l q refl
    past-acts (goes_in {i = i} l q t p c s) same = no-thread i l q refl
    past-acts (passes-by {i = i} l q t p c s) same = no-thread i l q refl
    past-acts (settles {k = k} l due v o r p) same = by (dec_lt k b)
      where
        x : WireStep m old new k
        x = wire-settles m w R old new k due v o r p

        by : Dec (k < b) → Past m b new
        by (yes t) = absurd-bool due (sym (enabled-wire m old k) ∙ h (length m.threads + k) (omega arith))
        by (no t) = past-kept b x.places (λ j s. x.lower j (omega arith)) h
    past-acts (commits n q l z v o p u r) same = past-kept b places marks h
      where
        kept : (v : ℕ) → value_of new v ≡ value_of old v
        kept v = by (dec_lt v (m.scope.inputs + m.scope.registers))
          where
            by : Dec (v < m.scope.inputs + m.scope.registers) → value_of new v ≡ value_of old v
            by (yes t) = same v t
            by (no t) = o v (λ x. t x.1)

        places : (i : ℕ) → place_of new i ≡ place_of old i
        places i = place_kept m R old new (kept 0) i (r.threads i (λ x. x))

        marks : (j : ℕ) → j < b → is_due new j ≡ is_due old j
        marks j s = mark-same m old new j (is_due old j) (r.wires j) (λ v k. kept v)

-- ---- the plain choice of a wire: nothing is enabled below it

plain-wire :
    (m : Module Expr) → Sound m → (st : State) (k : ℕ) → k < length m.wires → plain_choice m st ≡ length m.threads + k →
    Past m k st × (enabled m st (length m.threads + k) ≡ true)
plain-wire m w st k l e = by (any_enabled m st) refl
  where
    by : (t : Bool) → any_enabled m st ≡ t → Past m k st × (enabled m st (length m.threads + k) ≡ true)
    by true a = let p = plain-lowest m st a in (λ c b. p.2 c (omega arith), rw e at p.1)
    by false a =
        let x : 255 ≡ length m.threads + k = sym (plain-commit m st a) ∙ e in
        absurd (omega (arith, w.threads-most, w.wires-most))

-- ---- the plain run

module _ (m : Module Expr) (w : Sound m) (u : ℕ) (st : State) (s : Shaped st) (n : ℕ) where
  abbrev accepted : ℕ
  accepted = (run_by m u (plain_choice m) n st).accepted

  course-at : (p : ℕ) → p < accepted → Course m u (plain_choice m) n p st
  course-at p l = course m u (plain_choice m) w n p st s (rw (length-choices_by m u (plain_choice m) n st) l)

  -- Each choice that the run takes is a step from the state that it has reached to the next one.
  pub plain-course :
      (p : ℕ) → p < (run_by m u (plain_choice m) n st).accepted →
      Step m (state_at m u st p) (state_at m u st (suc p)) u (plain_choice m (state_at m u st p))
  unfolding state_at
  plain-course p l = (course-at p l).step

  stored :
      (p k : ℕ) → Stores m u st n p k →
      Past m k (state_at m u st p) × (enabled m (state_at m u st p) (length m.threads + k) ≡ true)
  stored p k x = plain-wire m w (state_at m u st p) k x.wire x.choice

  module _ (R : Ruled m) where
    past-stored : (p k : ℕ) → Stores m u st n p k → Past m (suc k) (state_at m u st (suc p))
    past-stored p k x =
        let old = state_at m u st p in
        let new = state_at m u st (suc p) in
        let step : Step m old new u (length m.threads + k) = rw x.choice at (plain-course p x.taken) in
        past-wire m old new k (wire-kept m w R old new k x.wire step) (stored p k x).0

    -- From a store of wire k on, as long as no input and no register changes, nothing is enabled up to it.
    past-until :
        (k p q : ℕ) → Stores m u st n p k → q < accepted →
        ((r : ℕ) → p < r → r < q → Keeps m (state_at m u st r) (state_at m u st (suc r))) →
        (r : ℕ) → p < r → r ≤ q → Past m (suc k) (state_at m u st r)
    past-until k p q x l same zero a b = absurd (omega arith)
    past-until k p q x l same (suc r) a b = by (ℕ_discrete p r) (past-until k p q x l same r)
      where
        by : Dec (p ≡ r) → (p < r → r ≤ q → Past m (suc k) (state_at m u st r)) → Past m (suc k) (state_at m u st (suc r))
        by (yes e) before = rw (← e) (past-stored p k x)
        by (no d) before =
            past-acts m (state_at m u st r) (state_at m u st (suc r)) w R (suc k) (before (omega arith) (omega arith))
            (plain-course r (omega arith)).acts (same r (omega arith) (omega arith))

    -- ---- does choice r change an input or a register?

    differs : ℕ → ℕ → Bool
    differs r = changed (value_of (state_at m u st r)) (value_of (state_at m u st (suc r)))

    changes : ℕ → Bool
    changes r = any_below (m.scope.inputs + m.scope.registers) (differs r)

    changes-true : (r : ℕ) → changes r ≡ true → Changes m u st r
    unfolding changes differs
    changes-true r h =
        let x = some_below (differs r) (m.scope.inputs + m.scope.registers) h in
        record {
          variable = x.0;
          not-wire = x.1;
          differs = changed-true (value_of (state_at m u st r)) (value_of (state_at m u st (suc r))) x.0 x.2;
        }

    changes-false : (r : ℕ) → changes r ≡ false → Keeps m (state_at m u st r) (state_at m u st (suc r))
    unfolding changes differs
    changes-false r h v l =
        changed-false (value_of (state_at m u st r)) (value_of (state_at m u st (suc r))) v
        (none_below (differs r) (m.scope.inputs + m.scope.registers) h v l)

    -- ---- the claim

    pub plain-rising : StoresRising m u st n
    plain-rising k j p q l x y = by (any_below q between) refl
      where
        between : ℕ → Bool
        between r = ltb p r && changes r

        by : (t : Bool) → any_below q between ≡ t → (k < j) ⊎ ChangeBetween m u st p q
        by true e =
            let z = some_below between q e in
            let r = z.0 in
            inr (
              r,
              ltb-true p r (and_left (ltb p r) (changes r) z.2),
              z.1,
              changes-true r (and_right (ltb p r) (changes r) z.2),
            )
        by false e = inl (higher (dec_lt k j))
          where
            same : (r : ℕ) → p < r → r < q → changes r ≡ false
            same r a b = let z = none_below between q e r b in rw (lt-ltb p r a) at z

            past : Past m (suc k) (state_at m u st q)
            past = past-until k p q x y.taken (λ r a b. changes-false r (same r a b)) q l (omega arith)

            higher : Dec (k < j) → k < j
            higher (yes b) = b
            higher (no d) = absurd-bool (stored q j y).1 (past (length m.threads + j) (omega arith))

    pub plain-once : StoresOnce m u st n
    plain-once k p q l x y = by (plain-rising k k p q l x y)
      where
        by : (k < k) ⊎ ChangeBetween m u st p q → ChangeBetween m u st p q
        by (inl b) = absurd (omega arith)
        by (inr c) = c

-- ---- of a sheet: the call is the run, in a module that was read

pub plain-sheet :
    (s : List ℕ) (m : Module Expr) → read s ≡ ok m → (u : ℕ) → u < users → (st : State) → state_fits m st ≡ true → (n : ℕ) →
    run_plain s st u n ≡ run_by m u (plain_choice m) n st
unfolding run_plain judged
plain-sheet s m r u l st f n = rw (r, f, lt-ltb u users l)

pub plain-stores :
    (s : List ℕ) (m : Module Expr) → read s ≡ ok m → Ruled m → (u : ℕ) → u < users → (st : State) → Shaped st →
    state_fits m st ≡ true → (n : ℕ) → (run_plain s st u n ≡ run_by m u (plain_choice m) n st) × StoresOnce m u st n
plain-stores s m r R u l st shaped f n = (plain-sheet s m r u l st f n, plain-once m (sound s r) u st shaped n R)
