-- The accepted choices and instants are the steps of specs/Steps, and no others, for a module that was read (Sound) and a
-- state of the code's lengths (Shaped):
--   step-choose_in     an accepted choice is a step;
--   refusal-step      a step's choice is refused by nothing, or by 47 where its user's allowance is used up;
--   alike-choose_in    a step whose user has room is the one that its choice makes;
--   instant-instant_in, refusal-instant, alike-instant_in    the same of instants with inputs that fit.
-- Assumes nothing.
use mathlib.Core.Path.{◌≡◌, refl, sym, ap, ◌∙◌}
use mathlib.Core.Logic.{◌≢◌}
use mathlib.Core.Bool.{Bool, true, false, not, ◌&&◌, ◌||◌, and-true, and-false}
use mathlib.Core.Option.{none, some}
use Prim.Native.Nat.{ℕ, ◌+◌, ◌-◌, ◌≤◌, ◌<◌}
use native.Mathlib.Decide.{ℕ_discrete, dec_lt}
use native.Mathlib.Omega.{arith}
use lib.ListN.{length}
use lib.Dec.{eqb}
use borrow.Author.Tests.{eqb-true, eqb-false}
use Rattle.values.specs.declared.Value.{Value}
use Rattle.values.specs.Values.{pick, holds}
use Rattle.sheet.specs.Expression.{Expr, Scope}
use Rattle.sheet.specs.Module.{Module}
use Rattle.evaluation.specs.Evaluation.{eval, reads}
use Rattle.pseudocode.specs.Translation.{Instr, wait!, set!, later!, go, ifnot}
use Rattle.state.specs.declared.State.{State}
use Rattle.state.specs.State.{Shaped, full, users, count_of, allowance_of, value_of, with_value, pending_of, with_pending, place_of, with_place, is_due, with_due}
use Rattle.state.proofs.Accessors.{value-with_value-same, value-with_value-other, pending-with_value, place-with_value, due-with_value, shaped-with_value}
use Rattle.state.proofs.Accessors.{pending-with_pending-same, pending-with_pending-other, value-with_pending, place-with_pending, due-with_pending, shaped-with_pending}
use Rattle.state.proofs.Accessors.{place-with_place-same, place-with_place-other, value-with_place, pending-with_place, due-with_place}
use Rattle.state.proofs.Accessors.{due-with_due-same, due-with_due-other, value-with_due, pending-with_due, place-with_due, shaped-with_due}
use Rattle.soundness.specs.Soundness.{Sound, SoundTarget, SoundInstr, sound-set, sound-later}
use Rattle.events.specs.declared.Inputs.{Inputs}
use Rattle.events.specs.Cycle.{variables, current, wire_expr, wire_variable, is_wait, quiet, wait_fires, touched, react, store_pending, store_inputs, feed}
use Rattle.events.specs.Calls.{counted, timed, spend_time, spend, refusal, performed, choose_in, input_of, inputs_fit, instant_refusal, instant_in}
use Rattle.events.specs.Steps.{latest, OtherValues, OtherPending, SamePending, Calm, Fired, goes_on, stays, Marked, was-due, reads-changed, not-due, Reacted, Acts, assigns, defers, jumps, goes_in, passes-by, settles, commits, Step, Instant, Alike, SameAllowances}
use Rattle.events.proofs.Cycle.{absurd-bool, Variable, a-register, no_register, register?, wire_expr-past, current-place, touched-true, touched-false, value-react, pending-react, place-react, due-react, shaped-react}
use Rattle.events.proofs.Cycle.{place-store_pending, due-store_pending, shaped-store_pending, value-store_pending, value-store_pending-other, pending-store_pending, pending-store_pending-above}
use Rattle.events.proofs.Cycle.{pending-store_inputs, place-store_inputs, due-store_inputs, shaped-store_inputs, value-store_inputs, value-store_inputs-above}
use Rattle.events.proofs.Choices.{spend_time-zero, spend_time-full, spend-zero, spend-used, Ready, thread-ready, wire-ready, commit-ready, refusal-ready, ready-refusal, user-refusal, shaped-counted, shaped-timed}
use Rattle.events.proofs.Choices.{value-counted, pending-counted, place-counted, due-counted, value-timed, pending-timed, place-timed, due-timed}
use Rattle.events.proofs.Choices.{performed-set, performed-later, performed-go, performed-ifnot, performed-wire, performed-commit, feed-timed, time-performed, count-performed, count-performed-other, allowance-performed}
use Rattle.events.proofs.Choices.{number-choose_in, choose_in-accepted, sound-current, number-instant_in, instant_in-accepted, refusal-quiet, accepted-instant, time-feed, count-feed, allowance-feed}

-- ---- a wire reads variables of the sheet only

wire-reads : (m : Module Expr) → Sound m → (k v : ℕ) → reads (wire_expr m k) v ≡ true → v < variables m
unfolding wire_expr variables reads
wire-reads m w k v r = by (dec_lt k (length m.wires))
  where
    by : Dec (k < length m.wires) → v < length m.scope.widths
    by (yes l) = (w.wire k l).reads-within v r
    by (no d) = absurd-bool r (rw (wire_expr-past m k (omega arith)))

-- ---- what `react` does is what follows a change of values

-- u holds the values after the change; its places are the old ones. `new` has the values of u.
module _ (m : Module Expr) (w : Sound m) (old u new : State) (s : Shaped u) (values : value_of new ≡ value_of u)
    (places : (j : ℕ) → place_of u j ≡ place_of old j) where
  fired-react : (j : ℕ) → place_of new j ≡ place_of (react m (value_of old) u) j → Fired m old new j
  fired-react j e = by (wait_fires (current m old j) (value_of old) (value_of new)) refl
    where
      same : place_of new j ≡ pick (wait_fires (current m old j) (value_of old) (value_of new)) (place_of old j + 1) (place_of old j)
      same =
          rw (
            e,
            place-react m (value_of old) u w s j,
            current-place m u old j (places j),
            places j,
            values,
          )
          refl

      by : (t : Bool) → wait_fires (current m old j) (value_of old) (value_of new) ≡ t → Fired m old new j
      by true q = goes_on q (rw q at same)
      by false q = stays q (rw q at same)

  marked-react :
      (was : Bool) (k : ℕ) → is_due u k ≡ was → is_due new k ≡ is_due (react m (value_of old) u) k → Marked m old new was k
  marked-react was k h e = by was (touched m (wire_expr m k) (value_of old) (value_of new)) refl same
    where
      same : is_due new k ≡ (was || touched m (wire_expr m k) (value_of old) (value_of new))
      same = rw (e, due-react m (value_of old) u w s k, h, values)

      by : (b t : Bool) → touched m (wire_expr m k) (value_of old) (value_of new) ≡ t → is_due new k ≡ (b || t) → Marked m old new b k
      by true t q d = was-due refl d
      by false true q d =
          let r = touched-true m (wire_expr m k) (value_of old) (value_of new) q in
          reads-changed r.0 r.2 r.3 d
      by false false q d =
          not-due refl
          (λ v r. touched-false m (wire_expr m k) (value_of old) (value_of new) q v (wire-reads m w k v r) r)
          d

-- ---- the targets of sound instructions

target-set : {c : Scope} {n p t : ℕ} {e : Expr} → SoundInstr c n p (set! t e) → SoundTarget c t e
target-set (sound-set l g) = g

target-later : {c : Scope} {n p t : ℕ} {e : Expr} → SoundInstr c n p (later! t e) → SoundTarget c t e
target-later (sound-later l g) = g

-- ---- what each kind of step does, as one record

module _ (m : Module Expr) (old new : State) where
  record Assigned (i t : ℕ) (e : Expr) : Type 0 where
    value : value_of new t ≡ eval (value_of old) e
    others : OtherValues m old new (λ v. v ≡ t)
    place : place_of new i ≡ place_of old i + 1
    reacted : Reacted m old new (λ j. j ≡ i) (is_due old)
    pending : SamePending m old new

  record Deferred (i t : ℕ) (e : Expr) : Type 0 where
    slot : pending_of new (t - m.scope.inputs) ≡ some (eval (value_of old) e)
    others : OtherPending m old new (λ r. r ≡ t - m.scope.inputs)
    place : place_of new i ≡ place_of old i + 1
    calm : Calm m old new i

  record Moved (i p : ℕ) : Type 0 where
    place : place_of new i ≡ p
    calm : Calm m old new i
    pending : SamePending m old new

  record Settled (k : ℕ) : Type 0 where
    value : value_of new (wire_variable m k) ≡ eval (value_of old) (wire_expr m k)
    others : OtherValues m old new (λ v. v ≡ wire_variable m k)
    reacted : Reacted m old new (λ j. ⊥) (λ j. is_due old j && not (eqb j k))
    pending : SamePending m old new

  record Committed : Type 0 where
    values :
        (r : ℕ) → r < m.scope.registers →
        value_of new (m.scope.inputs + r) ≡ latest (pending_of old r) (value_of old (m.scope.inputs + r))
    others : OtherValues m old new (λ v. (m.scope.inputs ≤ v) × (v < m.scope.inputs + m.scope.registers))
    emptied : (r : ℕ) → r < m.scope.registers → pending_of new r ≡ none
    rest : OtherPending m old new (λ r. r < m.scope.registers)
    reacted : Reacted m old new (λ j. ⊥) (is_due old)

-- ---- what is performed does that: a thread's instruction

module _ (m : Module Expr) (w : Sound m) (old : State) (s : Shaped old) (who i : ℕ) (l : i < length m.threads) where
  low : i < 8
  low = omega (arith, w.threads-most)

  assigned-performed : (t : ℕ) (e : Expr) → current m old i ≡ set! t e → Assigned m old (performed m old who i) i t e
  assigned-performed t e h =
      rw (performed-set m old who i l t e h)
      (record {
        value = value t ∙ value-with_value-same c t a (shaped-counted who old s) small;
        others = λ v d. value v ∙ value-with_value-other c t a v (λ q. d (sym q)) ∙ value-counted who old v;
        place = place-with_place-same r i (place_of old i + 1) (shaped-react m (value_of old) u shaped-u) low;
        reacted =
            record {
              threads = λ j d. fired-react m w old u new shaped-u values places j
                  (place-with_place-other r i (place_of old i + 1) j (λ q. d (sym q)));
              wires = λ k. marked-react m w old u new shaped-u values places (is_due old k) k
                  (due-with_value c t a k ∙ due-counted who old k) (due-with_place r i (place_of old i + 1) k);
            };
        pending = λ q. pending-with_place r i (place_of old i + 1) q ∙ pending-react m (value_of old) u q
            ∙ pending-with_value c t a q ∙ pending-counted who old q;
      })
    where
      a : Value
      a = eval (value_of old) e

      c : State
      c = counted who old

      u : State
      u = with_value c t a

      r : State
      r = react m (value_of old) u

      new : State
      new = with_place r i (place_of old i + 1)

      shaped-u : Shaped u
      shaped-u = shaped-with_value c t a (shaped-counted who old s)

      value : (v : ℕ) → value_of new v ≡ value_of u v
      value v = value-with_place r i (place_of old i + 1) v ∙ value-react m (value_of old) u v

      values : value_of new ≡ value_of u
      values = λ x v. value v x

      places : (j : ℕ) → place_of u j ≡ place_of old j
      places j = place-with_value c t a j ∙ place-counted who old j

      small : t < 80
      small =
          let g = target-set (rw h at (sound-current m w old i l)) in
          omega (arith, g.register, w.inputs-most, w.registers-most)

  -- A state with the old values, places and marks, and thread i at a new place.
  calm-place :
      (u : State) (p : ℕ) → ((v : ℕ) → value_of u v ≡ value_of old v) → ((j : ℕ) → place_of u j ≡ place_of old j) →
      ((k : ℕ) → is_due u k ≡ is_due old k) → Calm m old (with_place u i p) i
  calm-place u p values places marks =
      record {
        values = λ v. value-with_place u i p v ∙ values v;
        places = λ j d. place-with_place-other u i p j (λ q. d (sym q)) ∙ places j;
        marks = λ k. due-with_place u i p k ∙ marks k;
      }

  deferred-performed : (t : ℕ) (e : Expr) → current m old i ≡ later! t e → Deferred m old (performed m old who i) i t e
  deferred-performed t e h =
      rw (performed-later m old who i l t e h)
      (record {
        slot = pending-with_place u i p r ∙ pending-with_pending-same (counted who old) r a (shaped-counted who old s) small;
        others = λ q d. pending-with_place u i p q ∙ pending-with_pending-other (counted who old) r a q (λ x. d (sym x))
            ∙ pending-counted who old q;
        place = place-with_place-same u i p (shaped-with_pending (counted who old) r a (shaped-counted who old s)) low;
        calm =
            calm-place u p (λ v. value-with_pending (counted who old) r a v ∙ value-counted who old v)
            (λ j. place-with_pending (counted who old) r a j ∙ place-counted who old j)
            (λ k. due-with_pending (counted who old) r a k ∙ due-counted who old k);
      })
    where
      r : ℕ
      r = t - m.scope.inputs

      a : Value
      a = eval (value_of old) e

      p : ℕ
      p = place_of old i + 1

      u : State
      u = with_pending (counted who old) r a

      small : r < 32
      small =
          let g = target-later (rw h at (sound-current m w old i l)) in
          omega (arith, g.register, g.not-input, w.registers-most)

  moved : (p : ℕ) → Moved m old (with_place (counted who old) i p) i p
  moved p =
      record {
        place = place-with_place-same (counted who old) i p (shaped-counted who old s) low;
        calm = calm-place (counted who old) p (value-counted who old) (place-counted who old) (due-counted who old);
        pending = λ r. pending-with_place (counted who old) i p r ∙ pending-counted who old r;
      }

  moved-go : (g : ℕ) → current m old i ≡ go g → Moved m old (performed m old who i) i g
  moved-go g h = rw (performed-go m old who i l g h) (moved g)

  moved-ifnot :
      (e : Expr) (g : ℕ) → current m old i ≡ ifnot e g →
      Moved m old (performed m old who i) i (pick (holds (eval (value_of old) e)) (place_of old i + 1) g)
  moved-ifnot e g h =
      rw (performed-ifnot m old who i l e g h) (moved (pick (holds (eval (value_of old) e)) (place_of old i + 1) g))

-- ---- what is performed: a due wire, and the commit

module _ (m : Module Expr) (w : Sound m) (old : State) (s : Shaped old) (who : ℕ) where
  settled-performed : (k : ℕ) → k < length m.wires → Settled m old (performed m old who (length m.threads + k)) k
  unfolding wire_variable
  settled-performed k l =
      rw (performed-wire m old who k l)
      (record {
        value = value x ∙ value-with_value-same c x a shaped-c (omega (arith, w.inputs-most, w.registers-most, w.wires-most));
        others = λ v d. value v ∙ value-with_value-other c x a v (λ q. d (sym q)) ∙ value-with_due (counted who old) k false v
            ∙ value-counted who old v;
        reacted =
            record {
              threads = λ j d. fired-react m w old u new shaped-u values places j refl;
              wires = λ j. marked-react m w old u new shaped-u values places (is_due old j && not (eqb j k)) j
                  (due-with_value c x a j ∙ cleared j) refl;
            };
        pending = λ r. pending-react m (value_of old) u r ∙ pending-with_value c x a r
            ∙ pending-with_due (counted who old) k false r ∙ pending-counted who old r;
      })
    where
      x : ℕ
      x = wire_variable m k

      a : Value
      a = eval (value_of old) (wire_expr m k)

      c : State
      c = with_due (counted who old) k false

      u : State
      u = with_value c x a

      new : State
      new = react m (value_of old) u

      shaped-c : Shaped c
      shaped-c = shaped-with_due (counted who old) k false (shaped-counted who old s)

      shaped-u : Shaped u
      shaped-u = shaped-with_value c x a shaped-c

      value : (v : ℕ) → value_of new v ≡ value_of u v
      value v = value-react m (value_of old) u v

      values : value_of new ≡ value_of u
      values = λ y v. value v y

      places : (j : ℕ) → place_of u j ≡ place_of old j
      places j = place-with_value c x a j ∙ place-with_due (counted who old) k false j ∙ place-counted who old j

      mark : (j : ℕ) (t : Bool) → eqb j k ≡ t → is_due c j ≡ (is_due old j && not t)
      mark j true e =
          rw (eqb-true j k e, and-false (is_due old k))
          (due-with_due-same (counted who old) k false (shaped-counted who old s) (omega (arith, w.wires-most)))
      mark j false e =
          rw (and-true (is_due old j))
          (due-with_due-other (counted who old) k false j (λ q. eqb-false j k e (sym q)) ∙ due-counted who old j)

      cleared : (j : ℕ) → is_due c j ≡ (is_due old j && not (eqb j k))
      cleared j = mark j (eqb j k) refl

  committed-performed : Committed m old (performed m old who 255)
  committed-performed =
      rw (performed-commit m old who w)
      (record {
        values = λ r b. value (m.scope.inputs + r)
            ∙ value-store_pending m n c shaped-c (omega (arith, w.inputs-most, w.registers-most)) r b
            ∙ (rw (pending-counted who old r, value-counted who old (m.scope.inputs + r)) refl);
        others = λ v d. value v ∙ value-store_pending-other m n c v (λ r b e. d (omega arith, omega arith)) ∙ value-counted who old v;
        emptied = λ r b. pending-react m (value_of old) u r ∙ pending-store_pending m n c shaped-c w.registers-most r b;
        rest = λ r d. pending-react m (value_of old) u r ∙ pending-store_pending-above m n c r (above r d) ∙ pending-counted who old r;
        reacted =
            record {
              threads = λ j d. fired-react m w old u new shaped-u values places j refl;
              wires = λ k. marked-react m w old u new shaped-u values places (is_due old k) k
                  (due-store_pending m n c k ∙ due-counted who old k) refl;
            };
      })
    where
      n : ℕ
      n = m.scope.registers

      c : State
      c = counted who old

      u : State
      u = store_pending m n c

      new : State
      new = react m (value_of old) u

      shaped-c : Shaped c
      shaped-c = shaped-counted who old s

      shaped-u : Shaped u
      shaped-u = shaped-store_pending m n c shaped-c

      value : (v : ℕ) → value_of new v ≡ value_of u v
      value v = value-react m (value_of old) u v

      values : value_of new ≡ value_of u
      values = λ y v. value v y

      places : (j : ℕ) → place_of u j ≡ place_of old j
      places j = place-store_pending m n c j ∙ place-counted who old j

      above : (r : ℕ) → (r < n → ⊥) → n ≤ r
      above r d = omega arith

  -- ---- so it acts

  acts-thread : (i : ℕ) → i < length m.threads → is_wait (current m old i) ≡ false → Acts m old (performed m old who i) i
  unfolding is_wait
  acts-thread i l h = by (current m old i) refl h
    where
      branch : (e : Expr) (g : ℕ) → current m old i ≡ ifnot e g → (t : Bool) → holds (eval (value_of old) e) ≡ t →
          Moved m old (performed m old who i) i (pick t (place_of old i + 1) g) → Acts m old (performed m old who i) i
      branch e g h true q a = goes_in l h q a.place a.calm a.pending
      branch e g h false q a = passes-by l h q a.place a.calm a.pending

      by : (x : Instr Expr) → current m old i ≡ x → is_wait x ≡ false → Acts m old (performed m old who i) i
      by (wait! ts) e q = absurd-bool refl q
      by (set! t x) e q =
          let a = assigned-performed m w old s who i l t x e in
          assigns l e a.value a.others a.place a.reacted a.pending
      by (later! t x) e q =
          let a = deferred-performed m w old s who i l t x e in
          defers l e a.slot a.others a.place a.calm
      by (go g) e q =
          let a = moved-go m w old s who i l g e in
          jumps l e a.place a.calm a.pending
      by (ifnot x g) e q = branch x g e (holds (eval (value_of old) x)) refl (moved-ifnot m w old s who i l x g e)

  -- ---- (a): an accepted choice is a step

  pub acts-performed : {c : ℕ} → Ready m old c → Acts m old (performed m old who c) c
  acts-performed (thread-ready {i = i} l h) = acts-thread i l h
  acts-performed (wire-ready {k = k} l h) =
      let a = settled-performed k l in
      settles l h a.value a.others a.reacted a.pending
  acts-performed (commit-ready h q l p) =
      let a = committed-performed in
      commits h q l p a.values a.others a.emptied a.rest a.reacted

  pub step-performed : (c : ℕ) → who < users → Ready m old c → Step m old (performed m old who c) who c
  step-performed c b h =
      record {
        acts = acts-performed h;
        user = b;
        time = time-performed m old who c;
        count = count-performed m old who c s b;
        other-counts = count-performed-other m old who c;
        allowances = allowance-performed m old who c;
      }

  pub step-choose_in : (c : ℕ) → (choose_in m old who c).number ≡ 0 → Step m old (choose_in m old who c).state who c
  step-choose_in c h =
      let z : refusal m old who c ≡ 0 = sym (number-choose_in m old who c) ∙ h in
      rw (choose_in-accepted m old who c z) (step-performed c (user-refusal m old who c z) (ready-refusal m old who c z))

-- ---- (c): an accepted instant

module _ (m : Module Expr) (w : Sound m) (old : State) (s : Shaped old) where
  pub instant-feed : (a : ℕ → Value) → quiet m old ≡ true → Instant m old (feed m a (timed old)) a
  instant-feed a q =
      record {
        rest = q;
        inputs = λ v b. value v ∙ value-store_inputs a n (timed old) shaped-t wide v b;
        others = λ v d. value v ∙ value-store_inputs-above a n (timed old) v (above v d) ∙ value-timed old v;
        reacted =
            record {
              threads = λ j d. fired-react m w old u new shaped-u (λ y v. value v y) places j (ap (λ x. place_of x j) same);
              wires = λ k. marked-react m w old u new shaped-u (λ y v. value v y) places (is_due old k) k
                  (due-store_inputs a n (timed old) k ∙ due-timed old k) (ap (λ x. is_due x k) same);
            };
        pending = λ r. ap (λ x. pending_of x r) same ∙ pending-react m (value_of old) u r
            ∙ pending-store_inputs a n (timed old) r ∙ pending-timed old r;
        time = time-feed m old a;
        counts = count-feed m old a;
        allowances = allowance-feed m old a;
      }
    where
      n : ℕ
      n = m.scope.inputs

      u : State
      u = store_inputs a n (timed old)

      new : State
      new = feed m a (timed old)

      same : new ≡ react m (value_of old) u
      same = feed-timed m old a

      shaped-t : Shaped (timed old)
      shaped-t = shaped-timed old s

      shaped-u : Shaped u
      shaped-u = shaped-store_inputs a n (timed old) shaped-t

      wide : n ≤ 80
      wide = omega (arith, w.inputs-most)

      value : (v : ℕ) → value_of new v ≡ value_of u v
      value v = ap (λ x. value_of x v) same ∙ value-react m (value_of old) u v

      places : (j : ℕ) → place_of u j ≡ place_of old j
      places j = place-store_inputs a n (timed old) j ∙ place-timed old j

      above : (v : ℕ) → (v < n → ⊥) → n ≤ v
      above v d = omega arith

  pub instant-instant_in : (a : Inputs) → (instant_in m old a).number ≡ 0 → Instant m old (instant_in m old a).state (input_of a)
  instant-instant_in a h =
      let z : instant_refusal m old a ≡ 0 = sym (number-instant_in m old a) ∙ h in
      rw (instant_in-accepted m old a z) (instant-feed (input_of a) (accepted-instant m old a z).1)

-- ---- two states that come of one change of the same values: their places and marks agree

module _ (m : Module Expr) (old a b : State) (values : (v : ℕ) → value_of b v ≡ value_of a v) where
  fires-agree :
      (j : ℕ) →
      wait_fires (current m old j) (value_of old) (value_of b) ≡ wait_fires (current m old j) (value_of old) (value_of a)
  fires-agree j = ap (wait_fires (current m old j) (value_of old)) (λ x v. values v x)

  fired-agree : (j : ℕ) → Fired m old a j → Fired m old b j → place_of b j ≡ place_of a j
  fired-agree j (goes_on p e) (goes_on q f) = f ∙ sym e
  fired-agree j (goes_on p e) (stays q f) = absurd-bool (fires-agree j ∙ p) q
  fired-agree j (stays p e) (goes_on q f) = absurd-bool q (fires-agree j ∙ p)
  fired-agree j (stays p e) (stays q f) = f ∙ sym e

  marked-agree : (was : Bool) (k : ℕ) → Marked m old a was k → Marked m old b was k → is_due b k ≡ is_due a k
  marked-agree was k (was-due p d) (was-due q f) = f ∙ sym d
  marked-agree was k (was-due p d) (reads-changed v r c f) = f ∙ sym d
  marked-agree was k (was-due p d) (not-due q r f) = absurd-bool p q
  marked-agree was k (reads-changed v r c d) (was-due q f) = f ∙ sym d
  marked-agree was k (reads-changed v r c d) (reads-changed u x y f) = f ∙ sym d
  marked-agree was k (reads-changed v r c d) (not-due q x f) = absurd (c (sym (values v) ∙ x v r))
  marked-agree was k (not-due p x d) (was-due q f) = absurd-bool q p
  marked-agree was k (not-due p x d) (reads-changed v r c f) = absurd (c (values v ∙ x v r))
  marked-agree was k (not-due p x d) (not-due q y f) = f ∙ sym d

  marks-agree :
      (out : ℕ → Type 0) (was : ℕ → Bool) → Reacted m old a out was → Reacted m old b out was → (k : ℕ) → is_due b k ≡ is_due a k
  marks-agree out was x y k = marked-agree (was k) k (x.wires k) (y.wires k)

  places-agree :
      (was : ℕ → Bool) → Reacted m old a (λ j. ⊥) was → Reacted m old b (λ j. ⊥) was → (j : ℕ) → place_of b j ≡ place_of a j
  places-agree was x y j = fired-agree j (x.threads j (λ z. z)) (y.threads j (λ z. z))

-- ---- two outcomes of one choice agree

module _ (m : Module Expr) (old a b : State) (time : b.counters.time ≡ a.counters.time)
    (counts : (v : ℕ) → count_of b v ≡ count_of a v) (allowances : SameAllowances m a b) where
  -- A variable t with the same value in both, the others as they were.
  values_agree :
      (t : ℕ) → value_of b t ≡ value_of a t → OtherValues m old a (λ v. v ≡ t) → OtherValues m old b (λ v. v ≡ t) →
      (v : ℕ) → value_of b v ≡ value_of a v
  values_agree t h x y v = by (ℕ_discrete v t)
    where
      by : Dec (v ≡ t) → value_of b v ≡ value_of a v
      by (yes e) = rw e h
      by (no d) = y v d ∙ sym (x v d)

  assigned-agree : (i t : ℕ) (e : Expr) → Assigned m old a i t e → Assigned m old b i t e → Alike m a b
  assigned-agree i t e x y =
      record {
        values = values;
        pending = λ r. y.pending r ∙ sym (x.pending r);
        places = λ j. by j (ℕ_discrete j i);
        marks = marks-agree m old a b values (λ j. j ≡ i) (is_due old) x.reacted y.reacted;
        time = time;
        counts = counts;
        allowances = allowances;
      }
    where
      values : (v : ℕ) → value_of b v ≡ value_of a v
      values = values_agree t (y.value ∙ sym x.value) x.others y.others

      by : (j : ℕ) → Dec (j ≡ i) → place_of b j ≡ place_of a j
      by j (yes q) = rw q (y.place ∙ sym x.place)
      by j (no d) = fired-agree m old a b values j (x.reacted.threads j d) (y.reacted.threads j d)

  calm-agree :
      (i : ℕ) → place_of b i ≡ place_of a i → Calm m old a i → Calm m old b i → ((r : ℕ) → pending_of b r ≡ pending_of a r) →
      Alike m a b
  calm-agree i h x y pending =
      record {
        values = λ v. y.values v ∙ sym (x.values v);
        pending = pending;
        places = λ j. by j (ℕ_discrete j i);
        marks = λ k. y.marks k ∙ sym (x.marks k);
        time = time;
        counts = counts;
        allowances = allowances;
      }
    where
      by : (j : ℕ) → Dec (j ≡ i) → place_of b j ≡ place_of a j
      by j (yes q) = rw q h
      by j (no d) = y.places j d ∙ sym (x.places j d)

  deferred-agree : (i t : ℕ) (e : Expr) → Deferred m old a i t e → Deferred m old b i t e → Alike m a b
  deferred-agree i t e x y =
      calm-agree i (y.place ∙ sym x.place) x.calm y.calm (λ r. by r (ℕ_discrete r (t - m.scope.inputs)))
    where
      by : (r : ℕ) → Dec (r ≡ t - m.scope.inputs) → pending_of b r ≡ pending_of a r
      by r (yes q) = rw q (y.slot ∙ sym x.slot)
      by r (no d) = y.others r d ∙ sym (x.others r d)

  moved-agree : (i p : ℕ) → Moved m old a i p → Moved m old b i p → Alike m a b
  moved-agree i p x y =
      calm-agree i (y.place ∙ sym x.place) x.calm y.calm (λ r. y.pending r ∙ sym (x.pending r))

  settled-agree : (k : ℕ) → Settled m old a k → Settled m old b k → Alike m a b
  settled-agree k x y =
      record {
        values = values;
        pending = λ r. y.pending r ∙ sym (x.pending r);
        places = places-agree m old a b values (λ j. is_due old j && not (eqb j k)) x.reacted y.reacted;
        marks = marks-agree m old a b values (λ j. ⊥) (λ j. is_due old j && not (eqb j k)) x.reacted y.reacted;
        time = time;
        counts = counts;
        allowances = allowances;
      }
    where
      values : (v : ℕ) → value_of b v ≡ value_of a v
      values = values_agree (wire_variable m k) (y.value ∙ sym x.value) x.others y.others

  committed-agree : Committed m old a → Committed m old b → Alike m a b
  committed-agree x y =
      record {
        values = values;
        pending = λ r. slot r (dec_lt r m.scope.registers);
        places = places-agree m old a b values (is_due old) x.reacted y.reacted;
        marks = marks-agree m old a b values (λ j. ⊥) (is_due old) x.reacted y.reacted;
        time = time;
        counts = counts;
        allowances = allowances;
      }
    where
      value : (v : ℕ) → Variable m v → value_of b v ≡ value_of a v
      value v (a-register r l e) = rw e at (y.values r l ∙ sym (x.values r l))
      value v (no_register d) = y.others v d ∙ sym (x.others v d)

      values : (v : ℕ) → value_of b v ≡ value_of a v
      values v = value v (register? m v)

      slot : (r : ℕ) → Dec (r < m.scope.registers) → pending_of b r ≡ pending_of a r
      slot r (yes l) = y.emptied r l ∙ sym (x.emptied r l)
      slot r (no d) = y.rest r d ∙ sym (x.rest r d)

  instant-agree : (f : ℕ → Value) → Instant m old a f → Instant m old b f → Alike m a b
  instant-agree f x y =
      record {
        values = values;
        pending = λ r. y.pending r ∙ sym (x.pending r);
        places = places-agree m old a b values (is_due old) x.reacted y.reacted;
        marks = marks-agree m old a b values (λ j. ⊥) (is_due old) x.reacted y.reacted;
        time = time;
        counts = counts;
        allowances = allowances;
      }
    where
      value : (v : ℕ) → Dec (v < m.scope.inputs) → value_of b v ≡ value_of a v
      value v (yes l) = y.inputs v l ∙ sym (x.inputs v l)
      value v (no d) = y.others v d ∙ sym (x.others v d)

      values : (v : ℕ) → value_of b v ≡ value_of a v
      values v = value v (dec_lt v m.scope.inputs)

-- ---- (b): a step is the one that its choice makes

-- Accepted where there is room, or else refused by the number for none.
pub data Allowed (number none : ℕ) (Room : Type 0) : Type 0 where
  accepted : number ≡ 0 → Room → Allowed number none Room
  no_room : number ≡ none → (Room → ⊥) → Allowed number none Room

allowed-spend_time : (number : ℕ) (st : State) → number ≡ spend_time st → Allowed number 36 (st.counters.time ≢ full)
allowed-spend_time number st h = by (ℕ_discrete st.counters.time full)
  where
    by : Dec (st.counters.time ≡ full) → Allowed number 36 (st.counters.time ≢ full)
    by (yes e) = no_room (h ∙ spend_time-full st e) (λ d. d e)
    by (no d) = accepted (h ∙ spend_time-zero st d) d

allowed-spend : (number : ℕ) (st : State) (u : ℕ) → number ≡ spend st u → Allowed number 47 (count_of st u < allowance_of st u)
allowed-spend number st u h = by (dec_lt (count_of st u) (allowance_of st u))
  where
    by : Dec (count_of st u < allowance_of st u) → Allowed number 47 (count_of st u < allowance_of st u)
    by (yes l) = accepted (h ∙ spend-zero st u l) l
    by (no d) = no_room (h ∙ spend-used st u (omega arith)) d

pub ready-acts : (m : Module Expr) (old new : State) {c : ℕ} → Acts m old new c → Ready m old c
unfolding is_wait
ready-acts m old new (assigns l h v o p r s) = thread-ready l (rw h)
ready-acts m old new (defers l h v o p r) = thread-ready l (rw h)
ready-acts m old new (jumps l h p c s) = thread-ready l (rw h)
ready-acts m old new (goes_in l h q p c s) = thread-ready l (rw h)
ready-acts m old new (passes-by l h q p c s) = thread-ready l (rw h)
ready-acts m old new (settles l h v o r s) = wire-ready l h
ready-acts m old new (commits h q l p v o e r x) = commit-ready h q l p

module _ (m : Module Expr) (w : Sound m) (old new : State) where
  pub refusal-step : (u c : ℕ) → Step m old new u c → Allowed (refusal m old u c) 47 (count_of old u < allowance_of old u)
  refusal-step u c h =
      allowed-spend (refusal m old u c) old u (refusal-ready m old u w h.user (ready-acts m old new h.acts))

  module _ (s : Shaped old) where
    alike-acts :
        (u : ℕ) {c : ℕ} → new.counters.time ≡ (performed m old u c).counters.time →
        ((v : ℕ) → count_of new v ≡ count_of (performed m old u c) v) → SameAllowances m (performed m old u c) new → Acts m old new c →
        Alike m (performed m old u c) new
    alike-acts u t n a (assigns {i = i} {t = x} {e = e} l h v o p r q) =
        assigned-agree m old (performed m old u i) new t n a i x e (assigned-performed m w old s u i l x e h)
        (record { value = v; others = o; place = p; reacted = r; pending = q })
    alike-acts u t n a (defers {i = i} {t = x} {e = e} l h v o p c) =
        deferred-agree m old (performed m old u i) new t n a i x e (deferred-performed m w old s u i l x e h)
        (record { slot = v; others = o; place = p; calm = c })
    alike-acts u t n a (jumps {i = i} {g = g} l h p c q) =
        moved-agree m old (performed m old u i) new t n a i g (moved-go m w old s u i l g h)
        (record { place = p; calm = c; pending = q })
    alike-acts u t n a (goes_in {i = i} {g = g} {e = e} l h x p c q) =
        moved-agree m old (performed m old u i) new t n a i (place_of old i + 1) (rw x at (moved-ifnot m w old s u i l e g h))
        (record { place = p; calm = c; pending = q })
    alike-acts u t n a (passes-by {i = i} {g = g} {e = e} l h x p c q) =
        moved-agree m old (performed m old u i) new t n a i g (rw x at (moved-ifnot m w old s u i l e g h))
        (record { place = p; calm = c; pending = q })
    alike-acts u t n a (settles {k = k} l h v o r q) =
        settled-agree m old (performed m old u (length m.threads + k)) new t n a k (settled-performed m w old s u k l)
        (record { value = v; others = o; reacted = r; pending = q })
    alike-acts u t n a (commits h q l p v o e r x) =
        committed-agree m old (performed m old u 255) new t n a (committed-performed m w old s u)
        (record { values = v; others = o; emptied = e; rest = r; reacted = x })

    counts_step : (u c : ℕ) → Step m old new u c → (v : ℕ) → count_of new v ≡ count_of (performed m old u c) v
    counts_step u c h v = by (ℕ_discrete v u)
      where
        by : Dec (v ≡ u) → count_of new v ≡ count_of (performed m old u c) v
        by (yes e) = rw e (h.count ∙ sym (count-performed m old u c s h.user))
        by (no d) = h.other-counts v d ∙ sym (count-performed-other m old u c v d)

    pub alike-performed : (u c : ℕ) → Step m old new u c → Alike m (performed m old u c) new
    alike-performed u c h =
        alike-acts u (h.time ∙ sym (time-performed m old u c)) (counts_step u c h)
        (λ v. h.allowances v ∙ sym (allowance-performed m old u c v)) h.acts

    pub alike-choose_in :
        (u c : ℕ) → Step m old new u c → count_of old u < allowance_of old u →
        ((choose_in m old u c).number ≡ 0) × Alike m (choose_in m old u c).state new
    alike-choose_in u c h d =
        let z : refusal m old u c ≡ 0 = refusal-ready m old u w h.user (ready-acts m old new h.acts) ∙ spend-zero old u d in
        (number-choose_in m old u c ∙ z, rw (choose_in-accepted m old u c z) (alike-performed u c h))

  -- ---- (d): an instant is the one that its inputs make

  pub refusal-instant :
      (a : Inputs) → inputs_fit m a ≡ true → Instant m old new (input_of a) →
      Allowed (instant_refusal m old a) 36 (old.counters.time ≢ full)
  refusal-instant a f h = allowed-spend_time (instant_refusal m old a) old (refusal-quiet m old a f h.rest)

  pub alike-feed : Shaped old → (a : ℕ → Value) → Instant m old new a → Alike m (feed m a (timed old)) new
  alike-feed s a h =
      instant-agree m old (feed m a (timed old)) new (h.time ∙ sym (time-feed m old a)) (λ v. h.counts v ∙ sym (count-feed m old a v))
      (λ v. h.allowances v ∙ sym (allowance-feed m old a v)) a
      (instant-feed m w old s a h.rest) h

  pub alike-instant_in :
      Shaped old → (a : Inputs) → inputs_fit m a ≡ true → Instant m old new (input_of a) → old.counters.time ≢ full →
      ((instant_in m old a).number ≡ 0) × Alike m (instant_in m old a).state new
  alike-instant_in s a f h d =
      let z : instant_refusal m old a ≡ 0 = refusal-quiet m old a f h.rest ∙ spend_time-zero old d in
      (number-instant_in m old a ∙ z, rw (instant_in-accepted m old a z) (alike-feed s (input_of a) h))
