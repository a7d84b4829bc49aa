-- Marks, step by step, over the relation of events' specs/Steps: a wire that isn't due holds its expression's value, at the start
-- and after every step and instant, so that where no wire is due all are settled; and in a module that extraction accepts
-- (Ruled) a wire's step changes no place and no pending value, and lowers the potential. Assumes nothing.
use mathlib.Core.Path.{◌≡◌, refl, sym, subst, ◌∙◌}
use mathlib.Core.Bool.{Bool, true, false, not, ◌&&◌, and-true, and-false}
use mathlib.Core.List.{List}
use Prim.Native.Nat.{ℕ, ◌+◌, ◌≤◌, ◌<◌}
use native.Mathlib.Decide.{ℕ_discrete}
use native.Mathlib.Omega.{arith}
use lib.ListN.{length}
use lib.Dec.{eqb}
use borrow.Author.Tests.{eq-eqb, ne_eqb, lt-ltb}
use Rattle.values.specs.declared.Value.{Value}
use Rattle.sheet.specs.Expression.{Expr, Scope}
use Rattle.sheet.specs.Module.{Module}
use Rattle.evaluation.specs.Evaluation.{eval, reads}
use Rattle.evaluation.proofs.Evaluation.{eval-same}
use Rattle.pseudocode.specs.Translation.{set! }
use Rattle.state.specs.declared.State.{State}
use Rattle.state.specs.State.{value_of, is_due, place_of}
use Rattle.soundness.specs.Soundness.{Sound, SoundTarget, SoundInstr, sound-set}
use Rattle.events.specs.Cycle.{variables, current, wire_expr, wire_variable}
use Rattle.events.specs.Calls.{started}
use Rattle.events.specs.Steps.{SamePending, OtherValues, Calm, Fired, goes_on, stays, Marked, was-due, reads-changed, not-due, Reacted, Acts, assigns, defers, jumps, goes_in, passes-by, settles, commits, Step, Instant}
use Rattle.events.proofs.Cycle.{absurd-bool}
use Rattle.events.proofs.Choices.{sound-current}
use Rattle.events.proofs.Fits.{due-started}
use Rattle.nextstate.specs.Book.{settle}
use Rattle.nextstate.specs.Ruled.{Ruled}
use Rattle.threads.proofs.View.{no-fire}
use Rattle.settling.specs.Settles.{Settles, WireStep}
use Rattle.settling.specs.Potential.{potential}
use Rattle.settling.proofs.Settle.{reads-lower, settle-unique}
use Rattle.settling.proofs.Potential.{potential-falls}

-- ---- rule 15: where the clock stays, no wait fires and no place changes

pub place_kept :
    (m : Module Expr) → Ruled m → (old new : State) → value_of new 0 ≡ value_of old 0 →
    (j : ℕ) → Fired m old new j → place_of new j ≡ place_of old j
unfolding current
place_kept m R old new e j (goes_on q p) = absurd-bool q (no-fire m R j (place_of old j) (value_of old) (value_of new) (sym e))
place_kept m R old new e j (stays q p) = p

-- ---- marks

module _ (m : Module Expr) (old new : State) (k : ℕ) (was : Bool) where
  -- A wire that isn't due wasn't, and reads nothing that changed.
  pub mark-clear :
      Marked m old new was k → is_due new k ≡ false →
      (was ≡ false) × ((v : ℕ) → reads (wire_expr m k) v ≡ true → value_of new v ≡ value_of old v)
  mark-clear (was-due a b) h = absurd-bool b h
  mark-clear (reads-changed v r c b) h = absurd-bool b h
  mark-clear (not-due a s b) h = (a, s)

  -- A wire that reads nothing that changed is due if it was.
  pub mark-same :
      Marked m old new was k → ((v : ℕ) → reads (wire_expr m k) v ≡ true → value_of new v ≡ value_of old v) → is_due new k ≡ was
  mark-same (was-due a b) s = b ∙ sym a
  mark-same (reads-changed v r c b) s = absurd (c (s v r))
  mark-same (not-due a t b) s = b ∙ sym a

-- ---- a wire that isn't due holds its expression's value

module _ (m : Module Expr) (old new : State) (k : ℕ) where
  abbrev Holds : State → Type 0
  Holds st = is_due st k ≡ false → value_of st (wire_variable m k) ≡ eval (value_of st) (wire_expr m k)

  -- After a change that leaves the wire itself alone.
  holds-marked :
      Marked m old new (is_due old k) k → value_of new (wire_variable m k) ≡ value_of old (wire_variable m k) → Holds old → Holds new
  holds-marked c same h d =
      let p = mark-clear m old new k (is_due old k) c d in
      same ∙ h p.0 ∙ eval-same (value_of old) (value_of new) (wire_expr m k) (λ v r. sym (p.1 v r))

  -- After its own store.
  holds-stored :
      (was : Bool) → Marked m old new was k → value_of new (wire_variable m k) ≡ eval (value_of old) (wire_expr m k) → Holds new
  holds-stored was c stored d =
      let p = mark-clear m old new k was c d in
      stored ∙ eval-same (value_of old) (value_of new) (wire_expr m k) (λ v r. sym (p.1 v r))

  -- Where values and marks stay.
  holds-calm : (i : ℕ) → Calm m old new i → Holds old → Holds new
  holds-calm i c h d =
      c.values (wire_variable m k) ∙ h (sym (c.marks k) ∙ d)
      ∙ eval-same (value_of old) (value_of new) (wire_expr m k) (λ v r. sym (c.values v))

target-set : {c : Scope} {n p t : ℕ} {e : Expr} → SoundInstr c n p (set! t e) → SoundTarget c t e
target-set (sound-set l g) = g

module _ (m : Module Expr) (w : Sound m) (old new : State) where
  settles-acts : {c : ℕ} → Acts m old new c → Settles m old → Settles m new
  unfolding wire_variable
  settles-acts (assigns {i = i} {t = t} l q v o p r s) H k b =
      let g = target-set (rw q at (sound-current m w old i l)) in
      holds-marked m old new k (r.wires k) (o (wire_variable m k) (λ e. omega (arith, g.register))) (H k b)
  settles-acts (defers {i = i} l q v o p c) H k b = holds-calm m old new k i c (H k b)
  settles-acts (jumps {i = i} l q p c s) H k b = holds-calm m old new k i c (H k b)
  settles-acts (goes_in {i = i} l q h p c s) H k b = holds-calm m old new k i c (H k b)
  settles-acts (passes-by {i = i} l q h p c s) H k b = holds-calm m old new k i c (H k b)
  settles-acts (settles {k = j} l due v o r s) H k b = by (ℕ_discrete k j)
    where
      by : Dec (k ≡ j) → Holds m old new k new
      by (yes e) = rw e (holds-stored m old new j (is_due old j && not (eqb j j)) (r.wires j) v)
      by (no d) =
          let mark = rw (ne_eqb k j d, and-true) at (r.wires k) in
          holds-marked m old new k mark (o (wire_variable m k) (λ e. d (omega arith))) (H k b)
  settles-acts (commits n q l z v o p u r) H k b =
      holds-marked m old new k (r.wires k) (o (wire_variable m k) (λ e. omega (arith, e.1))) (H k b)

  pub settles-step : (c : ℕ) {who : ℕ} → Step m old new who c → Settles m old → Settles m new
  settles-step c s = settles-acts s.acts

pub settles-instant :
    (m : Module Expr) (old new : State) (a : ℕ → Value) → Instant m old new a → Settles m old → Settles m new
unfolding wire_variable
settles-instant m old new a s H k b =
    holds-marked m old new k (s.reacted.wires k) (s.others (wire_variable m k) (λ e. omega arith)) (H k b)

-- At the start every wire is due.
pub settles-start : (m : Module Expr) → Sound m → (allowances : List ℕ) → Settles m (started m.scope.widths (length m.wires) allowances)
settles-start m w allowances k b d =
    absurd-bool (lt-ltb k (length m.wires) b)
    (sym (due-started m.scope.widths (length m.wires) allowances k w.wires-most) ∙ d)

-- Where no wire is due, all are settled.
pub settled-quiet :
    (m : Module Expr) → Sound m → Ruled m → (st : State) → Settles m st → ((k : ℕ) → k < length m.wires → is_due st k ≡ false) →
    (h : ℕ → Value) → ((v : ℕ) → v < m.scope.inputs + m.scope.registers → value_of st v ≡ h v) →
    (v : ℕ) → v < variables m → value_of st v ≡ settle m h v
settled-quiet m w R st s none h same = settle-unique m w R (value_of st) h same (λ k b. s k b (none k b))

-- ---- a wire's step: what it keeps, and the potential

module _ (m : Module Expr) (w : Sound m) (R : Ruled m) (old new : State) where
  pub wire-settles :
      (k : ℕ) → is_due old k ≡ true → value_of new (wire_variable m k) ≡ eval (value_of old) (wire_expr m k) →
      OtherValues m old new (λ v. v ≡ wire_variable m k) →
      Reacted m old new (λ j. ⊥) (λ j. is_due old j && not (eqb j k)) → SamePending m old new → WireStep m old new k
  unfolding wire_variable
  wire-settles k due value others reacted pending =
      record {
        due = due;
        value = value;
        others = others;
        pending = pending;
        places = λ j. place_kept m R old new (others 0 (λ e. omega (arith, w.inputs-some))) j (reacted.threads j (λ x. x));
        cleared = mark k (omega arith) ∙ (rw (eq-eqb k k refl) (and-false (is_due old k)));
        lower = λ j l. mark j (omega arith) ∙ (rw (ne_eqb j k (λ e. omega arith)) (and-true (is_due old j)));
      }
    where
      mark : (j : ℕ) → j ≤ k → is_due new j ≡ (is_due old j && not (eqb j k))
      mark j l =
          mark-same m old new j (is_due old j && not (eqb j k)) (reacted.wires j)
          (λ v r. others v (λ e. omega (arith, reads-lower m R j v r)))

  pub wire-kept : (k : ℕ) → k < length m.wires → {who : ℕ} → Step m old new who (length m.threads + k) → WireStep m old new k
  wire-kept k b s = by s.acts refl
    where
      by : {c : ℕ} → Acts m old new c → c ≡ length m.threads + k → WireStep m old new k
      by (assigns l q v o p r s) e = absurd (omega arith)
      by (defers l q v o p c) e = absurd (omega arith)
      by (jumps l q p c s) e = absurd (omega arith)
      by (goes_in l q h p c s) e = absurd (omega arith)
      by (passes-by l q h p c s) e = absurd (omega arith)
      by (settles {k = j} l due v o r p) e =
          let same : j ≡ k = omega arith in
          subst (λ i. WireStep m old new i) same (wire-settles j due v o r p)
      by (commits n q l z v o p u r) e = absurd (omega (arith, w.threads-most, w.wires-most))

  pub wire-step :
      (k : ℕ) → k < length m.wires → {who : ℕ} → Step m old new who (length m.threads + k) →
      potential (length m.wires) (is_due new) < potential (length m.wires) (is_due old)
  wire-step k b s =
      let x = wire-kept k b s in
      potential-falls (length m.wires) k (is_due old) (is_due new) b x.due x.cleared x.lower
