-- What a thread's step leaves to the others and to the thread itself. It changes the clock and the marks never (clock-kept,
-- marks-kept), another thread's place never (places-kept), and only what the thread writes (values-kept, pending-kept); so a
-- thread is where it would be alone, one instruction further by its own step (view-own), no further by another's (view-other).
-- Assumes nothing.
use Prim.Native.Nat.{ℕ, suc, ◌+◌, ◌-◌, ◌<◌}
use mathlib.Core.Path.{◌≡◌, refl, sym, ap, ◌∙◌, subst}
use mathlib.Core.Logic.{◌≢◌}
use mathlib.Core.Bool.{Bool, true, false, or-false}
use mathlib.Core.List.{List, [], ◌∷◌}
use mathlib.Core.Option.{Option, some}
use native.Mathlib.Omega.{arith}
use lib.ListN.{length}
use lib.Dec.{eqb}
use borrow.Author.Tests.{eqb-true, eqb-false, eq-eqb}
use Rattle.values.specs.declared.Value.{Value}
use Rattle.values.specs.declared.Edge.{Edge}
use Rattle.values.specs.declared.Edge.TheVariants.{Change, Posedge, Negedge}
use Rattle.values.specs.Values.{pick}
use Rattle.values.specs.Edges.{fires}
use Rattle.values.proofs.Edges.{fires-refl}
use Rattle.sheet.specs.declared.EdgeTerm.{EdgeTerm}
use Rattle.sheet.specs.Expression.{Expr}
use Rattle.sheet.specs.Module.{Module}
use Rattle.evaluation.specs.Evaluation.{eval, reads}
use Rattle.evaluation.proofs.Evaluation.{eval-same}
use Rattle.pseudocode.specs.Translation.{Instr, wait!, set!, later!, go, ifnot}
use Rattle.state.specs.declared.State.{State}
use Rattle.state.specs.State.{value_of, pending_of, place_of, is_due}
use Rattle.soundness.specs.Soundness.{Sound}
use Rattle.events.specs.Cycle.{code_of, instr_at, current, is_wait, wire_expr, terms_fire, wait_fires}
use Rattle.events.specs.Steps.{OtherValues, Fired, goes_on, stays, Marked, was-due, reads-changed, not-due, Acts, assigns, defers, jumps, goes_in, passes-by, settles, commits, Step}
use Rattle.events.proofs.Cycle.{absurd-bool, and_left, and_right}
use Rattle.nextstate.specs.Rules.{sets_at, defers_at, reads_at, plain_writes, thread_reads, wire_reads, clock_edge, is_posedge}
use Rattle.nextstate.specs.Rules as rules
use Rattle.nextstate.specs.Book.{put}
use Rattle.nextstate.specs.Ruled.{Ruled}
use Rattle.threads.specs.Resting.{Leads}
use Rattle.threads.specs.Alone.{Local, put_pending, exec, turn, alone}
use Rattle.threads.specs.View.{Sees, SeesPending, View}
use Rattle.nextstate.proofs.Ruled.{refuted, at-instr, instr-any, sets-register, target-set, target-later}
use Rattle.threads.proofs.Resting.{way-snoc}
use Rattle.threads.proofs.Alone.{exec-leads, exec_keeps, exec-keeps-pending}

-- ---- a wait of a ruled module fires by the rise of the clock, and by nothing else

posedge-is : (e : Edge) → is_posedge e ≡ true → e ≡ Posedge
unfolding is_posedge
posedge-is Change h = absurd-bool h refl
posedge-is Posedge h = refl
posedge-is Negedge h = absurd-bool h refl

terms-clock : (ts : List EdgeTerm) (f g : ℕ → Value) → clock_edge ts ≡ true → terms_fire ts f g ≡ fires Posedge (f 0) (g 0)
unfolding clock_edge terms_fire
terms-clock [] f g h = absurd-bool h refl
terms-clock (t ∷ []) f g h =
    let e = posedge-is t.edge (and_left (is_posedge t.edge) (eqb t.variable 0) h) in
    let v = eqb-true t.variable 0 (and_right (is_posedge t.edge) (eqb t.variable 0) h) in
    rw (e, v) (or-false (fires Posedge (f 0) (g 0)))
terms-clock (t ∷ u ∷ ts) f g h = absurd-bool h refl

module _ (m : Module Expr) (u : Ruled m) (i p : ℕ) (f g : ℕ → Value) where
  pub fires-clock : is_wait (instr_at (code_of m i) p) ≡ true → wait_fires (instr_at (code_of m i) p) f g ≡ fires Posedge (f 0) (g 0)
  unfolding is_wait wait_fires
  fires-clock h = by (instr_at (code_of m i) p) refl h
    where
      by : (q : Instr Expr) → instr_at (code_of m i) p ≡ q → is_wait q ≡ true → wait_fires q f g ≡ fires Posedge (f 0) (g 0)
      by (wait! ts) e h = terms-clock ts f g (u.waits i p e)
      by (set! t x) e h = absurd-bool h refl
      by (later! t x) e h = absurd-bool h refl
      by (go k) e h = absurd-bool h refl
      by (ifnot x k) e h = absurd-bool h refl

  -- A change that leaves the clock fires no wait.
  pub no-fire : f 0 ≡ g 0 → wait_fires (instr_at (code_of m i) p) f g ≡ false
  unfolding wait_fires
  no-fire h = by (instr_at (code_of m i) p) refl
    where
      by : (q : Instr Expr) → instr_at (code_of m i) p ≡ q → wait_fires q f g ≡ false
      by (wait! ts) e = terms-clock ts f g (u.waits i p e) ∙ rw h (fires-refl Posedge (g 0))
      by (set! t x) e = refl
      by (later! t x) e = refl
      by (go k) e = refl
      by (ifnot x k) e = refl

-- ---- a thread's step, by its instruction

-- What thread i has before it in a state.
unfoldable pub seen : State → ℕ → Local
seen st i = record { place = place_of st i; values = value_of st; pending = pending_of st }

-- The state after the step of thread i is what its instruction makes of the state before it, and nothing else has changed.
pub record Turned (m : Module Expr) (old new : State) (i : ℕ) : Type 0 where
  pub runs : is_wait (current m old i) ≡ false
  pub place : place_of new i ≡ (exec m (current m old i) (seen old i)).place
  pub values : (v : ℕ) → value_of new v ≡ (exec m (current m old i) (seen old i)).values v
  pub pending : (r : ℕ) → pending_of new r ≡ (exec m (current m old i) (seen old i)).pending r
  pub places : (j : ℕ) → j ≢ i → place_of new j ≡ place_of old j
  pub marks : (k : ℕ) → is_due new k ≡ is_due old k

module _ (m : Module Expr) (w : Sound m) (u : Ruled m) (old new : State) (i : ℕ) where
  module _ {t : ℕ} {e : Expr} (h : current m old i ≡ set! t e) (others : OtherValues m old new (λ v. v ≡ t)) where
    set-sets : plain_writes m i t ≡ true
    unfolding current plain_writes sets_at
    set-sets = instr-any (sets_at t) refl (code_of m i) (place_of old i) (rw h (eq-eqb t t refl))

    -- The target is no input, so the clock stays.
    set-clock : value_of new 0 ≡ value_of old 0
    unfolding current
    set-clock = others 0 (λ z. omega (arith, (target-set m w i (place_of old i) h).not-input, w.inputs-some))

    fired-stays : (j : ℕ) → Fired m old new j → place_of new j ≡ place_of old j
    unfolding current
    fired-stays j (goes_on f e) = absurd-bool f (no-fire m u j (place_of old j) (value_of old) (value_of new) (sym set-clock))
    fired-stays j (stays f e) = e

    -- No wire reads the target.
    unread : (k v : ℕ) → reads (wire_expr m k) v ≡ true → v ≡ t → ⊥
    unfolding wire_reads
    unread k v r d = absurd-bool set-sets (u.apart-wire k i t (rw d at r))

    marked-same : (k : ℕ) → Marked m old new (is_due old k) k → is_due new k ≡ is_due old k
    marked-same k (was-due p d) = d ∙ sym p
    marked-same k (reads-changed v r c d) = absurd (c (others v (unread k v r)))
    marked-same k (not-due p x d) = d ∙ sym p

    put-values : value_of new t ≡ eval (value_of old) e → (v : ℕ) → value_of new v ≡ put (value_of old) t (eval (value_of old) e) v
    unfolding put
    put-values x v = by (eqb v t) refl
      where
        by : (b : Bool) → eqb v t ≡ b → value_of new v ≡ pick b (eval (value_of old) e) (value_of old v)
        by true d = rw (eqb-true v t d) x
        by false d = others v (eqb-false v t d)

module _ (old new : State) where
  put-pending : {s : ℕ} {a : Value} → pending_of new s ≡ some a → ((r : ℕ) → (r ≡ s → ⊥) → pending_of new r ≡ pending_of old r) →
      (r : ℕ) → pending_of new r ≡ put_pending (pending_of old) s a r
  unfolding put_pending
  put-pending {s} {a} x others r = by (eqb r s) refl
    where
      by : (b : Bool) → eqb r s ≡ b → pending_of new r ≡ pick b (some a) (pending_of old r)
      by true d = rw (eqb-true r s d) x
      by false d = others r (eqb-false r s d)

module _ (m : Module Expr) (w : Sound m) (u : Ruled m) (old new : State) where
  turned-acts : {i : ℕ} → i < length m.threads → Acts m old new i → Turned m old new i
  unfolding is_wait exec seen
  turned-acts l (assigns {i = i} b h x others p r s) =
      record {
        runs = rw h;
        place = rw h p;
        values = rw h (put-values m w u old new i h others x);
        pending = rw h s;
        places = λ j d. fired-stays m w u old new i h others j (r.threads j d);
        marks = λ k. marked-same m w u old new i h others k (r.wires k);
      }
  turned-acts l (defers b h x others p c) =
      record {
        runs = rw h;
        place = rw h p;
        values = rw h c.values;
        pending = rw h (put-pending old new x others);
        places = c.places;
        marks = c.marks;
      }
  turned-acts l (jumps b h p c s) =
      record { runs = rw h; place = rw h p; values = rw h c.values; pending = rw h s; places = c.places; marks = c.marks }
  turned-acts l (goes_in b h x p c s) =
      record { runs = rw h; place = rw (h, x) p; values = rw h c.values; pending = rw h s; places = c.places; marks = c.marks }
  turned-acts l (passes-by b h x p c s) =
      record { runs = rw h; place = rw (h, x) p; values = rw h c.values; pending = rw h s; places = c.places; marks = c.marks }
  turned-acts l (settles b h x o r s) = absurd (omega arith)
  turned-acts l (commits h q b p x o y z r) = absurd (omega (arith, w.threads-most))

pub turned : (m : Module Expr) → Sound m → Ruled m → (old new : State) (i : ℕ) → i < length m.threads → {who : ℕ} →
    Step m old new who i →
    Turned m old new i
turned m w u old new i l s = turned-acts m w u old new l s.acts

-- ---- what the step keeps

module _ (m : Module Expr) (w : Sound m) (u : Ruled m) (old new : State) (i : ℕ) (l : i < length m.threads)
    {who : ℕ} (s : Step m old new who i) where
  pub places-kept : (j : ℕ) → j ≢ i → place_of new j ≡ place_of old j
  places-kept = (turned m w u old new i l s).places

  pub marks-kept : (k : ℕ) → is_due new k ≡ is_due old k
  marks-kept = (turned m w u old new i l s).marks

  pub values-kept : (v : ℕ) → plain_writes m i v ≡ false → value_of new v ≡ value_of old v
  unfolding plain_writes sets_at current seen
  values-kept v h =
      (turned m w u old new i l s).values v
      ∙ exec_keeps m (current m old i) (seen old i) v (at-instr (sets_at v) refl (code_of m i) h (place_of old i))

  pub pending-kept : (r : ℕ) → rules.defers m i (m.scope.inputs + r) ≡ false → pending_of new r ≡ pending_of old r
  unfolding rules.defers defers_at current seen
  pending-kept r h =
      (turned m w u old new i l s).pending r
      ∙ exec-keeps-pending m (current m old i) (seen old i) r (λ t e q. (target-later m w i (place_of old i) q).not-input)
      (at-instr (defers_at (m.scope.inputs + r)) refl (code_of m i) h (place_of old i))

  pub clock-kept : value_of new 0 ≡ value_of old 0
  clock-kept = values-kept 0 (refuted (plain_writes m i 0) (λ h. let r = sets-register m w i 0 h in omega (arith, r.2, w.inputs-some)))

-- ---- two locals at one place that agree on some variables and some registers' pending values

pub record Agree (S Q : ℕ → Type 0) (L M : Local) : Type 0 where
  pub place : L.place ≡ M.place
  pub values : (v : ℕ) → S v → L.values v ≡ M.values v
  pub pending : (r : ℕ) → Q r → L.pending r ≡ M.pending r

put-agree : (f g : ℕ → Value) (t v : ℕ) {a b : Value} → a ≡ b → f v ≡ g v → put f t a v ≡ put g t b v
unfolding put
put-agree f g t v h k = rw (h, k)

put_pending-agree : (f g : ℕ → Option Value) (t r : ℕ) {a b : Value} → a ≡ b → f r ≡ g r → put_pending f t a r ≡ put_pending g t b r
unfolding put_pending
put_pending-agree f g t r h k = rw (h, k)

-- An instruction that reads only such variables keeps the agreement.
pub exec_agree : (m : Module Expr) (S Q : ℕ → Type 0) (q : Instr Expr) (L M : Local) → ((v : ℕ) → reads_at v q ≡ true → S v) →
    Agree S Q L M → Agree S Q (exec m q L) (exec m q M)
unfolding exec reads_at
exec_agree m S Q (wait! ts) L M r h = h
exec_agree m S Q (set! t e) L M r h =
    let x = eval-same L.values M.values e (λ v k. h.values v (r v k)) in
    record {
      place = ap (λ p. p + 1) h.place;
      values = λ v s. put-agree L.values M.values t v x (h.values v s);
      pending = h.pending;
    }
exec_agree m S Q (later! t e) L M r h =
    let x = eval-same L.values M.values e (λ v k. h.values v (r v k)) in
    record {
      place = ap (λ p. p + 1) h.place;
      values = h.values;
      pending = λ q s. put_pending-agree L.pending M.pending (t - m.scope.inputs) q x (h.pending q s);
    }
exec_agree m S Q (go g) L M r h = record { place = refl; values = h.values; pending = h.pending }
exec_agree m S Q (ifnot e g) L M r h =
    let x = eval-same L.values M.values e (λ v k. h.values v (r v k)) in
    record { place = rw (x, h.place); values = h.values; pending = h.pending }

-- ---- view-own, view-other

-- A variable that thread i reads is written plainly by no other.
pub reads-sees : (m : Module Expr) → Ruled m → (i p v : ℕ) → reads_at v (instr_at (code_of m i) p) ≡ true → Sees m i v
unfolding thread_reads reads_at
reads-sees m u i p v h j d = u.apart i j v (λ e. d (sym e)) (instr-any (reads_at v) refl (code_of m i) p h)

module _ (m : Module Expr) (w : Sound m) (u : Ruled m) (old new : State) (i : ℕ) (l : i < length m.threads)
    {who : ℕ} (s : Step m old new who i) (L : Local) where
  -- What thread i has before it and what it would have alone agree; so they do after the instruction.
  own-agree : (n : ℕ) → View m L old i n →
      Agree (Sees m i) (λ r. (r < m.scope.registers) × SeesPending m i r) (exec m (current m old i) (seen old i))
      (alone m i (suc n) L)
  unfolding alone turn current seen
  own-agree n y =
      let Q : ℕ → Type 0 = λ r. (r < m.scope.registers) × SeesPending m i r in
      let A = alone m i n L in
      subst (λ (p : ℕ). Agree (Sees m i) Q (exec m (current m old i) (seen old i)) (exec m (instr_at (code_of m i) p) A)) y.place
      (exec_agree m (Sees m i) Q (current m old i) (seen old i) A (reads-sees m u i (place_of old i))
      (record { place = y.place; values = y.values; pending = λ r h. y.pending r h.0 h.1 }))

  own-leads : (n : ℕ) → View m L old i n →
      Leads (instr_at (code_of m i) (alone m i n L).place) (alone m i n L).place (alone m i (suc n) L).place
  unfolding alone turn current
  own-leads n y =
      let A = alone m i n L in
      exec-leads m (instr_at (code_of m i) A.place) A (rw y.place at (turned m w u old new i l s).runs)

  pub view-own : (n : ℕ) → View m L old i n → View m L new i (suc n)
  view-own n y =
      let T = turned m w u old new i l s in
      let A = own-agree n y in
      record {
        way = way-snoc y.way (own-leads n y);
        place = T.place ∙ A.place;
        values = λ v h. T.values v ∙ A.values v h;
        pending = λ r b h. T.pending r ∙ A.pending r (b, h);
      }

  pub view-other : (j n : ℕ) → j ≢ i → View m L old j n → View m L new j n
  view-other j n d y =
      record {
        way = y.way;
        place = places-kept m w u old new i l s j d ∙ y.place;
        values = λ v h. values-kept m w u old new i l s v (h i (λ e. d (sym e))) ∙ y.values v h;
        pending = λ r b h. pending-kept m w u old new i l s r (h i (λ e. d (sym e))) ∙ y.pending r b h;
      }
