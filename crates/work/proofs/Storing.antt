-- What the plain run stores up to its first commit (stores-readers), in a module that keeps extraction's rules, from a state in which a
-- wire is due exactly if it reads a variable whose value differs from what it was before, and no wire has been stored since (Fresh).
-- Threads run first, and write nothing that a wire reads; then the due wires run from the lowest up, each marking higher ones only.
-- Assumes nothing.
use Prim.Native.Nat.{ℕ, zero, suc, ◌+◌, ◌≤◌, ◌<◌}
use mathlib.Core.Path.{◌≡◌, refl, sym, ap, ◌∙◌, subst}
use mathlib.Core.Logic.{◌≢◌}
use mathlib.Core.Bool.{true, false, not, ◌&&◌, and-true}
use mathlib.Core.List.{[], ◌∷◌, ◌++◌, append-nil, append_assoc}
use native.Mathlib.Decide.{ℕ_discrete, dec_lt}
use native.Mathlib.Omega.{arith}
use lib.ListN.{length}
use lib.Dec.{eqb}
use borrow.Author.Tests.{ne_eqb, not-false}
use Rattle.values.specs.declared.Value.{Value}
use Rattle.sheet.specs.Expression.{Expr}
use Rattle.sheet.specs.Module.{Module}
use Rattle.evaluation.specs.Evaluation.{reads}
use Rattle.state.specs.declared.State.{State}
use Rattle.state.specs.State.{Shaped, value_of, is_due}
use Rattle.soundness.specs.Soundness.{Sound}
use Rattle.events.specs.Cycle.{variables, current, wire_expr, wire_variable, is_wait, enabled, any_enabled, items, touched}
use Rattle.events.specs.Calls.{plain_choice}
use Rattle.events.specs.Steps.{Marked, was-due, reads-changed, not-due, Acts, assigns, defers, jumps, goes_in, passes-by, settles, commits, Step, Instant}
use Rattle.events.proofs.Cycle.{absurd-bool, current-place, touched-true, touched-reads, touched_none}
use Rattle.events.proofs.Choices.{enabled-thread, enabled-wire, none-enabled, shaped-choose_in, quiet-enabled}
use Rattle.nextstate.specs.Rules.{plain_writes, wire_reads}
use Rattle.nextstate.specs.Ruled.{Ruled}
use Rattle.nextstate.proofs.Ruled.{refuted, sets-register, wire-within}
use Rattle.threads.proofs.View.{turned, marks-kept, values-kept}
use Rattle.settling.specs.Settles.{WireStep}
use Rattle.settling.proofs.Settle.{reads-lower}
use Rattle.settling.proofs.Marks.{wire-kept}
use Rattle.phases.specs.Phases.{Still}
use Rattle.work.specs.Work.{readers_below, readers}
use Rattle.work.proofs.Readers.{touched-same, readers-same, readers-none}
use Rattle.work.proofs.Turns.{Long, stored, end, next, Turn, rests, thread, wire, turn}

-- ---- nothing enabled

module _ (m : Module Expr) (u : State) where
  pub idle-thread : (i : ℕ) → i < length m.threads → enabled m u i ≡ false → is_wait (current m u i) ≡ true
  idle-thread i l h = not-false (is_wait (current m u i)) (sym (enabled-thread m u i l) ∙ h)

  pub idle-wire : (k : ℕ) → enabled m u (length m.threads + k) ≡ false → is_due u k ≡ false
  idle-wire k h = sym (enabled-wire m u k) ∙ h

  pub none-due : any_enabled m u ≡ false → (k : ℕ) → k < length m.wires → is_due u k ≡ false
  unfolding items
  none-due h k l = idle-wire k (none-enabled m u h (length m.threads + k) (omega arith))

-- ---- f: the values before

module _ (m : Module Expr) (f : ℕ → Value) (u : State) where
  pub record Fresh : Type 0 where
    pub marks : (k : ℕ) → k < length m.wires → is_due u k ≡ touched m (wire_expr m k) f (value_of u)
    pub wires : (k : ℕ) → k < length m.wires → value_of u (wire_variable m k) ≡ f (wire_variable m k)

  -- Every thread is at a wait; the wires below b are done, and those from b on are as in a fresh state.
  record Passed (b : ℕ) : Type 0 where
    still : Still m u
    most : b ≤ length m.wires
    clear : (k : ℕ) → k < b → is_due u k ≡ false
    marks : (k : ℕ) → b ≤ k → k < length m.wires → is_due u k ≡ touched m (wire_expr m k) f (value_of u)
    wires : (k : ℕ) → b ≤ k → k < length m.wires → value_of u (wire_variable m k) ≡ f (wire_variable m k)

  fresh-passed : Still m u → Fresh → Passed 0
  fresh-passed h F =
      record {
        still = h;
        most = omega arith;
        clear = λ k l. absurd (omega arith);
        marks = λ k b l. F.marks k l;
        wires = λ k b l. F.wires k l;
      }

module _ (m : Module Expr) (w : Sound m) where
  read-within : (k y : ℕ) → reads (wire_expr m k) y ≡ true → y < variables m
  unfolding variables wire_reads
  read-within k y r = wire-within m w k y r

  -- ---- after an instant on a quiet state, after a commit: the state is fresh

  module _ (old new : State) where
    marked-fresh : (k : ℕ) → is_due old k ≡ false → Marked m old new (is_due old k) k →
        is_due new k ≡ touched m (wire_expr m k) (value_of old) (value_of new)
    marked-fresh k h (was-due a b) = absurd-bool a h
    marked-fresh k h (reads-changed v r c b) =
        b ∙ sym (touched-reads m (wire_expr m k) (value_of old) (value_of new) v (read-within k v r) r c)
    marked-fresh k h (not-due a s b) = b ∙ sym (touched_none m (wire_expr m k) (value_of old) (value_of new) (λ v l r. s v r))

    pub instant-fresh : (a : ℕ → Value) → Instant m old new a → Fresh m (value_of old) new
    unfolding wire_variable
    instant-fresh a s =
        record {
          marks = λ k l. marked-fresh k (none-due m old (quiet-enabled m old s.rest) k l) (s.reacted.wires k);
          wires = λ k l. s.others (wire_variable m k) (λ e. omega arith);
        }

    commit-acts : {c : ℕ} → c ≡ 255 → Acts m old new c → Fresh m (value_of old) new
    unfolding wire_variable items
    commit-acts e (assigns l q v o p r s) = absurd (omega (arith, w.threads-most))
    commit-acts e (defers l q v o p c) = absurd (omega (arith, w.threads-most))
    commit-acts e (jumps l q p c s) = absurd (omega (arith, w.threads-most))
    commit-acts e (goes_in l q h p c s) = absurd (omega (arith, w.threads-most))
    commit-acts e (passes-by l q h p c s) = absurd (omega (arith, w.threads-most))
    commit-acts e (settles l d v o r s) = absurd (omega (arith, w.threads-most, w.wires-most))
    commit-acts e (commits h q l p v o x y r) =
        record {
          marks = λ k b. marked-fresh k (idle-wire m old k (h (length m.threads + k) (omega arith))) (r.wires k);
          wires = λ k b. o (wire_variable m k) (λ d. absurd (omega (arith, d.1)));
        }

    pub commit-fresh : {who : ℕ} → Step m old new who 255 → Fresh m (value_of old) new
    commit-fresh s = commit-acts refl s.acts

module _ (m : Module Expr) (w : Sound m) (R : Ruled m) (who : ℕ) (f : ℕ → Value) where
  -- ---- a thread's step keeps a state fresh

  fresh-thread : (old new : State) (i : ℕ) → i < length m.threads → Step m old new who i → Fresh m f old → Fresh m f new
  unfolding wire_variable wire_reads
  fresh-thread old new i l s F =
      record {
        marks = λ k b. marks-kept m w R old new i l s k ∙ F.marks k b
            ∙ touched-same m (wire_expr m k) f (value_of old) (value_of new)
            (λ y r. sym (values-kept m w R old new i l s y (R.apart-wire k i y r)));
        wires = λ k b. values-kept m w R old new i l s (wire_variable m k)
            (refuted (plain_writes m i (wire_variable m k)) (λ h. let r = sets-register m w i (wire_variable m k) h in omega (arith, r.1, r.2)))
            ∙ F.wires k b;
      }

  -- ---- the step of the lowest due wire

  wire-reacted : (old new : State) (k j : ℕ) → k < length m.wires → {c : ℕ} → c ≡ length m.threads + k → Acts m old new c →
      Marked m old new (is_due old j && not (eqb j k)) j
  wire-reacted old new k j b e (assigns l q v o p r s) = absurd (omega arith)
  wire-reacted old new k j b e (defers l q v o p c) = absurd (omega arith)
  wire-reacted old new k j b e (jumps l q p c s) = absurd (omega arith)
  wire-reacted old new k j b e (goes_in l q h p c s) = absurd (omega arith)
  wire-reacted old new k j b e (passes-by l q h p c s) = absurd (omega arith)
  wire-reacted old new k j b e (settles {k = i} l d v o r s) =
      let same : i ≡ k = omega arith in
      subst (λ x. Marked m old new (is_due old j && not (eqb j x)) j) same (r.wires j)
  wire-reacted old new k j b e (commits h q l p v o x y r) = absurd (omega (arith, w.threads-most, w.wires-most))

  module _ (old new : State) (k b : ℕ) (l : k < length m.wires) (s : Step m old new who (length m.threads + k))
      (idle : (c : ℕ) → c < length m.threads + k → enabled m old c ≡ false) (P : Passed m f old b) where
    abbrev x : WireStep m old new k
    x = wire-kept m w R old new k l s

    not-passed : b ≤ k
    not-passed = by (dec_lt k b)
      where
        by : Dec (k < b) → b ≤ k
        by (yes h) = absurd-bool x.due (P.clear k h)
        by (no d) = omega arith

    -- What a wire up to k reads stays; so does all but wire k.
    kept : (j y : ℕ) → j ≤ k → reads (wire_expr m j) y ≡ true → value_of new y ≡ value_of old y
    unfolding wire_variable
    kept j y h r = x.others y (λ e. omega (arith, reads-lower m R j y r))

    as_before : (y : ℕ) → value_of old y ≢ f y → value_of new y ≡ value_of old y
    as_before y d = x.others y (λ e. d (rw e (P.wires k not-passed l)))

    higher : (j : ℕ) → k < j → j < length m.wires → Marked m old new (is_due old j) j →
        is_due new j ≡ touched m (wire_expr m j) f (value_of new)
    higher j h d (was-due a c) =
        let t = touched-true m (wire_expr m j) f (value_of old) (sym (P.marks j (omega (arith, not-passed)) d) ∙ a) in
        let y = t.0 in
        c ∙ sym (touched-reads m (wire_expr m j) f (value_of new) y t.1 t.2 (λ e. t.3 (sym (as_before y t.3) ∙ e)))
    higher j h d (reads-changed y r c e) = by (ℕ_discrete y (wire_variable m k))
      where
        by : Dec (y ≡ wire_variable m k) → is_due new j ≡ touched m (wire_expr m j) f (value_of new)
        by (yes q) =
            let before : value_of old y ≡ f y = rw q (P.wires k not-passed l) in
            e ∙ sym (touched-reads m (wire_expr m j) f (value_of new) y (read-within m w j y r) r (λ z. c (z ∙ sym before)))
        by (no q) = absurd (c (x.others y q))
    higher j h d (not-due a same c) =
        c ∙ sym a ∙ P.marks j (omega (arith, not-passed)) d
        ∙ touched-same m (wire_expr m j) f (value_of old) (value_of new) (λ y r. sym (same y r))

    passed-wire : Passed m f new (suc k)
    unfolding wire_variable
    passed-wire =
        record {
          still = λ i h. ap is_wait (current-place m new old i (x.places i)) ∙ P.still i h;
          most = omega arith;
          clear = λ j h. by j h (ℕ_discrete j k);
          marks = λ j h d. higher j (omega arith) d
              (rw (ne_eqb j k (λ e. omega arith), and-true) at (wire-reacted old new k j l refl s.acts));
          wires = λ j h d. x.others (wire_variable m j) (λ e. omega arith) ∙ P.wires j (omega (arith, not-passed)) d;
        }
      where
        by : (j : ℕ) → j < suc k → Dec (j ≡ k) → is_due new j ≡ false
        by j h (yes e) = rw e x.cleared
        by j h (no d) = x.lower j (omega arith) ∙ idle-wire m old j (idle (length m.threads + j) (omega arith))

    -- It is the next of the wires that read a variable whose value differs.
    next-reader : readers_below m (suc k) f (value_of new) ≡ readers_below m b f (value_of old) ++ (k ∷ [])
    unfolding readers_below
    next-reader =
        let mark : touched m (wire_expr m k) f (value_of new) ≡ true =
        touched-same m (wire_expr m k) f (value_of new) (value_of old) (λ y r. kept k y (omega arith) r)
        ∙ sym (P.marks k not-passed l) ∙ x.due in
        let below : readers_below m k f (value_of new) ≡ readers_below m b f (value_of old) =
        readers-same m f k (value_of new) (value_of old) (λ j h y r. kept j y (omega arith) r)
        ∙ readers-none m f b k (value_of old) not-passed
        (λ j h d. sym (P.marks j h (omega arith)) ∙ idle-wire m old j (idle (length m.threads + j) (omega arith))) in
        rw (mark, below) refl

  -- ---- the run

  -- Where nothing is enabled, no wire is left that reads a variable whose value differs.
  all-passed : (u : State) (b : ℕ) → any_enabled m u ≡ false → Passed m f u b →
      readers_below m (length m.wires) f (value_of u) ≡ readers_below m b f (value_of u)
  all-passed u b h P =
      readers-none m f b (length m.wires) (value_of u) P.most (λ k a c. sym (P.marks k a c) ∙ none-due m u h k c)

  abbrev Rest : ℕ → Type 0
  Rest n = (u : State) → Shaped u → (b : ℕ) → Passed m f u b → Long m who n u →
      readers_below m b f (value_of u) ++ stored m who n u ≡ readers m f (value_of (end m who n u))

  wires-rest : (n : ℕ) (u : State) (b : ℕ) → any_enabled m u ≡ false → stored m who n u ≡ [] → end m who n u ≡ u → Passed m f u b →
      readers_below m b f (value_of u) ++ stored m who n u ≡ readers m f (value_of (end m who n u))
  unfolding readers
  wires-rest n u b h e t P = rw (e, t) (append-nil (readers_below m b f (value_of u)) ∙ sym (all-passed u b h P))

  wires-turn : (n : ℕ) → Rest n → (u : State) → Shaped u → (b : ℕ) → Passed m f u b → Turn m who (suc n) u →
      readers_below m b f (value_of u) ++ stored m who (suc n) u ≡ readers m f (value_of (end m who (suc n) u))
  wires-turn n ih u s b P (rests h e t) = wires-rest (suc n) u b h e t P
  wires-turn n ih u s b P (thread i l step e t g) = absurd-bool (P.still i l) (turned m w R u (next m who u) i l step).runs
  wires-turn n ih u s b P (wire k l step idle e t g) =
      let new = next m who u in
      let done = readers_below m b f (value_of u) in
      let on = ih new (shaped-choose_in m u who (plain_choice m u) s) (suc k) (passed-wire u new k b l step idle P) g in
      ap (λ c. done ++ c) e ∙ sym (append_assoc done (k ∷ []) (stored m who n new))
      ∙ ap (λ c. c ++ stored m who n new) (sym (next-reader u new k b l step idle P)) ∙ on ∙ ap (λ v. readers m f (value_of v)) (sym t)

  wires-zero : (u : State) (b : ℕ) → Passed m f u b → Turn m who 0 u →
      readers_below m b f (value_of u) ++ stored m who 0 u ≡ readers m f (value_of (end m who 0 u))
  wires-zero u b P (rests h e t) = wires-rest 0 u b h e t P

  stores-rest : (n : ℕ) → Rest n
  stores-rest zero u s b P h = wires-zero u b P (turn m who w zero u s h)
  stores-rest (suc n) u s b P h = wires-turn n (stores-rest n) u s b P (turn m who w (suc n) u s h)

  -- From a fresh state.
  fresh-rest : (n : ℕ) (u : State) → any_enabled m u ≡ false → stored m who n u ≡ [] → end m who n u ≡ u → Fresh m f u →
      stored m who n u ≡ readers m f (value_of (end m who n u))
  unfolding items readers_below
  fresh-rest n u h e t F =
      wires-rest n u 0 h e t (fresh-passed m f u (λ i l. idle-thread m u i l (none-enabled m u h i (omega arith))) F)

  fresh-turn : (n : ℕ) →
      ((u : State) → Shaped u → Fresh m f u → Long m who n u → stored m who n u ≡ readers m f (value_of (end m who n u))) →
      (u : State) → Shaped u → Fresh m f u → Long m who (suc n) u → Turn m who (suc n) u →
      stored m who (suc n) u ≡ readers m f (value_of (end m who (suc n) u))
  unfolding readers_below
  fresh-turn n ih u s F h (rests a e t) = fresh-rest (suc n) u a e t F
  fresh-turn n ih u s F h (thread i l step e t g) =
      let new = next m who u in
      e ∙ ih new (shaped-choose_in m u who (plain_choice m u) s) (fresh-thread u new i l step F) g
      ∙ ap (λ v. readers m f (value_of v)) (sym t)
  fresh-turn n ih u s F h (wire k l step idle e t g) =
      stores-rest (suc n) u s 0 (fresh-passed m f u (λ i b. idle-thread m u i b (idle i (omega arith))) F) h

  fresh-zero : (u : State) → Fresh m f u → Turn m who 0 u → stored m who 0 u ≡ readers m f (value_of (end m who 0 u))
  fresh-zero u F (rests h e t) = fresh-rest 0 u h e t F

  pub stores-readers :
      (n : ℕ) (u : State) → Shaped u → Fresh m f u → Long m who n u → stored m who n u ≡ readers m f (value_of (end m who n u))
  stores-readers zero u s F h = fresh-zero u F (turn m who w zero u s h)
  stores-readers (suc n) u s F h = fresh-turn n (stores-readers n) u s F h (turn m who w (suc n) u s h)
