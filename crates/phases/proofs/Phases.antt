-- The two phases of a clock cycle: the state at the start is in one (phase-start), every step keeps it and counts one more
-- (phase-step), a low instant leads from rest to settling and a rise of the clock to running threads, each towards the book's next
-- (phase-low, phase-high). Books that agree on the sheet serve alike (phase-agree). The count stays within the threads'
-- instructions and 2^W (phase-bound), a quiet state has the book's values and places (phase-quiet), and the book's places are
-- waits (phase-places). Assumes nothing.
use mathlib.Core.Path.{◌≡◌, refl, sym, ap, ◌∙◌, subst}
use mathlib.Core.Logic.{◌≢◌}
use mathlib.Core.Bool.{true, false}
use mathlib.Core.List.{List}
use Prim.Native.Nat.{ℕ, ◌+◌, ◌^◌, ◌≤◌, ◌<◌}
use native.Mathlib.Decide.{ℕ_discrete, dec_lt}
use native.Mathlib.Omega.{arith}
use lib.ListN.{length}
use lib.Dec.{ltb}
use borrow.Author.Tests.{not-false, lt-ltb, le-ltb}
use Rattle.values.specs.declared.Value.{Value}
use Rattle.values.specs.Values.{pick, known, same}
use Rattle.sheet.specs.Expression.{Expr}
use Rattle.sheet.specs.Module.{Module}
use Rattle.state.specs.declared.State.{State}
use Rattle.state.specs.State.{value_of, pending_of, place_of, is_due}
use Rattle.soundness.specs.Soundness.{Sound}
use Rattle.events.specs.Cycle.{variables, code_of, instr_at, current, wire_variable, is_wait, items, enabled, quiet}
use Rattle.events.specs.Calls.{unset, started}
use Rattle.events.specs.Steps.{latest, Marked, was-due, reads-changed, not-due, Acts, assigns, defers, jumps, goes_in, passes-by, settles, commits, Step, Instant}
use Rattle.events.proofs.Cycle.{absurd-bool, current-place}
use Rattle.events.proofs.Choices.{enabled-thread, enabled-wire, none-enabled, none-pending, quiet-enabled, quiet-pending}
use Rattle.events.proofs.Fits.{value-started, pending-started, place-started}
use Rattle.nextstate.specs.Rules.{wire_reads}
use Rattle.nextstate.specs.Extraction.{Tables}
use Rattle.nextstate.specs.Book.{Book, settled, fed, opening}
use Rattle.nextstate.specs.Ruled.{Ruled}
use Rattle.threads.specs.Resting.{here}
use Rattle.threads.specs.Alone.{Local, alone, begin, end_of, place_alone, rise_alone}
use Rattle.threads.specs.View.{View}
use Rattle.settling.specs.Potential.{potential}
use Rattle.threads.proofs.Alone.{end-waits}
use Rattle.threads.proofs.View.{marks-kept, view-own, view-other}
use Rattle.settling.proofs.Settle.{settle-agree}
use Rattle.settling.proofs.Marks.{place_kept, settles-step, settles-instant, settles-start, settled-quiet, wire-kept, wire-step}
use Rattle.settling.proofs.Potential.{potential-below}
use Rattle.phases.specs.Phases.{all_instructions, turned_alone, Still, Clear, Dry, Settling, Running, Phase, settling, running}
use Rattle.phases.proofs.Agreement.{Agree, rise-agree}
use Rattle.phases.proofs.Counting.{one_more, more-own, more-other, steps-more, steps-none}
use Rattle.phases.proofs.Firing.{wait-inside, low-stays, high-goes-on}
use Rattle.phases.proofs.Resting.{running-steps, running-places, running-values}

-- ---- a quiet state

module _ (m : Module Expr) (st : State) where
  -- Nothing enabled: every thread is at a wait, no wire is due.
  still-none : ((c : ℕ) → c < items m → enabled m st c ≡ false) → Still m st
  unfolding items
  still-none h i l =
      not-false (is_wait (current m st i)) (sym (enabled-thread m st i l) ∙ h i (omega arith))

  dry-none : ((c : ℕ) → c < items m → enabled m st c ≡ false) → Dry m st
  unfolding items
  dry-none h k l = sym (enabled-wire m st k) ∙ h (length m.threads + k) (omega arith)

  module _ (q : quiet m st ≡ true) where
    quiet-still : Still m st
    quiet-still = still-none (none-enabled m st (quiet-enabled m st q))

    quiet-dry : Dry m st
    quiet-dry = dry-none (none-enabled m st (quiet-enabled m st q))

    quiet-clear : Clear m st
    quiet-clear = none-pending m st (quiet-pending m st q)

-- Threads stay at their waits where no place changes.
still_kept :
    (m : Module Expr) (old new : State) → ((i : ℕ) → i < length m.threads → place_of new i ≡ place_of old i) →
    Still m old → Still m new
still_kept m old new h still i l = rw (current-place m new old i (h i l)) (still i l)

-- ---- the book's next values, by the clock

module _ (m : Module Expr) (a : ℕ → Value) (b : Book) where
  turned-low : a 0 ≡ known 0 → turned_alone m a b ≡ settled m (fed m a b)
  unfolding turned_alone same known
  turned-low e = rw e

  turned-high : a 0 ≡ known 1 → turned_alone m a b ≡ settled m (rise_alone m (fed m a b))
  unfolding turned_alone same known
  turned-high e = rw e

module _ (m : Module Expr) (w : Sound m) (u : Ruled m) where
  -- Room for the marks that a change of values makes.
  abbrev room : State → ℕ
  room st = potential (length m.wires) (is_due st)

  room-below : (st : State) → room st < 2 ^ length m.wires
  room-below st = potential-below (length m.wires) (is_due st)

  -- ---- the start

  pub phase-start : (T : Tables) (allowances : List ℕ) → Phase m (opening m T) (started m.scope.widths (length m.wires) allowances) 0
  unfolding opening settled current
  phase-start T allowances =
      let ws = m.scope.widths in
      let W = length m.wires in
      let z = room-below (started ws W allowances) in
      settling
      (record {
        still = λ i l. rw (place-started ws W allowances i) (u.first i l);
        clear = λ r l. pending-started ws W allowances r;
        settles = settles-start m w allowances;
        values =
            settle-agree m w u (value_of (started ws W allowances)) (unset ws)
            (λ v l. value-started ws W allowances v (omega (arith, w.inputs-most, w.registers-most)));
        places = λ i l. place-started ws W allowances i;
        bound = omega arith;
      })

  -- ---- running threads that have come to rest

  -- Without a commit.
  rested : (b : Book) (st : State) (n : ℕ) → Still m st → Clear m st → Running m b st n → Settling m b st n
  unfolding latest
  rested b st n still clear B =
      let z = room-below st in
      let s = running-steps m w u b st n B in
      record {
        still = still;
        clear = clear;
        settles = B.settles;
        values = running-values m w u b st n B still st (λ v l. refl) (λ r l. rw (clear r l));
        places = running-places m w u b st n B still;
        bound = omega arith;
      }

  quiet-phase : (b : Book) (st : State) (n : ℕ) → quiet m st ≡ true → Phase m b st n → Settling m b st n
  quiet-phase b st n q (settling A) = A
  quiet-phase b st n q (running B) = rested b st n (quiet-still m st q) (quiet-clear m st q) B

  -- ---- the steps

  thread-step :
      (b : Book) (old new : State) (n i : ℕ) → i < length m.threads → {who : ℕ} → Step m old new who i → Running m b old n →
      Running m b new (n + 1)
  thread-step b old new n i l s B =
      record {
        risen = B.risen;
        waited = B.waited;
        steps = one_more B.steps i;
        view = λ j k. by j k (ℕ_discrete j i);
        total = steps-more B.steps i (length m.threads) l ∙ ap (λ x. x + 1) B.total;
        dry = λ k d. marks-kept m w u old new i l s k ∙ B.dry k d;
        settles = settles-step m w old new i s B.settles;
        values = B.values;
        places = B.places;
      }
    where
      start : ℕ → Local
      start j = begin m j B.risen.values (B.risen.places j)

      by : (j : ℕ) → j < length m.threads → Dec (j ≡ i) → View m (start j) new j (one_more B.steps i j)
      by j k (yes e) =
          rw (e, more-own B.steps i) (view-own m w u old new i l s (start i) (B.steps i) (B.view i l))
      by j k (no d) =
          rw (more-other B.steps i j d) (view-other m w u old new i l s (start j) j (B.steps j) d (B.view j k))

  wire-phase :
      (b : Book) (old new : State) (n k : ℕ) → k < length m.wires → {who : ℕ} → Step m old new who (length m.threads + k) →
      Settling m b old n → Settling m b new (n + 1)
  unfolding wire_variable
  wire-phase b old new n k l s A =
      let c = wire-kept m w u old new k l s in
      let z = wire-step m w u old new k l s in
      let y : n + room old ≤ all_instructions m + 2 ^ length m.wires = A.bound in
      record {
        still = still_kept m old new (λ i d. c.places i) A.still;
        clear = λ r d. c.pending r ∙ A.clear r d;
        settles = settles-step m w old new (length m.threads + k) s A.settles;
        values = λ v d.
            settle-agree m w u (value_of new) (value_of old) (λ x h. c.others x (λ e. omega arith)) v d ∙ A.values v d;
        places = λ i d. c.places i ∙ A.places i d;
        bound = omega arith;
      }

  -- A thread's step: where all are at waits there is none.
  thread-phase :
      (b : Book) (old new : State) (n i : ℕ) → i < length m.threads → is_wait (current m old i) ≡ false →
      {who : ℕ} → Step m old new who i → Phase m b old n → Phase m b new (n + 1)
  thread-phase b old new n i l h s (settling A) = absurd-bool (A.still i l) h
  thread-phase b old new n i l h s (running B) = running (thread-step b old new n i l s B)

  -- The commit: the pending values are stored, and settling begins.
  commit-phase :
      (b : Book) (old new : State) (n : ℕ) {who : ℕ} → Step m old new who 255 → Still m old →
      ((r : ℕ) → r < m.scope.registers →
      value_of new (m.scope.inputs + r) ≡ latest (pending_of old r) (value_of old (m.scope.inputs + r))) →
      ((v : ℕ) → v < m.scope.inputs → value_of new v ≡ value_of old v) →
      Clear m new → ((i : ℕ) → place_of new i ≡ place_of old i) → Running m b old n → Settling m b new (n + 1)
  commit-phase b old new n s still registers inputs clear same B =
      let z = room-below new in
      let x = running-steps m w u b old n B in
      record {
        still = still_kept m old new (λ i l. same i) still;
        clear = clear;
        settles = settles-step m w old new 255 s B.settles;
        values = running-values m w u b old n B still new inputs registers;
        places = λ i l. same i ∙ running-places m w u b old n B still i l;
        bound = omega arith;
      }

  acts-phase :
      (b : Book) (old new : State) (n : ℕ) {who c : ℕ} → Step m old new who c → Acts m old new c → Phase m b old n →
      Phase m b new (n + 1)
  unfolding is_wait
  acts-phase b old new n s (assigns {i = i} l h value others place reacted same) p = thread-phase b old new n i l (rw h) s p
  acts-phase b old new n s (defers {i = i} l h slot others place calm) p = thread-phase b old new n i l (rw h) s p
  acts-phase b old new n s (jumps {i = i} l h place calm same) p = thread-phase b old new n i l (rw h) s p
  acts-phase b old new n s (goes_in {i = i} l h t place calm same) p = thread-phase b old new n i l (rw h) s p
  acts-phase b old new n s (passes-by {i = i} l h t place calm same) p = thread-phase b old new n i l (rw h) s p
  acts-phase b old new n s (settles {k = k} l d value others reacted same) (settling A) = settling (wire-phase b old new n k l s A)
  acts-phase b old new n s (settles {k = k} l d value others reacted same) (running B) = absurd-bool d (B.dry k l)
  acts-phase b old new n s (commits h q l p values others emptied rest reacted) (settling A) = absurd (p (A.clear q l))
  acts-phase b old new n s (commits h q l p values others emptied rest reacted) (running B) =
      let inputs : (v : ℕ) → v < m.scope.inputs → value_of new v ≡ value_of old v =
      λ v k. others v (λ d. absurd (omega (arith, d.0))) in
      settling
      (commit-phase b old new n s (still-none m old h) values inputs emptied
      (λ i. place_kept m u old new (inputs 0 w.inputs-some) i (reacted.threads i (λ z. z))) B)

  pub phase-step : (b : Book) (old new : State) (n c : ℕ) {who : ℕ} → Step m old new who c → Phase m b old n → Phase m b new (n + 1)
  phase-step b old new n c s p = acts-phase b old new n s s.acts p

  -- ---- a phase looks at the book's variables and threads of the sheet only

  pub phase-agree : (b c : Book) (st : State) (n : ℕ) → Agree m b c → Phase m b st n → Phase m c st n
  phase-agree b c st n h (settling A) =
      settling
      (record {
        still = A.still;
        clear = A.clear;
        settles = A.settles;
        values = λ v l. A.values v l ∙ h.values v l;
        places = λ i l. A.places i l ∙ h.places i l;
        bound = A.bound;
      })
  phase-agree b c st n h (running B) =
      running
      (record {
        risen = B.risen;
        waited = B.waited;
        steps = B.steps;
        view = B.view;
        total = B.total;
        dry = B.dry;
        settles = B.settles;
        values = λ v l. B.values v l ∙ h.values v l;
        places = λ i l. B.places i l ∙ h.places i l;
      })

  -- ---- what a phase says of the count, of rest and of the book's places

  pub phase-bound : (b : Book) (st : State) (n : ℕ) → Phase m b st n → n ≤ all_instructions m + 2 ^ length m.wires
  phase-bound b st n (settling A) = let h : n + room st ≤ all_instructions m + 2 ^ length m.wires = A.bound in omega arith
  phase-bound b st n (running B) = let h = running-steps m w u b st n B in omega arith

  -- A quiet state has the book's values.
  quiet-values :
      (b : Book) (st : State) (n : ℕ) → quiet m st ≡ true → Settling m b st n →
      (v : ℕ) → v < variables m → value_of st v ≡ b.values v
  quiet-values b st n q A v l =
      settled-quiet m w u st A.settles (quiet-dry m st q) (value_of st) (λ x d. refl) v l ∙ A.values v l

  pub phase-quiet :
      (b : Book) (st : State) (n : ℕ) → quiet m st ≡ true → Phase m b st n →
      ((v : ℕ) → v < variables m → value_of st v ≡ b.values v)
      × ((i : ℕ) → i < length m.threads → place_of st i ≡ b.places i)
  phase-quiet b st n q p =
      let A = quiet-phase b st n q p in
      (quiet-values b st n q A, A.places)

  book-waits :
      (b : Book) (st : State) (n : ℕ) → Phase m b st n → (i : ℕ) → i < length m.threads →
      is_wait (instr_at (code_of m i) (b.places i)) ≡ true
  unfolding current rise_alone place_alone
  book-waits b st n (settling A) i l = subst (λ p. is_wait (instr_at (code_of m i) p) ≡ true) (A.places i l) (A.still i l)
  book-waits b st n (running B) i l =
      let f = B.risen.values in
      let p = B.risen.places i in
      let e : (end_of m i f p).place ≡ b.places i = (rw (lt-ltb i (length m.threads) l) at (B.places i l)) in
      let h = B.waited i l in
      subst (λ p. is_wait (instr_at (code_of m i) p) ≡ true) e
      (end-waits m w u i p f l (wait-inside (code_of m i) p h) h)

  pub phase-places :
      (b : Book) (st : State) (n : ℕ) → Phase m b st n → (i : ℕ) → i < length m.threads →
      (b.places i < length (code_of m i)) × (is_wait (instr_at (code_of m i) (b.places i)) ≡ true)
  phase-places b st n p i l =
      let h = book-waits b st n p i l in
      (wait-inside (code_of m i) (b.places i) h, h)

  -- ---- the instants

  module _ (b : Book) (old new : State) (n : ℕ) (a : ℕ → Value) (q : quiet m old ≡ true) (A : Settling m b old n)
      (s : Instant m old new a) where
    -- The new values are those of the book with the inputs taken.
    fed-values : (v : ℕ) → v < variables m → value_of new v ≡ (fed m a b).values v
    unfolding fed
    fed-values v l = by (dec_lt v m.scope.inputs)
      where
        by : Dec (v < m.scope.inputs) → value_of new v ≡ pick (ltb v m.scope.inputs) (a v) (b.values v)
        by (yes k) = rw (lt-ltb v m.scope.inputs k) (s.inputs v k)
        by (no d) =
            rw (le-ltb v m.scope.inputs (omega arith)) (s.others v d ∙ quiet-values b old n q A v l)

    low-phase : a 0 ≡ known 0 → Settling m (turned_alone m a b) new 0
    unfolding settled fed variables
    low-phase e =
        let z = room-below new in
        let same : (i : ℕ) → i < length m.threads → place_of new i ≡ place_of old i =
        λ i l. low-stays m u old new i (A.still i l) (s.inputs 0 w.inputs-some ∙ e) (s.reacted.threads i (λ x. x)) in
        rw (turned-low m a b e)
        (record {
          still = still_kept m old new same A.still;
          clear = λ r l. s.pending r ∙ A.clear r l;
          settles = settles-instant m old new a s A.settles;
          values = settle-agree m w u (value_of new) (fed m a b).values
              (λ v l. fed-values v (omega (arith, w.variables)));
          places = λ i l. same i l ∙ A.places i l;
          bound = omega arith;
        })

    -- Only the clock changed, which no wire reads.
    unmarked :
        ((v : ℕ) → v ≢ 0 → v < m.scope.inputs → a v ≡ value_of old v) → (k : ℕ) → is_due old k ≡ false →
        Marked m old new (is_due old k) k → is_due new k ≡ false
    unfolding wire_reads
    unmarked same k d (was-due e x) = absurd-bool e d
    unmarked same k d (reads-changed v r c x) = absurd (c (by (ℕ_discrete v 0) (dec_lt v m.scope.inputs)))
      where
        by : Dec (v ≡ 0) → Dec (v < m.scope.inputs) → value_of new v ≡ value_of old v
        by (yes e) l = absurd-bool (rw e at r) (u.clock-wire k)
        by (no e) (yes l) = s.inputs v l ∙ same v e l
        by (no e) (no l) = s.others v l
    unmarked same k d (not-due e r x) = x

    high-phase :
        value_of old 0 ≡ known 0 → a 0 ≡ known 1 → ((v : ℕ) → v ≢ 0 → v < m.scope.inputs → a v ≡ value_of old v) →
        Running m (turned_alone m a b) new 0
    unfolding settled fed begin alone current variables
    high-phase y e same =
        let risen : Book = record { values = value_of new; places = place_of old } in
        let h : Agree m (rise_alone m risen) (rise_alone m (fed m a b)) =
        rise-agree m w risen (fed m a b) (record { values = fed-values; places = A.places }) in
        rw (turned-high m a b e)
        (record {
          risen = risen;
          waited = A.still;
          steps = λ i. 0;
          view = λ i l.
              record {
                way = here;
                place = high-goes-on m u old new i (A.still i l) y (s.inputs 0 w.inputs-some ∙ e)
                    (s.reacted.threads i (λ x. x));
                values = λ v sees. refl;
                pending = λ r k sees. s.pending r ∙ A.clear r k;
              };
          total = steps-none (length m.threads);
          dry = λ k l. unmarked same k (quiet-dry m old q k l) (s.reacted.wires k);
          settles = settles-instant m old new a s A.settles;
          values = settle-agree m w u (rise_alone m risen).values (rise_alone m (fed m a b)).values
              (λ v l. h.values v (omega (arith, w.variables)));
          places = h.places;
        })

  pub phase-low :
      (b : Book) (old new : State) (n : ℕ) (a : ℕ → Value) → quiet m old ≡ true → Phase m b old n → Instant m old new a →
      a 0 ≡ known 0 → Phase m (turned_alone m a b) new 0
  phase-low b old new n a q p s e = settling (low-phase b old new n a q (quiet-phase b old n q p) s e)

  pub phase-high :
      (b : Book) (old new : State) (n : ℕ) (a : ℕ → Value) → quiet m old ≡ true → Phase m b old n → value_of old 0 ≡ known 0 →
      Instant m old new a → a 0 ≡ known 1 → ((v : ℕ) → v ≢ 0 → v < m.scope.inputs → a v ≡ value_of old v) →
      Phase m (turned_alone m a b) new 0
  phase-high b old new n a q p y s e same = running (high-phase b old new n a q (quiet-phase b old n q p) s y e same)
