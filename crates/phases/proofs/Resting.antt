-- The end of a run of threads: when every thread of a running state is at a wait again, its places are the book's
-- (running-places), its values with the pending ones stored settle to the book's (running-values), and no more steps were made
-- than the threads have instructions (running-steps). Assumes nothing.
use mathlib.Core.Path.{◌≡◌, refl, sym, ap, ◌∙◌, subst}
use mathlib.Core.Logic.{◌≢◌}
use mathlib.Core.Bool.{Bool, true, false}
use mathlib.Core.Option.{none}
use Prim.Native.Nat.{ℕ, zero, suc, ◌+◌, ◌-◌, ◌≤◌, ◌<◌}
use native.Mathlib.Decide.{dec_lt}
use native.Mathlib.Omega.{arith}
use lib.ListN.{length}
use borrow.Author.Tests.{lt-ltb}
use Rattle.values.specs.declared.Value.{Value}
use Rattle.values.specs.Values.{pick}
use Rattle.sheet.specs.Expression.{Expr}
use Rattle.sheet.specs.Module.{Module}
use Rattle.state.specs.declared.State.{State}
use Rattle.state.specs.State.{value_of, pending_of, place_of}
use Rattle.soundness.specs.Soundness.{Sound}
use Rattle.events.specs.Cycle.{variables, code_of, instr_at, current, is_wait}
use Rattle.events.specs.Steps.{latest}
use Rattle.events.proofs.Cycle.{absurd-bool, or_left, or_right, Below, at-end, before, below_suc}
use Rattle.nextstate.specs.Rules.{plain_writes, defers, writes}
use Rattle.nextstate.specs.Book.{Book, settle}
use Rattle.nextstate.specs.Ruled.{Ruled}
use Rattle.threads.specs.Alone.{Local, alone, begin, end_of, value_after, taken_alone, place_alone, rise_alone}
use Rattle.nextstate.proofs.Ruled.{refuted, writes-thread, writes-register}
use Rattle.threads.proofs.Resting.{way-bound}
use Rattle.threads.proofs.Alone.{alone-keeps, alone-keeps-pending, end_is, begin-inside}
use Rattle.settling.proofs.Settle.{settle-agree}
use Rattle.phases.specs.Phases.{all_instructions, Still, Running}
use Rattle.phases.proofs.Counting.{steps-most}
use Rattle.phases.proofs.Firing.{wait-inside}

-- ---- who writes a variable: one of the threads below n, whose end the book takes, or none of them

data Writer (m : Module Expr) (b : Book) (n v : ℕ) : Type 0 where
  writer : (i : ℕ) → i < n → writes m i v ≡ true →
      taken_alone m b n v ≡ value_after m i b.values (end_of m i b.values (b.places i)) v → Writer m b n v
  nobody : ((i : ℕ) → i < n → writes m i v ≡ false) → taken_alone m b n v ≡ b.values v → Writer m b n v

writer? : (m : Module Expr) (b : Book) (n v : ℕ) → Writer m b n v
unfolding taken_alone
writer? m b zero v = nobody (λ i l. absurd (omega arith)) refl
writer? m b (suc n) v = by (writes m n v) refl (writer? m b n v)
  where
    none_more : ((i : ℕ) → i < n → writes m i v ≡ false) → writes m n v ≡ false → (i : ℕ) → Below n i → writes m i v ≡ false
    none_more h e i (at-end q) = rw q e
    none_more h e i (before l) = h i l

    by : (t : Bool) → writes m n v ≡ t → Writer m b n v → Writer m b (suc n) v
    by true e o = writer n (omega arith) e (rw e)
    by false e (writer i l h q) = writer i (omega arith) h (rw e q)
    by false e (nobody h q) = nobody (λ i l. none_more h e i (below_suc n i l)) (rw e q)

module _ (m : Module Expr) (i v : ℕ) where
  pub writes-sets : writes m i v ≡ false → plain_writes m i v ≡ false
  unfolding writes
  writes-sets h = or_left (plain_writes m i v) (defers m i v) h

  pub writes-defers : writes m i v ≡ false → defers m i v ≡ false
  unfolding writes
  writes-defers h = or_right (plain_writes m i v) (defers m i v) h

-- What no thread of the sheet writes, no thread does.
unwritten :
    (m : Module Expr) (v : ℕ) → ((i : ℕ) → i < length m.threads → writes m i v ≡ false) → (i : ℕ) → writes m i v ≡ false
unwritten m v h i = by (dec_lt i (length m.threads))
  where
    by : Dec (i < length m.threads) → writes m i v ≡ false
    by (yes l) = h i l
    by (no d) = refuted (writes m i v) (λ e. d (writes-thread m i v e))

-- Inputs are written by no thread.
pub input-unwritten : (m : Module Expr) → Sound m → (i v : ℕ) → v < m.scope.inputs → writes m i v ≡ false
input-unwritten m w i v l =
    refuted (writes m i v) (λ e. let s = writes-register m w i v e in omega (arith, s.2))

-- ---- a running state

module _ (m : Module Expr) (w : Sound m) (u : Ruled m) (b : Book) (st : State) (n : ℕ) (B : Running m b st n) where
  abbrev f : ℕ → Value
  f = B.risen.values

  abbrev p : ℕ → ℕ
  p = B.risen.places

  -- Thread i run alone for as many steps as it has made.
  abbrev reached : ℕ → Local
  reached i = alone m i (B.steps i) (begin m i f (p i))

  thread-steps : (i : ℕ) → i < length m.threads → B.steps i ≤ length (code_of m i)
  unfolding begin
  thread-steps i l =
      let a = B.waited i l in
      let h = way-bound m w u i l (begin-inside m w u i (p i) f l (wait-inside (code_of m i) (p i) a) a) (B.view i l).way in
      omega arith

  pub running-steps : n ≤ all_instructions m
  unfolding all_instructions
  running-steps = rw (sym B.total) (steps-most m B.steps (length m.threads) thread-steps)

  -- ---- a variable, a register that no thread writes

  untouched : (v : ℕ) → ((j : ℕ) → plain_writes m j v ≡ false) → value_of st v ≡ f v
  unfolding begin
  untouched v h =
      (B.view 0 w.threads-some).values v (λ j d. h j) ∙ alone-keeps m 0 (B.steps 0) (begin m 0 f (p 0)) v (h 0)

  undeferred : (r : ℕ) → r < m.scope.registers → ((j : ℕ) → defers m j (m.scope.inputs + r) ≡ false) → pending_of st r ≡ none
  unfolding begin
  undeferred r l h =
      (B.view 0 w.threads-some).pending r l (λ j d. h j)
      ∙ alone-keeps-pending m w 0 (B.steps 0) (begin m 0 f (p 0)) r (h 0)

  module _ (still : Still m st) where
    -- A thread at a wait has come to its end.
    end-reached : (i : ℕ) → i < length m.threads → end_of m i f (p i) ≡ reached i
    unfolding current
    end-reached i l =
        end_is m i (p i) (B.steps i) f (thread-steps i l)
        (subst (λ q. is_wait (instr_at (code_of m i) q) ≡ true) (B.view i l).place (still i l))

    pub running-places : (i : ℕ) → i < length m.threads → place_of st i ≡ b.places i
    unfolding rise_alone place_alone
    running-places i l =
        let e : place_of st i ≡ (end_of m i f (p i)).place = (B.view i l).place ∙ ap (λ L. L.place) (sym (end-reached i l)) in
        let q : (rise_alone m B.risen).places i ≡ (end_of m i f (p i)).place = rw (lt-ltb i (length m.threads) l) in
        e ∙ sym q ∙ B.places i l

    -- A register with a writer holds, once its pending value is stored, what the writer alone leaves.
    written :
        (r i : ℕ) → r < m.scope.registers → i < length m.threads → writes m i (m.scope.inputs + r) ≡ true →
        latest (pending_of st r) (value_of st (m.scope.inputs + r))
        ≡ value_after m i f (end_of m i f (p i)) (m.scope.inputs + r)
    unfolding begin value_after latest
    written r i lr l h = rw (end-reached i l, z) (by (plain_writes m i v) refl)
      where
        v : ℕ
        v = m.scope.inputs + r

        z : v - m.scope.inputs ≡ r
        z = omega arith

        others : (j : ℕ) → j ≢ i → writes m j v ≡ false
        others j d = u.one_writer i j v (λ e. d (sym e)) h

        value : value_of st v ≡ (reached i).values v
        value = (B.view i l).values v (λ j d. writes-sets m j v (others j d))

        slot : pending_of st r ≡ (reached i).pending r
        slot = (B.view i l).pending r lr (λ j d. writes-defers m j v (others j d))

        not-deferred : plain_writes m i v ≡ true → (t : Bool) → defers m i v ≡ t → t ≡ false
        not-deferred s true e = absurd-bool s (u.one_way i i v e)
        not-deferred s false e = refl

        by : (t : Bool) → plain_writes m i v ≡ t →
            latest (pending_of st r) (value_of st v) ≡ pick t ((reached i).values v) (latest ((reached i).pending r) (f v))
        by true e =
            let k = alone-keeps-pending m w i (B.steps i) (begin m i f (p i)) r (not-deferred e (defers m i v) refl) in
            rw (slot, k) value
        by false e =
            let k = alone-keeps m i (B.steps i) (begin m i f (p i)) v e in
            rw (slot, value, k)

    -- A register, once its pending value is stored.
    register-next :
        (r : ℕ) → r < m.scope.registers →
        latest (pending_of st r) (value_of st (m.scope.inputs + r)) ≡ (rise_alone m B.risen).values (m.scope.inputs + r)
    unfolding rise_alone latest
    register-next r lr = by (writer? m B.risen (length m.threads) v)
      where
        v : ℕ
        v = m.scope.inputs + r

        by : Writer m B.risen (length m.threads) v →
            latest (pending_of st r) (value_of st v) ≡ taken_alone m B.risen (length m.threads) v
        by (writer i l h e) = written r i lr l h ∙ sym e
        by (nobody h e) =
            rw (
              undeferred r lr (λ j. writes-defers m j v (unwritten m v h j)),
              untouched v (λ j. writes-sets m j v (unwritten m v h j)),
            )
            (sym e)

    -- An input.
    input-next : (v : ℕ) → v < m.scope.inputs → value_of st v ≡ (rise_alone m B.risen).values v
    unfolding rise_alone
    input-next v l = by (writer? m B.risen (length m.threads) v)
      where
        by : Writer m B.risen (length m.threads) v → value_of st v ≡ taken_alone m B.risen (length m.threads) v
        by (writer i _ h e) = absurd-bool h (input-unwritten m w i v l)
        by (nobody h e) = untouched v (λ j. writes-sets m j v (input-unwritten m w j v l)) ∙ sym e

    -- A state with the pending values stored.
    pub running-values :
        (new : State) → ((v : ℕ) → v < m.scope.inputs → value_of new v ≡ value_of st v) →
        ((r : ℕ) → r < m.scope.registers →
        value_of new (m.scope.inputs + r) ≡ latest (pending_of st r) (value_of st (m.scope.inputs + r))) →
        (v : ℕ) → v < variables m → settle m (value_of new) v ≡ b.values v
    running-values new inputs registers v l =
        settle-agree m w u (value_of new) (rise_alone m B.risen).values (λ x d. by x d (dec_lt x m.scope.inputs)) v l
        ∙ B.values v l
      where
        by : (x : ℕ) → x < m.scope.inputs + m.scope.registers → Dec (x < m.scope.inputs) →
            value_of new x ≡ (rise_alone m B.risen).values x
        by x d (yes k) = inputs x k ∙ input-next x k
        by x d (no k) =
            let e : m.scope.inputs + (x - m.scope.inputs) ≡ x = omega arith in
            let h = x - m.scope.inputs in
            let k : h < m.scope.registers = omega arith in
            rw e at (registers h k ∙ register-next h k)
