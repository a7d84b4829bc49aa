-- The cycle run on extraction's tables is the book's next cycle (`clocked-agree`): handed the book's registers and places and a cycle's
-- inputs from 1 up, it comes to the values and places that the book has after the low and the high instant.
use mathlib.Core.Path.{◌≡◌, refl, sym, ap, subst, ◌∙◌}
use mathlib.Core.Logic.{◌≢◌}
use mathlib.Core.Bool.{Bool, true, false}
use Prim.Native.Nat.{ℕ, zero, suc, ◌+◌, ◌-◌, ◌≤◌, ◌<◌}
use native.Mathlib.Omega.{arith}
use native.Mathlib.Decide.{dec_lt, ℕ_discrete}
use lib.ListN.{length}
use lib.Dec.{ltb}
use borrow.Author.Tests.{lt-ltb, le-ltb, ne_eqb, le-leb}
use Rattle.values.specs.Values.{pick, known, nowhere, same}
use Rattle.values.specs.Planes.{value_at, number_of}
use Rattle.sheet.specs.Reading.{ok}
use Rattle.sheet.specs.Expression.{Expr}
use Rattle.sheet.specs.Statement.{is_register}
use Rattle.sheet.specs.Module.{Module}
use Rattle.soundness.specs.Soundness.{Sound}
use Rattle.events.specs.declared.Inputs.{Inputs}
use Rattle.events.specs.Cycle.{variables}
use Rattle.events.specs.Calls.{input_of, inputs_fit}
use Rattle.nextstate.specs.declared.Registers.{Registers}
use Rattle.nextstate.specs.Rules.{writes}
use Rattle.nextstate.specs.Extraction.{Tables, extracted}
use Rattle.nextstate.specs.Book.{Book, settle, settled, fed, entry, worth, taken, next_place, rise, turned}
use Rattle.nextstate.specs.CycleRun.{handed, clocked}
use Rattle.nextstate.specs.Ruled.{Ruled}
use Rattle.threads.specs.Alone.{rise_alone}
use Rattle.nextstate.proofs.Ruled.{writes-register}
use Rattle.settling.proofs.Settle.{settle-below, clock-apart}
use Rattle.phases.proofs.Agreement.{Agree, rise-agree, settled-agree}
use Rattle.walking.proofs.Rising.{AllWait, row_has}
use Rattle.validity.proofs.Valid.{lent, lent-entry, lent-worth}
use Rattle.order.specs.Calls.{SameButClock}
use Rattle.order.specs.Claim.{Handed}
use Rattle.order.proofs.List.{count-inputs}
use Rattle.order.proofs.Kept.{Kept, rise-is}

module _ (m : Module Expr) (w : Sound m) (u : Ruled m) (T : Tables) (x : extracted m ≡ ok T) where
  -- ---- the rise on the lent words is the rise on the tables

  lent-taken : (b : Book) → AllWait m b → (n v : ℕ) → n ≤ length m.threads → taken m (lent m w u T x) b n v ≡ taken m T b n v
  unfolding taken
  lent-taken b waits zero v l = refl
  lent-taken b waits (suc i) v l = by (writes m i v) refl (lent-taken b waits i v (omega arith))
    where
      by : (t : Bool) → writes m i v ≡ t → taken m (lent m w u T x) b i v ≡ taken m T b i v →
          pick t (worth m (lent m w u T x) b.values (entry m (lent m w u T x) i (b.places i) (v - m.scope.inputs))) (taken m (lent m w u T x) b i v)
          ≡ pick t (worth m T b.values (entry m T i (b.places i) (v - m.scope.inputs))) (taken m T b i v)
      by true o ih =
          let q = waits i (omega arith) in
          let r = writes-register m w i v o in
          let z : v - m.scope.inputs ≡ r.0 = omega (arith, r.2) in
          let k = (row_has m w u T x i (b.places i) (omega arith) q.0 q.1 b.values).1 r.0 r.1 (rw r.2 o) in
          rw (lent-entry m w u T x i (b.places i) (v - m.scope.inputs), z) (lent-worth m w u T x b.values (entry m T i (b.places i) r.0) k.within)
      by false o ih = ih

  lent-place : (b : Book) → AllWait m b → (i : ℕ) → next_place m (lent m w u T x) b i ≡ next_place m T b i
  unfolding next_place
  lent-place b waits i = by (dec_lt i (length m.threads))
    where
      by : Dec (i < length m.threads) →
          pick (ltb i (length m.threads)) (number_of (worth m (lent m w u T x) b.values (entry m (lent m w u T x) i (b.places i) 32))) (b.places i)
          ≡ pick (ltb i (length m.threads)) (number_of (worth m T b.values (entry m T i (b.places i) 32))) (b.places i)
      by (yes l) =
          let q = waits i l in
          let k = (row_has m w u T x i (b.places i) l q.0 q.1 b.values).0 in
          rw (lt-ltb i (length m.threads) l, lent-entry m w u T x i (b.places i) 32, lent-worth m w u T x b.values (entry m T i (b.places i) 32) k.within) refl
      by (no l) = rw (le-ltb i (length m.threads) (omega arith)) refl

  lent-rise : (b : Book) → AllWait m b → rise m (lent m w u T x) b ≡ rise m T b
  unfolding rise
  lent-rise b waits =
      λ i. record { values = λ v. lent-taken b waits (length m.threads) v (omega arith) i; places = λ j. lent-place b waits j i }

  -- ---- before the rise

  module _ (b : Book) (k : Kept m b) (low high : Inputs) (fl : inputs_fit m low ≡ true) (fh : inputs_fit m high ≡ true)
      (zero-low : input_of low 0 ≡ known 0) (one-high : input_of high 0 ≡ known 1) (alike : SameButClock high low)
      (g : Registers) (a : Inputs) (hand : Handed m b low g a) where
    -- The book with the clock low, settled; then the high instant's inputs.
    lowered : Book
    lowered = turned m T (input_of low) b

    lowered_is : lowered ≡ settled m (fed m (input_of low) b)
    unfolding lowered turned same known
    lowered_is = rw zero-low refl

    -- What the cycle run is handed, but the clock, is what the book settles on.
    handed-is : (v : ℕ) → v ≢ 0 → v < m.scope.inputs + m.scope.registers → (handed m g a).values v ≡ (fed m (input_of low) b).values v
    unfolding handed fed is_register
    handed-is v ne l = rw (ne_eqb v 0 ne) (by (dec_lt v m.scope.inputs))
      where
        by : Dec (v < m.scope.inputs) →
            pick (ltb v m.scope.inputs) (input_of a (v - 1))
            (pick (is_register m.scope v) (value_at g.value g.unknown (v - m.scope.inputs)) nowhere)
            ≡ pick (ltb v m.scope.inputs) (input_of low v) (b.values v)
        by (yes d) =
            let e : v - 1 + 1 ≡ v = omega arith in
            rw (lt-ltb v m.scope.inputs d) (hand.upper (v - 1) (omega arith) ∙ ap (input_of low) e)
        by (no d) =
            let e : m.scope.inputs + (v - m.scope.inputs) ≡ v = omega arith in
            rw (le-ltb v m.scope.inputs (omega arith), le-leb m.scope.inputs v (omega arith), lt-ltb v (m.scope.inputs + m.scope.registers) l)
            (hand.registers (v - m.scope.inputs) (omega arith) ∙ ap b.values e)

    -- The high instant's inputs are the low one's but the clock.
    high_is : (v : ℕ) → v ≢ 0 → v < m.scope.inputs → input_of high v ≡ input_of low v
    high_is v ne l =
        let e : v - 1 + 1 ≡ v = omega arith in
        let c = count-inputs m high fh in
        subst (λ (n : ℕ). input_of high n ≡ input_of low n) e (alike (v - 1) (omega arith))

    clock-one : (handed m g a).values 0 ≡ known 1
    unfolding handed
    clock-one = refl

    taken-low : (v : ℕ) → v < m.scope.inputs → (fed m (input_of low) b).values v ≡ input_of low v
    unfolding fed
    taken-low v l = rw (lt-ltb v m.scope.inputs l) refl

    before-values : (v : ℕ) → v < variables m → (settled m (handed m g a)).values v ≡ (fed m (input_of high) lowered).values v
    unfolding settled fed
    before-values v l = rw lowered_is (by (ℕ_discrete v 0) (dec_lt v m.scope.inputs))
      where
        apart : v ≢ 0 → settle m (handed m g a).values v ≡ settle m (fed m (input_of low) b).values v
        apart ne = clock-apart m w u (handed m g a).values (fed m (input_of low) b).values handed-is v ne l

        by : Dec (v ≡ 0) → Dec (v < m.scope.inputs) →
            settle m (handed m g a).values v
            ≡ pick (ltb v m.scope.inputs) (input_of high v) (settle m (λ v. pick (ltb v m.scope.inputs) (input_of low v) (b.values v)) v)
        by (yes z) d =
            rw (z, lt-ltb 0 m.scope.inputs w.inputs-some)
            (settle-below m (handed m g a).values 0 (omega (arith, w.inputs-some)) ∙ clock-one ∙ sym one-high)
        by (no ne) (yes d) =
            rw (lt-ltb v m.scope.inputs d)
            (settle-below m (handed m g a).values v (omega arith) ∙ handed-is v ne (omega arith) ∙ taken-low v d ∙ sym (high_is v ne d))
        by (no ne) (no d) = rw (le-ltb v m.scope.inputs (omega arith)) (apart ne)

    before-places : (i : ℕ) → i < length m.threads → (settled m (handed m g a)).places i ≡ (fed m (input_of high) lowered).places i
    unfolding settled fed handed
    before-places i l = rw lowered_is (hand.places i l)

    before : Agree m (settled m (handed m g a)) (fed m (input_of high) lowered)
    before = record { values = before-values; places = before-places }

    -- ---- after it

    handed-waits : AllWait m (settled m (handed m g a))
    unfolding settled handed
    handed-waits i l = rw (hand.places i l) (k.waits i l)

    risen-waits : AllWait m (fed m (input_of high) lowered)
    unfolding fed settled
    risen-waits i l = rw lowered_is (k.waits i l)

    -- The book's next, by its two instants.
    abbrev next-book : Book
    next-book = turned m T (input_of high) (turned m T (input_of low) b)

    next-is : next-book ≡ settled m (rise m T (fed m (input_of high) lowered))
    unfolding lowered turned same known
    next-is = rw one-high refl

    pub clocked-agree : Agree m (clocked m (lent m w u T x) g a) next-book
    unfolding clocked
    clocked-agree =
        rw (
          next-is,
          lent-rise (settled m (handed m g a)) handed-waits,
          rise-is m w u T x (settled m (handed m g a)) handed-waits,
          rise-is m w u T x (fed m (input_of high) lowered) risen-waits,
        )
        (settled-agree m w u (rise_alone m (settled m (handed m g a))) (rise_alone m (fed m (input_of high) lowered))
        (rise-agree m w (settled m (handed m g a)) (fed m (input_of high) lowered) before))
