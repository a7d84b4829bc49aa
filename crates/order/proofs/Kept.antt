-- The book of a module that extraction accepts stays within widths, and its places are waits (`kept-book`): so the cycle run is never
-- refused with 31 for what the book holds.
use mathlib.Core.Path.{◌≡◌, refl, sym, subst}
use mathlib.Core.Bool.{Bool, true, false}
use mathlib.Core.List.{List, [], ◌∷◌}
use Prim.Native.Nat.{ℕ, zero, suc, ◌+◌, ◌-◌, ◌<◌}
use native.Mathlib.Omega.{arith}
use native.Mathlib.Decide.{dec_lt}
use lib.ListN.{length, get_or}
use lib.Dec.{ltb}
use borrow.Author.Tests.{lt-ltb, le-ltb}
use Rattle.values.specs.declared.Value.{Value}
use Rattle.values.specs.Values.{pick, known, fits, same}
use Rattle.sheet.specs.Reading.{ok}
use Rattle.sheet.specs.Expression.{Expr}
use Rattle.sheet.specs.Module.{Module}
use Rattle.soundness.specs.Soundness.{Fitting, Sound}
use Rattle.events.specs.declared.Inputs.{Inputs}
use Rattle.events.specs.Cycle.{variables, code_of}
use Rattle.events.specs.Calls.{unset, width_of, pending_fits, input_of, inputs_fit}
use Rattle.events.specs.Steps.{latest}
use Rattle.events.proofs.Fits.{unset-fits, fits-inputs, latest-fits}
use Rattle.nextstate.specs.Rules.{plain_writes, writes}
use Rattle.nextstate.specs.Extraction.{Tables, extracted}
use Rattle.nextstate.specs.Book.{Book, settled, fed, rise, opening, turned, turned_all, book}
use Rattle.nextstate.specs.Ruled.{Ruled}
use Rattle.threads.specs.Alone.{Local, end_of, value_after, taken_alone, place_alone, rise_alone}
use Rattle.nextstate.proofs.Ruled.{writes-register}
use Rattle.threads.proofs.Alone.{end-waits, end-inside, LocalFits, end_fits}
use Rattle.settling.proofs.Settle.{settle-fits}
use Rattle.phases.proofs.Firing.{wait-inside}
use Rattle.walking.proofs.Rising.{AllWait, rise-alone}
use Rattle.order.specs.Claim.{AllFit}

pub record Kept (m : Module Expr) (b : Book) : Type 0 where
  pub fits : Fitting m.scope b.values
  pub waits : AllWait m b

module _ (m : Module Expr) (w : Sound m) (u : Ruled m) where
  -- Below the wires everything fits: then settled it does.
  settled-kept : (b : Book) → ((v : ℕ) → v < m.scope.inputs + m.scope.registers → fits (width_of m v) (b.values v) ≡ true) → AllWait m b → Kept m (settled m b)
  unfolding settled
  settled-kept b h waits = record { fits = settle-fits m w u b.values h; waits = waits }

  pub kept-opening : (T : Tables) → Kept m (opening m T)
  unfolding opening
  kept-opening T =
      settled-kept (record { values = unset m.scope.widths; places = λ i. 0 }) (λ v l. unset-fits m v (omega (arith, w.variables)))
      (λ i l. (wait-inside (code_of m i) 0 (u.first i l), u.first i l))

  -- Inputs taken.
  pub kept-fed : (a : ℕ → Value) (b : Book) → ((v : ℕ) → v < m.scope.inputs → fits (width_of m v) (a v) ≡ true) → Kept m b → Kept m (fed m a b)
  unfolding fed width_of
  kept-fed a b h k = record { fits = λ v l. by v l (dec_lt v m.scope.inputs); waits = k.waits }
    where
      by : (v : ℕ) → v < length m.scope.widths → Dec (v < m.scope.inputs) →
          fits (get_or m.scope.widths v 0) (pick (ltb v m.scope.inputs) (a v) (b.values v)) ≡ true
      by v l (yes d) = rw (lt-ltb v m.scope.inputs d) (h v d)
      by v l (no d) = rw (le-ltb v m.scope.inputs (omega arith)) (k.fits v l)

  below-fits : (b : Book) → Kept m b → (v : ℕ) → v < m.scope.inputs + m.scope.registers → fits (width_of m v) (b.values v) ≡ true
  unfolding width_of
  below-fits b k v l = k.fits v (omega (arith, w.variables))

  -- ---- the rise, by the threads alone

  after-fits : (i : ℕ) (f : ℕ → Value) (L : Local) (v : ℕ) → Fitting m.scope f → LocalFits m L → writes m i v ≡ true →
      fits (width_of m v) (value_after m i f L v) ≡ true
  unfolding value_after width_of
  after-fits i f L v h k o = by (plain_writes m i v) (writes-register m w i v o)
    where
      by : (t : Bool) → (r : ℕ) × (r < m.scope.registers) × (m.scope.inputs + r ≡ v) →
          fits (get_or m.scope.widths v 0) (pick t (L.values v) (latest (L.pending (v - m.scope.inputs)) (f v))) ≡ true
      by true q = k.values v (omega (arith, q.1, q.2, w.variables))
      by false q =
          let e : v - m.scope.inputs ≡ q.0 = omega (arith, q.2) in
          let p : pending_fits (get_or m.scope.widths v 0) (L.pending (v - m.scope.inputs)) ≡ true
          = rw (e, sym q.2) (k.pending q.0 q.1) in
          latest-fits (get_or m.scope.widths v 0) (L.pending (v - m.scope.inputs)) (f v) p (h v (omega (arith, q.1, q.2, w.variables)))

  taken-fits : (b : Book) → Kept m b → (n v : ℕ) → v < length m.scope.widths → fits (width_of m v) (taken_alone m b n v) ≡ true
  unfolding taken_alone width_of
  taken-fits b k zero v l = k.fits v l
  taken-fits b k (suc i) v l = by (writes m i v) refl (taken-fits b k i v l)
    where
      by : (t : Bool) → writes m i v ≡ t → fits (get_or m.scope.widths v 0) (taken_alone m b i v) ≡ true →
          fits (get_or m.scope.widths v 0) (pick t (value_after m i b.values (end_of m i b.values (b.places i)) v) (taken_alone m b i v)) ≡ true
      by true e ih = after-fits i b.values (end_of m i b.values (b.places i)) v k.fits (end_fits m w i b.values (b.places i) k.fits) e
      by false e ih = ih

  kept-alone : (b : Book) → Kept m b → Kept m (rise_alone m b)
  unfolding rise_alone place_alone width_of
  kept-alone b k =
      record {
        fits = λ v l. taken-fits b k (length m.threads) v l;
        waits = λ i l.
            let q = k.waits i l in
            rw (lt-ltb i (length m.threads) l)
            (end-inside m w u i (b.places i) b.values l q.0 q.1, end-waits m w u i (b.places i) b.values l q.0 q.1);
      }

  -- ---- along the instants

  module _ (T : Tables) (x : extracted m ≡ ok T) where
    pub rise-is : (b : Book) → AllWait m b → rise m T b ≡ rise_alone m b
    unfolding rise rise_alone
    rise-is b waits = let r = rise-alone m w u T x b waits in λ i. record { values = λ v. r.0 v i; places = λ j. r.1 j i }

    pub kept-rise : (b : Book) → Kept m b → Kept m (rise m T b)
    kept-rise b k = subst (Kept m) (sym (rise-is b k.waits)) (kept-alone b k)

    pub kept-turned : (a : Inputs) (b : Book) → inputs_fit m a ≡ true → Kept m b → Kept m (turned m T (input_of a) b)
    unfolding turned
    kept-turned a b h k = by (same (input_of a 0) (known 1))
      where
        f : Kept m (fed m (input_of a) b)
        f = kept-fed (input_of a) b (λ v l. fits-inputs m a h v l) k

        by : (t : Bool) → Kept m (settled m (pick t (rise m T (fed m (input_of a) b)) (fed m (input_of a) b)))
        by true = let r = kept-rise (fed m (input_of a) b) f in settled-kept (rise m T (fed m (input_of a) b)) (below-fits _ r) r.waits
        by false = settled-kept (fed m (input_of a) b) (below-fits _ f) f.waits

    kept-all : (l : List Inputs) (b : Book) → AllFit m l → Kept m b → Kept m (turned_all m T l b)
    unfolding turned_all AllFit
    kept-all [] b h k = k
    kept-all (a ∷ l) b h k = kept-all l (turned m T (input_of a) b) h.1 (kept-turned a b h.0 k)

    pub kept-book : (l : List Inputs) → AllFit m l → Kept m (book m T l)
    unfolding book
    kept-book l h = kept-all l (opening m T) h (kept-opening T)
