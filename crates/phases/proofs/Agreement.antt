-- Books that agree on the sheet's variables and threads stay so, whatever they hold past them: under the rise of the clock
-- (rise-agree) and from instant to instant (turned-agree), since a thread run alone sees no more of the values. turned-alone ties
-- `turned_alone` to the book's own `turned`. Assumes nothing.
use mathlib.Core.Path.{◌≡◌, refl, sym, ap, subst}
use mathlib.Core.Bool.{Bool, true, false}
use Prim.Native.Nat.{ℕ, zero, suc, ◌+◌, ◌-◌, ◌≤◌, ◌<◌}
use native.Mathlib.Omega.{arith}
use lib.ListN.{length}
use borrow.Author.Tests.{lt-ltb}
use Rattle.values.specs.declared.Value.{Value}
use Rattle.values.specs.Values.{pick, known, same}
use Rattle.sheet.specs.Expression.{Expr, Scope}
use Rattle.sheet.specs.Module.{Module}
use Rattle.pseudocode.specs.Translation.{Instr}
use Rattle.soundness.specs.Soundness.{Sound, SoundInstr, sound-wait, sound-set, sound-later, sound-go, sound-ifnot}
use Rattle.events.specs.Cycle.{variables, code_of, instr_at}
use Rattle.events.proofs.Cycle.{absurd-bool}
use Rattle.nextstate.specs.Rules.{reads_at}
use Rattle.nextstate.specs.Extraction.{Tables}
use Rattle.nextstate.specs.Book.{Book, settled, fed, rise, turned}
use Rattle.nextstate.specs.Ruled.{Ruled}
use Rattle.threads.specs.Alone.{Local, exec, turn, alone, begin, end_of, value_after, taken_alone, place_alone, rise_alone}
use Rattle.nextstate.proofs.Ruled.{any-instr, instr-any, sound-instr}
use Rattle.threads.proofs.View.{Agree as AgreeOn, exec_agree}
use Rattle.settling.proofs.Settle.{settle-agree}
use Rattle.phases.specs.Phases.{turned_alone}

-- ---- a thread run alone on values that agree

-- An instruction reads variables of the sheet only.
reads-sound :
    {c : Scope} {n p : ℕ} {q : Instr Expr} → SoundInstr c n p q → (v : ℕ) → reads_at v q ≡ true → v < length c.widths
unfolding reads_at
reads-sound (sound-wait l t) v h = absurd-bool h refl
reads-sound (sound-set l t) v h = t.expression.reads-within v h
reads-sound (sound-later l t) v h = t.expression.reads-within v h
reads-sound (sound-go l) v h = absurd-bool h refl
reads-sound (sound-ifnot w l g s) v h = s.reads-within v h

-- Two locals at one place that agree on the sheet's variables and on all pending values.
abbrev Alike : Module Expr → Local → Local → Type 0
Alike m L M = AgreeOn (λ v. v < variables m) (λ r. Unit {0}) L M

module _ (m : Module Expr) (w : Sound m) (i : ℕ) (l : i < length m.threads) where
  reads-inside : (p v : ℕ) → reads_at v (instr_at (code_of m i) p) ≡ true → v < variables m
  unfolding variables reads_at
  reads-inside p v h =
      let s = any-instr (reads_at v) (code_of m i) (instr-any (reads_at v) refl (code_of m i) p h) in
      reads-sound (sound-instr m w i s.0 l s.1) v s.2

  alike-turn : (L M : Local) → Alike m L M → Alike m (turn m i L) (turn m i M)
  unfolding turn
  alike-turn L M h =
      let q = instr_at (code_of m i) M.place in
      subst (λ p. Alike m (exec m (instr_at (code_of m i) p) L) (exec m q M)) (sym h.place)
      (exec_agree m (λ v. v < variables m) (λ r. Unit {0}) q L M (reads-inside M.place) h)

  alike-alone : (n : ℕ) (L M : Local) → Alike m L M → Alike m (alone m i n L) (alone m i n M)
  unfolding alone
  alike-alone zero L M h = h
  alike-alone (suc n) L M h = alike-turn (alone m i n L) (alone m i n M) (alike-alone n L M h)

  alike_end :
      (f g : ℕ → Value) (p q : ℕ) → ((v : ℕ) → v < variables m → f v ≡ g v) → p ≡ q →
      Alike m (end_of m i f p) (end_of m i g q)
  unfolding end_of begin
  alike_end f g p q h e =
      alike-alone (length (code_of m i)) (begin m i f p) (begin m i g q)
      (record { place = ap (λ n. n + 1) e; values = h; pending = λ r x. refl })

  after-agree :
      (f g : ℕ → Value) (L M : Local) → ((v : ℕ) → v < variables m → f v ≡ g v) → Alike m L M → (v : ℕ) → v < variables m →
      value_after m i f L v ≡ value_after m i g M v
  unfolding value_after
  after-agree f g L M h s v b = rw (s.values v b, s.pending (v - m.scope.inputs) tt, h v b)

-- ---- books that agree

pub record Agree (m : Module Expr) (b c : Book) : Type 0 where
  pub values : (v : ℕ) → v < variables m → b.values v ≡ c.values v
  pub places : (i : ℕ) → i < length m.threads → b.places i ≡ c.places i

module _ (m : Module Expr) (w : Sound m) where
  taken-agree :
      (b c : Book) → Agree m b c → (n : ℕ) → n ≤ length m.threads → (v : ℕ) → v < variables m →
      taken_alone m b n v ≡ taken_alone m c n v
  unfolding taken_alone
  taken-agree b c h zero l v d = h.values v d
  taken-agree b c h (suc n) l v d =
      let k : n < length m.threads = omega arith in
      let s = alike_end m w n k b.values c.values (b.places n) (c.places n) h.values (h.places n k) in
      rw (
        after-agree m w n k b.values c.values (end_of m n b.values (b.places n)) (end_of m n c.values (c.places n))
            h.values s v d,
        taken-agree b c h n (omega arith) v d,
      )

  pub rise-agree : (b c : Book) → Agree m b c → Agree m (rise_alone m b) (rise_alone m c)
  unfolding rise_alone place_alone
  rise-agree b c h =
      record {
        values = taken-agree b c h (length m.threads) (omega arith);
        places = λ i l. rw (lt-ltb i (length m.threads) l)
            (alike_end m w i l b.values c.values (b.places i) (c.places i) h.values (h.places i l)).place;
      }

  pub fed-agree : (a : ℕ → Value) (b c : Book) → Agree m b c → Agree m (fed m a b) (fed m a c)
  unfolding fed
  fed-agree a b c h = record { values = λ v l. rw (h.values v l); places = h.places }

  module _ (u : Ruled m) where
    pub settled-agree : (b c : Book) → Agree m b c → Agree m (settled m b) (settled m c)
    unfolding settled variables
    settled-agree b c h =
        record {
          values = settle-agree m w u b.values c.values (λ v l. h.values v (omega (arith, w.variables)));
          places = h.places;
        }

    pub turned-agree : (a : ℕ → Value) (b c : Book) → Agree m b c → Agree m (turned_alone m a b) (turned_alone m a c)
    unfolding turned_alone
    turned-agree a b c h = by (same (a 0) (known 1))
      where
        by : (t : Bool) →
            Agree m (settled m (pick t (rise_alone m (fed m a b)) (fed m a b)))
            (settled m (pick t (rise_alone m (fed m a c)) (fed m a c)))
        by true =
            settled-agree (rise_alone m (fed m a b)) (rise_alone m (fed m a c))
            (rise-agree (fed m a b) (fed m a c) (fed-agree a b c h))
        by false = settled-agree (fed m a b) (fed m a c) (fed-agree a b c h)

    -- The book itself, once its rise of the clock is the threads' own.
    pub turned-alone :
        (T : Tables) (a : ℕ → Value) (b : Book) → Agree m (rise_alone m (fed m a b)) (rise m T (fed m a b)) →
        Agree m (turned_alone m a b) (turned m T a b)
    unfolding turned_alone turned
    turned-alone T a b h = by (same (a 0) (known 1))
      where
        by : (t : Bool) →
            Agree m (settled m (pick t (rise_alone m (fed m a b)) (fed m a b)))
            (settled m (pick t (rise m T (fed m a b)) (fed m a b)))
        by true = settled-agree (rise_alone m (fed m a b)) (rise m T (fed m a b)) h
        by false = record { values = λ v l. refl; places = λ i l. refl }
