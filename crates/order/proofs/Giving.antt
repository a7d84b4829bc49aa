-- What the cycle run gives back (`given-registers`, `given-places`, `given-wires`): the values and places that it came to, whatever
-- they are, for the sheet's registers, threads and wires.
use mathlib.Core.Path.{◌≡◌, refl, sym, ap, ◌∙◌}
use mathlib.Core.Logic.{◌≢◌}
use mathlib.Core.Bool.{Bool, true, false}
use Prim.Native.Nat.{ℕ, zero, suc, ◌+◌, ◌-◌, ◌≤◌, ◌<◌}
use native.Mathlib.Omega.{arith}
use native.Mathlib.Decide.{dec_lt, ℕ_discrete}
use lib.ListN.{length, get_or, set, length-set}
use lib.Seq.{get_or-set_same, get_or-set_other}
use lib.Dec.{ltb}
use borrow.Author.Tests.{lt-ltb, le-ltb}
use Rattle.values.specs.declared.Value.{Value}
use Rattle.values.specs.Values.{pick}
use Rattle.values.specs.Planes.{value_at, number_of, marks_of}
use Rattle.values.proofs.Planes.{value_at-set-same, value_at-set-other}
use Rattle.sheet.specs.Expression.{Expr}
use Rattle.sheet.specs.Module.{Module}
use Rattle.state.proofs.Rows.{get_d-list_of}
use Rattle.soundness.specs.Soundness.{Sound}
use Rattle.events.specs.Cycle.{wire_variable}
use Rattle.nextstate.specs.declared.Registers.{Registers}
use Rattle.nextstate.specs.Rules.{writes, some_thread}
use Rattle.nextstate.specs.Book.{Book}
use Rattle.nextstate.specs.CycleRun.{with_register, with_wait, store_registers, store_places, stored, wire_value, given}

below-same : (r n : ℕ) → r ≢ n → ltb r n ≡ ltb r (suc n)
below-same r n ne = by (dec_lt r n)
  where
    by : Dec (r < n) → ltb r n ≡ ltb r (suc n)
    by (yes l) = lt-ltb r n l ∙ sym (lt-ltb r (suc n) (omega arith))
    by (no l) = le-ltb r n (omega arith) ∙ sym (le-ltb r (suc n) (omega arith))

module _ (m : Module Expr) (w : Sound m) (b : Book) (g : Registers) (lv : length g.value ≡ 32) (lu : length g.unknown ≡ 32)
    (lp : length g.places ≡ 8)
    (unwritten : (r : ℕ) → r < m.scope.registers → some_thread m (λ i. writes m i (m.scope.inputs + r)) ≡ false →
    b.values (m.scope.inputs + r) ≡ value_at g.value g.unknown r) where
  -- ---- registers

  -- The registers below n have the book's values, the others those that were handed.
  record StoredBelow (n : ℕ) (h : Registers) : Type 0 where
    value-length : length h.value ≡ 32
    unknown-length : length h.unknown ≡ 32
    values : (r : ℕ) → value_at h.value h.unknown r ≡ pick (ltb r n) (b.values (m.scope.inputs + r)) (value_at g.value g.unknown r)
    places : h.places ≡ g.places

  store-one : (n : ℕ) (h : Registers) (t : Bool) → some_thread m (λ i. writes m i (m.scope.inputs + n)) ≡ t → n < m.scope.registers →
      StoredBelow n h → StoredBelow (suc n) (pick t (with_register m h n (b.values (m.scope.inputs + n))) h)
  unfolding with_register
  store-one n h true e l s =
      record {
        value-length = length-set h.value n _ ∙ s.value-length;
        unknown-length = length-set h.unknown n _ ∙ s.unknown-length;
        values = λ r. by r (ℕ_discrete r n);
        places = s.places;
      }
    where
      a : Value
      a = b.values (m.scope.inputs + n)

      by : (r : ℕ) → Dec (r ≡ n) → value_at (set h.value n (number_of (b.values (m.scope.inputs + n)))) (set h.unknown n (marks_of (b.values (m.scope.inputs + n)))) r
          ≡ pick (ltb r (suc n)) (b.values (m.scope.inputs + r)) (value_at g.value g.unknown r)
      by r (yes q) =
          rw (q, lt-ltb n (suc n) (omega arith))
          (value_at-set-same h.value h.unknown n (b.values (m.scope.inputs + n)) (omega (arith, s.value-length, w.registers-most)) (omega (arith, s.unknown-length, w.registers-most)))
      by r (no q) =
          value_at-set-other h.value h.unknown r n _ _ q ∙ s.values r
          ∙ ap (λ (t : Bool). pick t (b.values (m.scope.inputs + r)) (value_at g.value g.unknown r)) (below-same r n q)
  store-one n h false e l s =
      record {
        value-length = s.value-length;
        unknown-length = s.unknown-length;
        values = λ r. by r (ℕ_discrete r n);
        places = s.places;
      }
    where
      by : (r : ℕ) → Dec (r ≡ n) → value_at h.value h.unknown r
          ≡ pick (ltb r (suc n)) (b.values (m.scope.inputs + r)) (value_at g.value g.unknown r)
      by r (yes q) =
          rw (q, lt-ltb n (suc n) (omega arith)) (s.values n ∙ rw (le-ltb n n (omega arith)) (sym (unwritten n l e)))
      by r (no q) =
          s.values r ∙ ap (λ (t : Bool). pick t (b.values (m.scope.inputs + r)) (value_at g.value g.unknown r)) (below-same r n q)

  stored-below : (n : ℕ) → n ≤ m.scope.registers → StoredBelow n (store_registers m b n g)
  unfolding store_registers
  stored-below zero l = record { value-length = lv; unknown-length = lu; values = λ r. rw (le-ltb r 0 (omega arith)) refl; places = refl }
  stored-below (suc n) l = store-one n (store_registers m b n g) (some_thread m (λ i. writes m i (m.scope.inputs + n))) refl (omega arith) (stored-below n (omega arith))

  -- ---- places

  record PlacedBelow (n : ℕ) (k h : Registers) : Type 0 where
    value : h.value ≡ k.value
    unknown : h.unknown ≡ k.unknown
    long : length h.places ≡ 8
    places : (i : ℕ) → i < n → get_or h.places i 0 ≡ b.places i

  placed_below : (k : Registers) → length k.places ≡ 8 → (n : ℕ) → n ≤ 8 → PlacedBelow n k (store_places m b n k)
  unfolding store_places with_wait
  placed_below k l zero h = record { value = refl; unknown = refl; long = l; places = λ i q. absurd (omega arith) }
  placed_below k l (suc n) h = let p = placed_below k l n (omega arith) in by p
    where
      by : PlacedBelow n k (store_places m b n k) → PlacedBelow (suc n) k (with_wait m (store_places m b n k) n (b.places n))
      by p = record {
        value = p.value;
        unknown = p.unknown;
        long = length-set (store_places m b n k).places n (b.places n) ∙ p.long;
        places = λ i q. each i q (ℕ_discrete i n);
      }
        where
          each : (i : ℕ) → i < suc n → Dec (i ≡ n) → get_or (set (store_places m b n k).places n (b.places n)) i 0 ≡ b.places i
          each i q (yes e) = rw e (get_or-set_same (store_places m b n k).places n (b.places n) 0 (omega (arith, p.long)))
          each i q (no e) = get_or-set_other (store_places m b n k).places n i (b.places n) 0 e ∙ p.places i (omega arith)

  -- ---- what is given

  done : StoredBelow m.scope.registers (store_registers m b m.scope.registers g)
  done = stored-below m.scope.registers (omega arith)

  placed : PlacedBelow (length m.threads) (store_registers m b m.scope.registers g) (stored m b g)
  unfolding stored
  placed = placed_below (store_registers m b m.scope.registers g) (ap length done.places ∙ lp) (length m.threads) w.threads-most

  pub given-registers : (r : ℕ) → r < m.scope.registers → value_at (given m b g).value (given m b g).unknown r ≡ b.values (m.scope.inputs + r)
  unfolding given
  given-registers r l = rw (placed.value, placed.unknown) (done.values r ∙ rw (lt-ltb r m.scope.registers l) refl)

  pub given-places : (i : ℕ) → i < length m.threads → get_or (given m b g).places i 0 ≡ b.places i
  unfolding given
  given-places i l = placed.places i l

  pub given-wires : (k : ℕ) → k < length m.wires → value_at (given m b g).wire (given m b g).unsure k ≡ b.values (wire_variable m k)
  unfolding given value_at wire_value number_of marks_of
  given-wires k l =
      let most = w.wires-most in
      rw (
        get_d-list_of (λ k. marks_of (wire_value m b k)) 32 k 0 (omega arith),
        get_d-list_of (λ k. number_of (wire_value m b k)) 32 k 0 (omega arith),
        lt-ltb k (length m.wires) l,
      )
