-- What a cycle gives, from the cells that it leaves, is what nextstate gives of the book. Assumes nothing.
use mathlib.Core.Path.{◌≡◌, refl, sym, ap, ◌∙◌}
use mathlib.Core.Bool.{Bool, true, false}
use mathlib.Core.List.{List}
use Prim.Native.Nat.{ℕ, zero, suc, ◌+◌, ◌≤◌, ◌<◌}
use native.Mathlib.Decide.{dec_lt}
use native.Mathlib.Omega.{arith}
use borrow.Author.Tests.{lt-ltb, le-ltb}
use lib.Dec.{ltb}
use lib.ListN.{length, get_or, set, replicate, length-replicate}
use lib.Seq.{ext_get_or}
use Rattle.values.specs.declared.Value.{Value}
use Rattle.values.specs.Values.{pick, ones, all_unknown, nowhere}
use Rattle.values.specs.Planes.{number_of, marks_of}
use Rattle.sheet.specs.Expression.{Expr}
use Rattle.sheet.specs.Module.{Module}
use Rattle.state.specs.Rows.{list_of}
use Rattle.state.proofs.Rows.{length-list_of, get_d-list_of}
use Rattle.events.specs.Cycle.{wire_variable}
use Rattle.values.specs.Cells.{cell_at}
use Rattle.nextstate.specs.declared.Registers.{Registers}
use Rattle.nextstate.specs.Rules.{writes, some_thread}
use Rattle.nextstate.specs.Book.{Book}
use Rattle.nextstate.specs.CycleRun.{with_register, store_registers, with_wait, store_places, stored, wire_value}
use Rattle.clock_run.specs.Running.{numbers_to, marks_to}
use Rattle.clock_claims.proofs.Lists.{set_to, pick_to, to-length, to_at, to-above, to-picked}

-- ---- the lists that the loops leave

module _ (cs : List ℕ) (first : ℕ) where
  pub numbers-are : (n : ℕ) (ns : List ℕ) → numbers_to cs first n ns ≡ set_to (λ r. number_of (cell_at cs (first + r))) n ns
  unfolding numbers_to set_to
  numbers-are zero ns = refl
  numbers-are (suc n) ns = rw (numbers-are n ns)

  pub marks-are : (n : ℕ) (us : List ℕ) → marks_to cs first n us ≡ set_to (λ r. marks_of (cell_at cs (first + r))) n us
  unfolding marks_to set_to
  marks-are zero us = refl
  marks-are (suc n) us = rw (marks-are n us)

-- ---- registers

module _ (m : Module Expr) (b : Book) (g : Registers) where
  abbrev I : ℕ
  I = m.scope.inputs

  abbrev some : ℕ → Bool
  some r = some_thread m (λ i. writes m i (I + r))

  stored-value : (n : ℕ) → (store_registers m b n g).value ≡ pick_to some (λ r. number_of (b.values (I + r))) n g.value
  unfolding store_registers with_register pick_to
  stored-value zero = refl
  stored-value (suc n) = by (some n) (stored-value n)
    where
      h : Registers
      h = store_registers m b n g

      ys : List ℕ
      ys = pick_to some (λ r. number_of (b.values (I + r))) n g.value

      by : (t : Bool) → h.value ≡ ys →
          (pick t (with_register m h n (b.values (I + n))) h).value ≡ pick t (set ys n (number_of (b.values (I + n)))) ys
      by true e = rw e
      by false e = e

  stored-unknown : (n : ℕ) → (store_registers m b n g).unknown ≡ pick_to some (λ r. marks_of (b.values (I + r))) n g.unknown
  unfolding store_registers with_register pick_to
  stored-unknown zero = refl
  stored-unknown (suc n) = by (some n) (stored-unknown n)
    where
      h : Registers
      h = store_registers m b n g

      ys : List ℕ
      ys = pick_to some (λ r. marks_of (b.values (I + r))) n g.unknown

      by : (t : Bool) → h.unknown ≡ ys →
          (pick t (with_register m h n (b.values (I + n))) h).unknown ≡ pick t (set ys n (marks_of (b.values (I + n)))) ys
      by true e = rw e
      by false e = e

  registers-places : (n : ℕ) → (store_registers m b n g).places ≡ g.places
  unfolding store_registers with_register
  registers-places zero = refl
  registers-places (suc n) = by (some n) (registers-places n)
    where
      by : (t : Bool) → (store_registers m b n g).places ≡ g.places →
          (pick t (with_register m (store_registers m b n g) n (b.values (I + n))) (store_registers m b n g)).places ≡ g.places
      by true e = e
      by false e = e

-- ---- places leave the registers

module _ (m : Module Expr) (b : Book) (g : Registers) where
  places-value : (n : ℕ) → (store_places m b n g).value ≡ g.value
  unfolding store_places with_wait
  places-value zero = refl
  places-value (suc n) = places-value n

  places-unknown : (n : ℕ) → (store_places m b n g).unknown ≡ g.unknown
  unfolding store_places with_wait
  places-unknown zero = refl
  places-unknown (suc n) = places-unknown n

  places-are : (n : ℕ) → (store_places m b n g).places ≡ set_to b.places n g.places
  unfolding store_places with_wait set_to
  places-are zero = refl
  places-are (suc n) = rw (places-are n)

-- ---- the answer

module _ (m : Module Expr) (b : Book) (g : Registers) (cs : List ℕ) where
  abbrev J : ℕ
  J = m.scope.inputs

  abbrev R : ℕ
  R = m.scope.registers

  abbrev N : ℕ
  N = length m.threads

  abbrev written : ℕ → Bool
  written r = some_thread m (λ i. writes m i (J + r))

  pub value-stored :
      ((r : ℕ) → r < R → number_of (cell_at cs (J + r)) ≡ pick (written r) (number_of (b.values (J + r))) (get_or g.value r 0)) →
      numbers_to cs J R g.value ≡ (stored m b g).value
  unfolding stored
  value-stored h =
      numbers-are cs J R g.value
      ∙ to-picked (λ r. number_of (cell_at cs (J + r))) 0 g.value written (λ r. number_of (b.values (J + r))) R h
      ∙ sym (places-value m b (store_registers m b R g) N ∙ stored-value m b g R)

  pub unknown-stored :
      ((r : ℕ) → r < R → marks_of (cell_at cs (J + r)) ≡ pick (written r) (marks_of (b.values (J + r))) (get_or g.unknown r 0)) →
      marks_to cs J R g.unknown ≡ (stored m b g).unknown
  unfolding stored
  unknown-stored h =
      marks-are cs J R g.unknown
      ∙ to-picked (λ r. marks_of (cell_at cs (J + r))) 0 g.unknown written (λ r. marks_of (b.values (J + r))) R h
      ∙ sym (places-unknown m b (store_registers m b R g) N ∙ stored-unknown m b g R)

  pub places-stored :
      (ps : List ℕ) → length ps ≡ length g.places → N ≤ length g.places → ((i : ℕ) → i < N → get_or ps i 0 ≡ b.places i) →
      ((i : ℕ) → N ≤ i → get_or ps i 0 ≡ get_or g.places i 0) → ps ≡ (stored m b g).places
  unfolding stored
  places-stored ps l k own past =
      ext_get_or 0 ps (set_to b.places N g.places) (l ∙ sym (to-length b.places 0 g.places N)) (λ i o. by i (dec_lt i N))
      ∙ sym (places-are m b (store_registers m b R g) N ∙ ap (set_to b.places N) (registers-places m b g R))
    where
      by : (i : ℕ) → Dec (i < N) → get_or ps i 0 ≡ get_or (set_to b.places N g.places) i 0
      by i (yes o) = own i o ∙ sym (to_at b.places 0 g.places N i o k)
      by i (no d) = past i (omega arith) ∙ sym (to-above b.places 0 g.places N i (omega arith))

  -- ---- wires

  filled_at : (n k x : ℕ) → k < n → get_or (replicate n x) k 0 ≡ x
  filled_at zero k x h = absurd (omega arith)
  filled_at (suc n) zero x h = refl
  filled_at (suc n) (suc k) x h = filled_at n k x (omega arith)

  abbrev W : ℕ
  W = length m.wires

  module _ (few : W ≤ 32) (same : (k : ℕ) → k < W → cell_at cs (J + R + k) ≡ b.values (wire_variable m k)) where
    value_in : (k : ℕ) → k < W → wire_value m b k ≡ b.values (wire_variable m k)
    unfolding wire_value
    value_in k h = rw (lt-ltb k W h)

    value-past : (k : ℕ) → W ≤ k → wire_value m b k ≡ nowhere
    unfolding wire_value
    value-past k h = rw (le-ltb k W h)

    -- A plane of what f takes from the wires' values, filled with what it takes from nowhere.
    plane-given : (f : Value → ℕ) (x : ℕ) → x ≡ f nowhere →
        set_to (λ k. f (cell_at cs (J + R + k))) W (replicate 32 x) ≡ list_of 32 (λ k. f (wire_value m b k))
    plane-given f x e =
        let c : ℕ → ℕ = λ k. f (cell_at cs (J + R + k)) in
        let l = length-replicate {A = ℕ} 32 x in
        ext_get_or 0 (set_to c W (replicate 32 x)) (list_of 32 (λ k. f (wire_value m b k)))
        (to-length c 0 (replicate 32 x) W ∙ l ∙ sym (length-list_of (λ k. f (wire_value m b k)) 32))
        (λ k o.
        let u : k < 32 = omega (arith, to-length c 0 (replicate 32 x) W) in
        by k u (dec_lt k W) ∙ sym (get_d-list_of (λ k. f (wire_value m b k)) 32 k 0 u))
      where
        by : (k : ℕ) → k < 32 → Dec (k < W) → get_or (set_to (λ k. f (cell_at cs (J + R + k))) W (replicate 32 x)) k 0 ≡ f (wire_value m b k)
        by k u (yes o) =
            to_at (λ k. f (cell_at cs (J + R + k))) 0 (replicate 32 x) W k o (omega (arith, length-replicate {A = ℕ} 32 x))
            ∙ ap f (same k o ∙ sym (value_in k o))
        by k u (no d) =
            to-above (λ k. f (cell_at cs (J + R + k))) 0 (replicate 32 x) W k (omega arith)
            ∙ filled_at 32 k x u
            ∙ e
            ∙ sym (ap f (value-past k (omega arith)))

    pub wires-given : numbers_to cs (J + R) W (replicate 32 0) ≡ list_of 32 (λ k. number_of (wire_value m b k))
    unfolding number_of nowhere all_unknown
    wires-given = numbers-are cs (J + R) W (replicate 32 0) ∙ plane-given number_of 0 refl

    pub unsure-given : marks_to cs (J + R) W (replicate 32 (ones 32)) ≡ list_of 32 (λ k. marks_of (wire_value m b k))
    unfolding marks_of nowhere all_unknown
    unsure-given = marks-are cs (J + R) W (replicate 32 (ones 32)) ∙ plane-given marks_of (ones 32) refl
