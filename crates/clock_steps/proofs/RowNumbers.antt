-- The rows' numbers on the plan of a module: at each wait the number of its row, which is below 32. Assumes nothing.
use mathlib.Core.Path.{◌≡◌, refl, ap, ◌∙◌}
use mathlib.Core.Logic.{◌≢◌}
use mathlib.Core.Bool.{Bool, true, false}
use mathlib.Core.List.{List}
use Prim.Native.Nat.{ℕ, zero, suc, ◌+◌, ◌-◌, ◌*◌, ◌%◌, ◌≤◌, ◌<◌}
use native.Mathlib.Nat.{mod-eq_of_lt, le_refl}
use native.Mathlib.Decide.{dec_lt}
use native.Mathlib.Omega.{arith}
use borrow.Author.Tests.{lt-ltb, le-ltb, ltb-true, ltb-false}
use lib.Dec.{ltb}
use lib.ListN.{length, get_or, set, length-set, get_or-eq_default}
use lib.Seq.{get_or-set_same, get_or-set_other}
use Rattle.values.specs.Values.{pick}
use Rattle.sheet.specs.Expression.{Expr}
use Rattle.sheet.specs.Module.{Module}
use Rattle.pseudocode.specs.Translation.{Instr, go}
use Rattle.events.specs.Cycle.{code_of, instr_at, is_wait}
use Rattle.events.proofs.Cycle.{absurd-bool, Below, at-end, before, below_suc}
use Rattle.plan.specs.Plan.{Plan}
use Rattle.nextstate.specs.Rules.{one, waits_before, waits_below}
use Rattle.nextstate.specs.Extraction.{Tables}
use Rattle.nextstate.specs.Book.{row_of}
use Rattle.clock_steps.specs.Claims.{Coded}
use Rattle.clock_steps.specs.Taking.{at_most, row_in}
use Rattle.clock_steps.specs.Numbers.{waits_to, waits_in, number_to, number_thread, rows_to, numbers_to, number_rows}

pub most-same : (most n : ℕ) → n ≤ most → at_most most n ≡ n
unfolding at_most
most-same most n h = by (dec_lt n most)
  where
    by : Dec (n < most) → pick (ltb n most) n most ≡ n
    by (yes l) = rw (lt-ltb n most l)
    by (no d) =
        let l : most ≤ n = omega arith in
        let e : most ≡ n = omega arith in
        rw (le-ltb n most l) e

most-most : (most n : ℕ) → at_most most n ≤ most
unfolding at_most
most-most most n = by (dec_lt n most)
  where
    by : Dec (n < most) → pick (ltb n most) n most ≤ most
    by (yes l) = rw (lt-ltb n most l) (omega arith)
    by (no d) =
        let l : most ≤ n = omega arith in
        rw (le-ltb n most l) (omega arith)

-- ---- the words, for any plan

module _ (q : Plan) where
  to-length : (i first n : ℕ) (ns : List ℕ) → length (number_to q i first n ns) ≡ length ns
  unfolding number_to
  to-length i first zero ns = refl
  to-length i first (suc p) ns = length-set (number_to q i first p ns) _ _ ∙ to-length i first p ns

  to-other : (i first n : ℕ) (ns : List ℕ) (j : ℕ) → ((p : ℕ) → p < n → j ≢ 256 * i + p) → get_or (number_to q i first n ns) j 0 ≡ get_or ns j 0
  unfolding number_to
  to-other i first zero ns j d = refl
  to-other i first (suc n) ns j d =
      get_or-set_other (number_to q i first n ns) (256 * i + n) j _ 0 (d n (omega arith)) ∙ to-other i first n ns j (λ p h. d p (omega arith))

  to_same : (i first n : ℕ) (ns : List ℕ) → 256 * i + n ≤ length ns → (p : ℕ) → p < n →
      get_or (number_to q i first n ns) (256 * i + p) 0 ≡ (first + waits_to q i p) % 256
  unfolding number_to
  to_same i first zero ns l p h = absurd (omega arith)
  to_same i first (suc n) ns l p h = by (λ o. to_same i first n ns (omega arith) p o) (below_suc n p h)
    where
      ms : List ℕ
      ms = number_to q i first n ns

      by : (p < n → get_or ms (256 * i + p) 0 ≡ (first + waits_to q i p) % 256) → Below n p →
          get_or (set ms (256 * i + n) ((first + waits_to q i n) % 256)) (256 * i + p) 0 ≡ (first + waits_to q i p) % 256
      by r (at-end e) = rw e (get_or-set_same ms (256 * i + n) _ 0 (omega (arith, to-length i first n ns)))
      by r (before o) = get_or-set_other ms (256 * i + n) (256 * i + p) _ 0 (λ e. omega arith) ∙ r o

  numbers-length : (i : ℕ) (ns : List ℕ) → length (numbers_to q i ns) ≡ length ns
  unfolding numbers_to number_thread
  numbers-length zero ns = refl
  numbers-length (suc i) ns = to-length i (rows_to q i) (at_most 256 (q.size i)) (numbers_to q i ns) ∙ numbers-length i ns

  pub number-at : (i : ℕ) (ns : List ℕ) → 256 * i ≤ length ns → (j p : ℕ) → j < i → p < at_most 256 (q.size j) →
      get_or (numbers_to q i ns) (256 * j + p) 0 ≡ (rows_to q j + waits_to q j p) % 256
  unfolding numbers_to number_thread
  number-at zero ns l j p h o = absurd (omega arith)
  number-at (suc i) ns l j p h o = by (λ k. number-at i ns (omega arith) j p k o) (below_suc i j h)
    where
      ms : List ℕ
      ms = numbers_to q i ns

      by : (j < i → get_or ms (256 * j + p) 0 ≡ (rows_to q j + waits_to q j p) % 256) → Below i j →
          get_or (number_to q i (rows_to q i) (at_most 256 (q.size i)) ms) (256 * j + p) 0 ≡ (rows_to q j + waits_to q j p) % 256
      by r (at-end e) =
          rw e
          (to_same i (rows_to q i) (at_most 256 (q.size i)) ms (omega (arith, numbers-length i ns, most-most 256 (q.size i))) p
          (rw e at o))
      by r (before k) =
          to-other i (rows_to q i) (at_most 256 (q.size i)) ms (256 * j + p)
          (λ s u e. omega (arith, most-most 256 (q.size i), most-most 256 (q.size j)))
          ∙ r k

-- ---- a wait stands inside its thread, and is counted

pub wait-inside : (c : List (Instr Expr)) (p : ℕ) → is_wait (instr_at c p) ≡ true → p < length c
unfolding instr_at is_wait
wait-inside c p h = by (ltb p (length c)) refl
  where
    by : (t : Bool) → ltb p (length c) ≡ t → p < length c
    by true e = ltb-true p (length c) e
    by false e = absurd-bool h (ap is_wait (get_or-eq_default c (go 0) (ltb-false p (length c) e)))

module _ (c : List (Instr Expr)) where
  before-up : (p k : ℕ) → waits_before c p ≤ waits_before c (p + k)
  unfolding waits_before
  before-up p zero = let e : p + 0 ≡ p = omega arith in rw e (le_refl (waits_before c p))
  before-up p (suc k) =
      let e : p + suc k ≡ suc (p + k) = omega arith in
      rw e (omega (arith, before-up p k))

  before-wait : (p : ℕ) → is_wait (instr_at c p) ≡ true → waits_before c (suc p) ≡ waits_before c p + 1
  unfolding waits_before instr_at one
  before-wait p h = rw h

  wait-counted : (p : ℕ) → is_wait (instr_at c p) ≡ true → waits_before c p < waits_before c (length c)
  wait-counted p h =
      let o = wait-inside c p h in
      let e : suc p + (length c - suc p) ≡ length c = omega arith in
      let u = rw e at (before-up (suc p) (length c - suc p)) in
      omega (arith, before-wait p h)

module _ (m : Module Expr) where
  below_up : (i k : ℕ) → waits_below m i ≤ waits_below m (i + k)
  unfolding waits_below
  below_up i zero = let e : i + 0 ≡ i = omega arith in rw e (le_refl (waits_below m i))
  below_up i (suc k) =
      let e : i + suc k ≡ suc (i + k) = omega arith in
      rw e (omega (arith, below_up i k))

  below_next : (i : ℕ) → waits_below m (suc i) ≡ waits_below m i + waits_before (code_of m i) (length (code_of m i))
  unfolding waits_below
  below_next i = refl

  module _ (T : Tables) (few : waits_below m (length m.threads) ≤ 32) (i p : ℕ) (l : i < length m.threads)
      (h : is_wait (instr_at (code_of m i) p) ≡ true) where
    pub row_from : waits_below m i ≤ row_of m T i p
    unfolding row_of
    row_from = omega arith

    pub row_inside : row_of m T i p < waits_below m i + waits_before (code_of m i) (length (code_of m i))
    unfolding row_of
    row_inside = omega (arith, wait-counted (code_of m i) p h)

    pub row_small : row_of m T i p < 32
    row_small =
        let e : suc i + (length m.threads - suc i) ≡ length m.threads = omega arith in
        let u = rw e at (below_up (suc i) (length m.threads - suc i)) in
        omega (arith, row_inside, below_next i)

-- ---- on the plan of a module

module _ (m : Module Expr) (q : Plan) (c : Coded m q) where
  size_is : (i : ℕ) → i < length m.threads → at_most 256 (q.size i) ≡ length (code_of m i)
  size_is i l = ap (at_most 256) (c.size i l) ∙ most-same 256 (length (code_of m i)) (c.short i l)

  waits-is : (i : ℕ) → i < length m.threads → (p : ℕ) → p ≤ length (code_of m i) → waits_to q i p ≡ waits_before (code_of m i) p
  unfolding waits_to waits_before instr_at
  waits-is i l zero o = refl
  waits-is i l (suc p) o = rw (waits-is i l p (omega arith), c.waits i p l o)

  pub thread-waits : (i : ℕ) → i < length m.threads → waits_in q i ≡ waits_before (code_of m i) (length (code_of m i))
  unfolding waits_in
  thread-waits i l = rw (size_is i l) (waits-is i l (length (code_of m i)) (le_refl (length (code_of m i))))

  pub rows_is : (i : ℕ) → i ≤ length m.threads → rows_to q i ≡ waits_below m i
  unfolding rows_to waits_below
  rows_is zero l = refl
  rows_is (suc i) l = rw (rows_is i (omega arith), thread-waits i l)

  pub threads-is : at_most 8 q.threads ≡ length m.threads
  threads-is = ap (at_most 8) c.threads ∙ most-same 8 (length m.threads) c.eight

  row_is : (T : Tables) (i p : ℕ) → i < length m.threads → p < length (code_of m i) → rows_to q i + waits_to q i p ≡ row_of m T i p
  unfolding row_of
  row_is T i p l o = rw (rows_is i (omega arith), waits-is i l p (omega arith))

  pub number-row :
      (T : Tables) → waits_below m (length m.threads) ≤ 32 → (ns : List ℕ) → length ns ≡ 2048 → (i p : ℕ) → i < length m.threads →
      is_wait (instr_at (code_of m i) p) ≡ true → row_in (number_rows q ns) i p ≡ row_of m T i p
  unfolding row_in number_rows
  number-row T few ns long i p l h =
      let o = wait-inside (code_of m i) p h in
      let s = row_small m T few i p l h in
      let u : p < at_most 256 (q.size i) = rw (size_is i l) o in
      let a = number-at q (length m.threads) ns (omega (arith, c.eight)) i p l u in
      let x : row_of m T i p % 256 ≡ row_of m T i p = mod-eq_of_lt (omega arith) in
      let y : row_of m T i p % 32 ≡ row_of m T i p = mod-eq_of_lt (omega arith) in
      rw (threads-is, a, row_is T i p l o, x, y)
