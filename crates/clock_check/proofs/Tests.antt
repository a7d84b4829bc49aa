-- Single tests of the judgement, as the code makes them. Assumes nothing.
use mathlib.Core.Path.{◌≡◌, sym, ◌∙◌}
use mathlib.Core.Bool.{Bool, true, false, not, ◌&&◌, ◌||◌}
use mathlib.Core.List.{List}
use Prim.Native.Nat.{ℕ, ◌+◌, ◌*◌, ◌≤◌, ◌<◌}
use native.Mathlib.Decide.{dec_lt}
use native.Mathlib.Omega.{arith}
use borrow.Author.Tests.{lt-ltb, le-ltb, eqb-true}
use lib.Dec.{eqb}
use lib.ListN.{get_or}
use Rattle.state.specs.Rows.{all_below}
use Rattle.events.proofs.Cycle.{and_left, and_right}
use Rattle.plan.specs.Plan.{Plan}
use Rattle.nextstate.specs.Nodes.{node_from, node_at, a_variable}
use Rattle.clock_nodes.specs.Rows.{entry_at}
use Rattle.clock_steps.specs.Numbers.{waits_to, rows_to}
use Rattle.clock_check.specs.Judging.{wait_of, lands_below, entry_fits_on, row_fits_on, thread_fits_on, Rest}

-- ---- a test that counts only where another holds

module _ (x y t : Bool) (e : t ≡ x) where
  pub only-on : (r : Bool) → t ≡ true → r ≡ y → r ≡ (not x || y)
  only-on r h g = rw (← e, h) g

  pub only-off : t ≡ false → true ≡ (not x || y)
  only-off h = rw (← e, h)

-- ---- nodes that aren't in use

zero-node : (ns : List ℕ) (n : ℕ) → get_or ns (4 * n) 0 ≡ 0 → get_or ns (4 * n + 1) 0 ≡ 0 → node_at ns n ≡ a_variable 0
unfolding node_at node_from
zero-node ns n k a = rw (k, a)

module _ (ns : List ℕ) where
  pub rest-none : Rest ns 4096
  rest-none = record { most = omega arith; zeros = λ n l b. absurd (omega arith) }

  pub rest_more :
      (n k : ℕ) (t : Bool) → Rest ns n → k + 1 ≡ n → t ≡ (eqb (get_or ns (4 * k) 0) 0 && eqb (get_or ns (4 * k + 1) 0) 0) → t ≡ true →
      Rest ns k
  rest_more n k t r e h o = record { most = omega (arith, r.most); zeros = λ j l b. by j b (dec_lt k j) l }
    where
      both : (eqb (get_or ns (4 * k) 0) 0 && eqb (get_or ns (4 * k + 1) 0) 0) ≡ true
      both = sym h ∙ o

      by : (j : ℕ) → j < 4096 → Dec (k < j) → k ≤ j → node_at ns j ≡ a_variable 0
      by j b (yes l) g = r.zeros j (omega arith) b
      by j b (no d) g =
          let z : j ≡ k = omega arith in
          rw z
          (zero-node ns k (eqb-true _ _ (and_left (eqb (get_or ns (4 * k) 0) 0) (eqb (get_or ns (4 * k + 1) 0) 0) both))
          (eqb-true _ _ (and_right (eqb (get_or ns (4 * k) 0) 0) (eqb (get_or ns (4 * k + 1) 0) 0) both)))

-- ---- a row

module _ (q : Plan) (us rs : List ℕ) (mask : ℕ) (ls : List Bool) (row : ℕ) where
  abbrev all_fit : Bool
  all_fit = all_below q.registers (entry_fits_on q us rs mask row)

  pub row-off : all_fit ≡ false → false ≡ row_fits_on q us rs mask ls row
  unfolding row_fits_on
  row-off h = rw h

  pub row-past : {n : ℕ} → 4096 ≤ n → all_fit ≡ true → n ≡ entry_at rs row 32 → false ≡ row_fits_on q us rs mask ls row
  unfolding row_fits_on
  row-past {n} l h e = rw (h, ← e, le-ltb n 4096 l)

  pub row_on : {n : ℕ} → n < 4096 → all_fit ≡ true → n ≡ entry_at rs row 32 → get_or ls n false ≡ row_fits_on q us rs mask ls row
  unfolding row_fits_on
  row_on {n} l h e = rw (h, ← e, lt-ltb n 4096 l)

-- A place of a thread, as a turn of its loop finds it.
module _ (q : Plan) (us rs : List ℕ) (mask : ℕ) (ls : List Bool) (i : ℕ) where
  pub wait-found :
      (first p : ℕ) {row : ℕ} {w r t : Bool} → row ≡ first + waits_to q i p → w ≡ q.waits i p →
      r ≡ (not w || row_fits_on q us rs mask ls row) → r ≡ t →
      (not (q.waits i p) || row_fits_on q us rs mask ls (first + waits_to q i p)) ≡ t
  wait-found first p e k h z = rw (← e, ← k, ← h) z

-- A thread, as a turn of the loop over threads finds it.
module _ (q : Plan) (us rs ns : List ℕ) (i : ℕ) where
  pub thread-found :
      (mask : ℕ) {first : ℕ} {r t : Bool} → first ≡ rows_to q i →
      r ≡ thread_fits_on q us rs mask (lands_below (wait_of q i) ns 4096) i first → r ≡ t →
      thread_fits_on q us rs mask (lands_below (wait_of q i) ns 4096) i (rows_to q i) ≡ t
  thread-found mask e h z = rw (← e, ← h) z
