-- Laws of planes in cells: what a cell holds, a plane after a store, planes laid into cells and taken out again. Assumes nothing.
use mathlib.Core.Path.{◌≡◌, refl, sym, ap, ◌∙◌}
use mathlib.Core.Bool.{Bool, true, false}
use mathlib.Core.List.{List}
use Prim.Native.Nat.{ℕ, zero, suc, ◌+◌, ◌^◌, ◌≤◌, ◌<◌}
use native.Mathlib.Numerals.{add-one}
use native.Mathlib.Omega.{arith}
use lib.Dec.{eqb}
use lib.ListN.{length, get_or, set, length-set}
use lib.Seq.{get_or-set_same, get_or-set_other}
use borrow.Author.Tests.{eqb-true, eqb-false}
use Rattle.values.specs.declared.Value.{Value}
use Rattle.values.specs.Planes.{value_at, number_of, marks_of}
use Rattle.values.specs.Cells.{small, cell_of, number_in, marks_in, value_of, cell_at}
use Rattle.values.proofs.Cells.{number-in, marks-in, number-cell, marks-cell}
use Rattle.state.specs.Rows.{list_of}
use Rattle.state.proofs.Rows.{list_of-is}
use Rattle.plan_state.specs.Planes.{marked, cells_below, Planes}
use Rattle.plan_state.specs.Packing.{numbers_in, unknowns_in}

-- ---- one cell

pub number-marked : (n u : ℕ) → n < 4294967296 → number_in (marked n u) ≡ n
unfolding marked
number-marked n u h = number-in n u h

pub marks-marked : (n u : ℕ) → n < 4294967296 → u < 4294967296 → marks_in (marked n u) ≡ u
unfolding marked
marks-marked n u h k = marks-in n u h k

-- ---- a plane after a store: what f finds in each cell

module _ (f : ℕ → ℕ) (xs cs : List ℕ) (n v x c : ℕ) (h : v < length xs) (l : v < length cs) (e : x ≡ f c)
    (k : (u : ℕ) → u < n → get_or xs u 0 ≡ f (get_or cs u 0)) where
  set-plane : (u : ℕ) → u < n → get_or (set xs v x) u 0 ≡ f (get_or (set cs v c) u 0)
  set-plane u b = by (eqb v u) refl
    where
      by : (t : Bool) → eqb v u ≡ t → get_or (set xs v x) u 0 ≡ f (get_or (set cs v c) u 0)
      by true p = rw (← (eqb-true v u p)) (get_or-set_same xs v x 0 h ∙ e ∙ ap f (sym (get_or-set_same cs v c 0 l)))
      by false p =
          let d = eqb-false v u p in
          get_or-set_other xs v u x 0 (λ z. d (sym z)) ∙ k u b ∙ ap f (sym (get_or-set_other cs v u c 0 (λ z. d (sym z))))

-- ---- planes of cells

module _ {ns us : List ℕ} {n : ℕ} {cs : List ℕ} (p : Planes ns us n cs) where
  pub planes-value : (v : ℕ) → v < n → cell_at cs v ≡ value_at ns us v
  unfolding cell_at value_of value_at
  planes-value v h =
      let a = p.number v h in
      let b = p.marks v h in
      sym (λ i. record { number = a i; unknown = b i })

  pub planes-kept : (ds : List ℕ) → ((v : ℕ) → v < n → get_or ds v 0 ≡ get_or cs v 0) → Planes ns us n ds
  planes-kept ds e =
      record {
        length-numbers = p.length-numbers;
        length-marks = p.length-marks;
        number = λ v h. p.number v h ∙ ap number_in (sym (e v h));
        marks = λ v h. p.marks v h ∙ ap marks_in (sym (e v h));
      }

  pub planes-set : (v : ℕ) (a : Value) → v < n → n ≤ length cs → small a ≡ true
      → Planes (set ns v (number_of a)) (set us v (marks_of a)) n (set cs v (cell_of a))
  unfolding number_of marks_of
  planes-set v a h l f =
      record {
        length-numbers = length-set ns v a.number ∙ p.length-numbers;
        length-marks = length-set us v a.unknown ∙ p.length-marks;
        number = set-plane number_in ns cs n v a.number (cell_of a) (rw p.length-numbers h) (omega arith) (sym (number-cell a f))
            p.number;
        marks = set-plane marks_in us cs n v a.unknown (cell_of a) (rw p.length-marks h) (omega arith) (sym (marks-cell a f))
            p.marks;
      }

  -- ---- taken out

  pub planes-numbers : numbers_in cs n ≡ ns
  planes-numbers = list_of-is (λ v. number_in (get_or cs v 0)) ns 0 n p.length-numbers (λ v h. sym (p.number v h))

  pub planes-marks : unknowns_in cs n ≡ us
  planes-marks = list_of-is (λ v. marks_in (get_or cs v 0)) us 0 n p.length-marks (λ v h. sym (p.marks v h))

-- ---- laid into cells

module _ (ns us cs : List ℕ) where
  pub length-cells : (n : ℕ) → length (cells_below ns us n cs) ≡ length cs
  unfolding cells_below
  length-cells zero = refl
  length-cells (suc n) = length-set (cells_below ns us n cs) n (marked (get_or ns n 0) (get_or us n 0)) ∙ length-cells n

  pub cells_at : (n v : ℕ) → v < n → n ≤ length cs → get_or (cells_below ns us n cs) v 0 ≡ marked (get_or ns v 0) (get_or us v 0)
  unfolding cells_below
  cells_at zero v h l = absurd (omega arith)
  cells_at (suc n) v h l = by (eqb n v) refl (λ k. cells_at n v k (omega arith))
    where
      by : (t : Bool) → eqb n v ≡ t
          → (v < n → get_or (cells_below ns us n cs) v 0 ≡ marked (get_or ns v 0) (get_or us v 0))
          → get_or (set (cells_below ns us n cs) n (marked (get_or ns n 0) (get_or us n 0))) v 0
          ≡ marked (get_or ns v 0) (get_or us v 0)
      by true e ih =
          rw (← (eqb-true n v e))
          (get_or-set_same (cells_below ns us n cs) n (marked (get_or ns n 0) (get_or us n 0)) 0
          (omega (arith, length-cells n)))
      by false e ih =
          let d = eqb-false n v e in
          get_or-set_other (cells_below ns us n cs) n v (marked (get_or ns n 0) (get_or us n 0)) 0 (λ z. d (sym z))
          ∙ ih (omega arith)

  -- A turn of the loop that lays them.
  pub cells-next : (n : ℕ) (ds : List ℕ) → ds ≡ cells_below ns us n cs
      → set ds n (marked (get_or ns n 0) (get_or us n 0)) ≡ cells_below ns us (n + 1) cs
  unfolding cells_below
  cells-next n ds e = rw (add-one n, e)

  pub cells-planes : (n : ℕ) → length ns ≡ n → length us ≡ n → n ≤ length cs → ((v : ℕ) → get_or ns v 0 < 2 ^ 32)
      → ((v : ℕ) → get_or us v 0 < 2 ^ 32) → Planes ns us n (cells_below ns us n cs)
  cells-planes n a b l h k =
      record {
        length-numbers = a;
        length-marks = b;
        number = λ v i. sym (ap number_in (cells_at n v i l) ∙ number-marked (get_or ns v 0) (get_or us v 0) (h v));
        marks = λ v i. sym (ap marks_in (cells_at n v i l) ∙ marks-marked (get_or ns v 0) (get_or us v 0) (h v) (k v));
      }
