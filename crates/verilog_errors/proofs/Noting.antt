-- Laws of the table of words outside the forms, by the place that a loop has come to. Assumes nothing.
use mathlib.Core.Path.{◌≡◌, refl, sym, ap, ◌∙◌}
use mathlib.Core.Bool.{Bool, true, false}
use mathlib.Core.List.{List, [], ◌∷◌}
use Prim.Native.Nat.{ℕ, zero, suc, ◌+◌, ◌-◌, ◌≤◌, ◌<◌}
use native.Mathlib.Numerals.{add-one}
use native.Mathlib.Omega.{arith}
use borrow.Author.Tests.{eq-eqb, ne_eqb}
use lib.Dec.{eqb}
use lib.ListN.{length, get_or, take, drop, drop_of_length-le, length-drop}
use lib.Seq.{drop-cons, take-nil, take_all}
use Rattle.writing.specs.Buffer.{Text, puts}
use Rattle.writing.proofs.Buffer.{puts-nil}
use Rattle.reasons.specs.Reasons.{first_line, other_lines}
use Rattle.verilog_errors.specs.Notes.{opens, sentence_by}

pub get_d_front : (l : List ℕ) (i : ℕ) → get_or (drop i l) 0 0 ≡ get_or l i 0
get_d_front [] zero = refl
get_d_front [] (suc i) = refl
get_d_front (b ∷ l) zero = refl
get_d_front (b ∷ l) (suc i) = get_d_front l i

-- ---- opens

module _ (word table : List ℕ) (n i j : ℕ) where
  pub opens-none : n ≡ 0 → eqb (get_or table j 0) 32 ≡ opens (take n (drop i word)) (drop j table)
  unfolding opens
  opens-none h = rw (h, get_d_front table j)

  pub opens-past : length word ≤ i → eqb (get_or table j 0) 32 ≡ opens (take n (drop i word)) (drop j table)
  unfolding opens
  opens-past h = rw (drop_of_length-le word h, take-nil n, get_d_front table j)

  module _ (h : i < length word) (z : n ≡ 0 → ⊥) where
    pub opens-short : length table ≤ j → false ≡ opens (take n (drop i word)) (drop j table)
    unfolding opens
    opens-short l =
        let k : n ≡ suc (n - 1) = omega arith in
        rw (k, drop-cons word i 0 h, drop_of_length-le table l)

    pub opens-other : j < length table → (get_or word i 0 ≡ get_or table j 0 → ⊥) → false ≡ opens (take n (drop i word)) (drop j table)
    unfolding opens
    opens-other l d =
        let k : n ≡ suc (n - 1) = omega arith in
        rw (k, drop-cons word i 0 h, drop-cons table j 0 l, ne_eqb _ _ d)

    pub opens-same : j < length table → get_or word i 0 ≡ get_or table j 0
        → opens (take (n - 1) (drop (i + 1) word)) (drop (j + 1) table) ≡ opens (take n (drop i word)) (drop j table)
    unfolding opens
    opens-same l d = by (n - 1) (omega arith)
      where
        by : (m : ℕ) → n ≡ suc m → opens (take m (drop (i + 1) word)) (drop (j + 1) table) ≡ opens (take n (drop i word)) (drop j table)
        by m k = rw (k, add-one i, add-one j, drop-cons word i 0 h, drop-cons table j 0 l, eq-eqb _ _ d)

-- ---- sentence_by

module _ (w l : List ℕ) (n : ℕ) where
  pub sentence-none : (t : Text) → n ≤ 0 → t ≡ puts t (sentence_by n w l)
  unfolding sentence_by
  sentence-none t h = let k : n ≡ 0 = omega arith in rw k (sym (puts-nil t))

  module _ (z : 0 < n) where
    pub sentence-hit : opens w l ≡ true → first_line l ≡ sentence_by n w l
    unfolding sentence_by
    sentence-hit e = let k : n ≡ suc (n - 1) = omega arith in rw (k, e)

    pub sentence-miss : opens w l ≡ false → (m : List ℕ) → m ≡ other_lines l → sentence_by (n - 1) w m ≡ sentence_by n w l
    unfolding sentence_by
    sentence-miss e m d = by (n - 1) (omega arith)
      where
        by : (k : ℕ) → n ≡ suc k → sentence_by k w m ≡ sentence_by n w l
        by k q = rw (q, e, d)

-- ---- the rest of a text from a place on

pub rest-whole : (text : List ℕ) (p : ℕ) → take (length text - p) (drop p text) ≡ drop p text
rest-whole text p = take_all (length text - p) (drop p text) (omega (arith, length-drop p text))
