-- Laws of a table's lines, by the place that a loop has come to.
use Prim.Native.Nat.{ℕ, zero, suc, ◌+◌, ◌-◌, ◌≤◌, ◌<◌}
use mathlib.Core.Path.{◌≡◌, refl, sym, ap, ◌∙◌}
use mathlib.Core.Logic.{◌≢◌}
use mathlib.Core.List.{List, [], ◌∷◌}
use native.Mathlib.Numerals.{add-one}
use native.Mathlib.Omega.{arith}
use lib.ListN.{length, get_or, drop, drop_of_length-le}
use lib.Seq.{drop-cons}
use borrow.Author.Tests.{ne_eqb}
use Rattle.writing.specs.Buffer.{Text, puts}
use Rattle.writing.proofs.Buffer.{puts-append}
use Rattle.reasons.specs.Reasons.{first_line, other_lines, line_of}

module _ (l : List ℕ) (i : ℕ) where
  -- ---- past the end

  pub rest-none : length l ≤ i → drop i l ≡ other_lines (drop i l)
  unfolding other_lines
  rest-none h = rw (drop_of_length-le l h)

  pub first-none : length l ≤ i → first_line (drop i l) ≡ []
  unfolding first_line
  first-none h = rw (drop_of_length-le l h)

  -- ---- at a line end

  pub rest_end : i < length l → get_or l i 0 ≡ 10 → drop (i + 1) l ≡ other_lines (drop i l)
  unfolding other_lines
  rest_end h e = rw (add-one, drop-cons l i 0 h, e)

  pub first-end : i < length l → get_or l i 0 ≡ 10 → first_line (drop i l) ≡ []
  unfolding first_line
  first-end h e = rw (drop-cons l i 0 h, e)

  -- ---- at another byte

  pub rest_more : i < length l → get_or l i 0 ≢ 10 → other_lines (drop (i + 1) l) ≡ other_lines (drop i l)
  unfolding other_lines
  rest_more h e = rw (add-one, drop-cons l i 0 h) (simp (ne_eqb _ _ e))

  pub first_more : i < length l → get_or l i 0 ≢ 10 → first_line (drop i l) ≡ get_or l i 0 ∷ first_line (drop (i + 1) l)
  unfolding first_line
  first_more h e = rw (add-one, drop-cons l i 0 h) (simp (ne_eqb _ _ e))

  -- A byte of the line written, and the rest to come.
  pub first_step : (t u : Text) → i < length l → get_or l i 0 ≢ 10 → u ≡ puts t (get_or l i 0 ∷ [])
      → puts u (first_line (drop (i + 1) l)) ≡ puts t (first_line (drop i l))
  first_step t u h e p =
      ap (λ x. puts x (first_line (drop (i + 1) l))) p
      ∙ sym (puts-append t (get_or l i 0 ∷ []) (first_line (drop (i + 1) l)))
      ∙ ap (λ x. puts t x) (sym (first_more h e))

-- ---- line n

pub line_first : (l : List ℕ) → line_of 0 l ≡ first_line l
unfolding line_of
line_first l = refl

pub line-next : (n : ℕ) (l m : List ℕ) → 0 < n → m ≡ other_lines l → line_of (n - 1) m ≡ line_of n l
unfolding line_of
line-next n l m h e = by n h
  where
    by : (k : ℕ) → 0 < k → line_of (k - 1) m ≡ line_of k l
    by zero z = absurd (omega (arith, z))
    by (suc k) z = ap (λ j. line_of j m) one ∙ ap (λ x. line_of k x) e
      where
        one : suc k - 1 ≡ k
        one = omega arith
