-- THE LAW of accepted lines: where the error is 0, every slot up to the inputs' number is filled, and its value fits the width of its
-- input: such a row is never refused with 25. Assumes nothing.
use mathlib.Core.Path.{◌≡◌, refl, ◌∙◌}
use mathlib.Core.Bool.{Bool, true, false}
use mathlib.Core.List.{List}
use Prim.Native.Nat.{ℕ, zero, suc, ◌+◌, ◌-◌, ◌<◌, ◌≤◌}
use native.Mathlib.Nat.{add-zero}
use native.Mathlib.Omega.{arith}
use borrow.Author.Count.{below_more}
use borrow.Author.Tests.{eqb-true, eqb-false}
use lib.Dec.{ltb, eqb}
use lib.ListN.{length, get_or, set, drop, length-set, replicate}
use lib.Pow.{pow_pos}
use Rattle.values.specs.declared.Value.{Value}
use Rattle.values.specs.Values.{pick, known, all_unknown, fits}
use Rattle.values.specs.Planes.{value_at, number_of as number_in, marks_of}
use Rattle.values.proofs.Values.{fits-known, fits-unknown}
use Rattle.values.proofs.Planes.{value_at-set-same, value_at-set-other}
use Rattle.stimulus.specs.declared.Class.TheVariants.{Blank}
use Rattle.stimulus.specs.declared.Number.{Number}
use Rattle.stimulus.specs.declared.Bits.{Bits}
use Rattle.stimulus.specs.declared.Entry.{Entry}
use Rattle.stimulus.specs.declared.Taken.{Taken}
use Rattle.stimulus.specs.declared.Line.{Line}
use Rattle.stimulus.specs.Words.{run_end, ended}
use Rattle.stimulus.specs.Numbers.{number_of, is_x, is_hex, is_bits, is_sized, bits_of}
use Rattle.stimulus.specs.Lines.{entry, admitted, fitted, cut, sized, quoted, quoted_of, entry_of}
use Rattle.stimulus.specs.Lines.{cell_at, taken, slots, values_from, values_of, first_place, line_of}
use Rattle.stimulus.proofs.Lines.{slots-few}

-- ---- a word

-- What an entry stands for.
abbrev held : Entry → Value
held e = record { number = e.number; unknown = e.unknown }

admitted-fits : (w : ℕ) (a : Value) → (admitted w a).error ≡ 0 → fits w (held (admitted w a)) ≡ true
unfolding admitted number_in marks_of
admitted-fits w a z = by (fits w a) refl z
  where
    by : (x : Bool) → fits w a ≡ x → (pick x (entry 0 a.unknown a.number) (entry 3 0 0)).error ≡ 0 →
        fits w (held (pick x (entry 0 a.unknown a.number) (entry 3 0 0))) ≡ true
    by true p z = p
    by false p z = absurd (omega arith)

-- One entry or another, each of which fits.
pick-fits : (w : ℕ) (t : Bool) (d e : Entry) → (d.error ≡ 0 → fits w (held d) ≡ true) → (e.error ≡ 0 → fits w (held e) ≡ true) →
    (pick t d e).error ≡ 0 → fits w (held (pick t d e)) ≡ true
pick-fits w true d e f g z = f z
pick-fits w false d e f g z = g z

fitted-fits : (w : ℕ) (a : Number) → (fitted w a).error ≡ 0 → fits w (held (fitted w a)) ≡ true
unfolding fitted
fitted-fits w a =
    pick-fits w a.good _ (entry 2 0 0)
    (pick-fits w (ltb a.n 4294967296) (admitted w (known a.n)) (entry 3 0 0) (admitted-fits w (known a.n)) (λ z. absurd (omega arith)))
    (λ z. absurd (omega arith))

sized-fits : (w v k : ℕ) (a : Bits) → (sized w v k a).error ≡ 0 → fits w (held (sized w v k a)) ≡ true
unfolding sized
sized-fits w v k a =
    pick-fits w a.good _ (entry 2 0 0)
    (pick-fits w (ltb v k) (entry 3 0 0) (admitted w (cut v a)) (λ z. absurd (omega arith)) (admitted-fits w (cut v a)))
    (λ z. absurd (omega arith))

quoted-fits : (w : ℕ) (v : Number) (k : ℕ) (a : Bits) → (quoted w v k a).error ≡ 0 → fits w (held (quoted w v k a)) ≡ true
unfolding quoted
quoted-fits w v k a =
    pick-fits w v.good _ (entry 2 0 0)
    (pick-fits w (ltb v.n 33) (sized w v.n k a) (entry 3 0 0) (sized-fits w v.n k a) (λ z. absurd (omega arith)))
    (λ z. absurd (omega arith))

x_fits : (w : ℕ) → fits w (record { number = 0; unknown = marks_of (all_unknown w) }) ≡ true
unfolding all_unknown marks_of
x_fits w = fits-unknown w

entry-fits : (w : ℕ) (word : List ℕ) → (entry_of w word).error ≡ 0 → fits w (held (entry_of w word)) ≡ true
unfolding entry_of quoted_of
entry-fits w word =
    pick-fits w (is_x word) (entry 0 (marks_of (all_unknown w)) 0) _ (λ z. x_fits w)
    (pick-fits w (is_hex word) (fitted w (number_of true (drop 2 word))) _ (fitted-fits w _)
    (pick-fits w (is_bits word) (sized w w (length word - 1) (bits_of (drop 1 word))) _ (sized-fits w w _ _)
    (pick-fits w (is_sized word) (quoted w _ _ _) (fitted w (number_of false (drop 0 word))) (quoted-fits w _ _ _) (fitted-fits w _))))

module _ (line : List ℕ) (p w : ℕ) where
  abbrev value : Taken → Value
  value t = record { number = t.number; unknown = t.unknown }

  taken-fits : (taken line p w).error ≡ 0 → fits w (value (taken line p w)) ≡ true
  unfolding taken
  taken-fits z = by (ended line p) (eqb (get_or line p 0) 44) refl refl z
    where
      by : (s t : Bool) → ended line p ≡ s → eqb (get_or line p 0) 44 ≡ t → (taken line p w).error ≡ 0 → fits w (value (taken line p w)) ≡ true
      by true t d e z = let g = rw d at z in absurd (omega arith)
      by false true d e z = let g = rw (d, e) at z in absurd (omega arith)
      by false false d e z = rw (d, e) (entry-fits w _ (rw (d, e) at z))

-- ---- the values

module _ (line widths : List ℕ) where
  -- The slots below k hold values that fit.
  abbrev Fit : List ℕ → List ℕ → ℕ → Type 0
  Fit ns xs k = (j : ℕ) → j < k → fits (get_or widths j 0) (value_at ns xs j) ≡ true

  abbrev Filled : ℕ → Line → Type 0
  Filled k r = Fit r.value r.unknown k × (r.count ≡ k)

  fit-more :
      (ns xs : List ℕ) (k m x : ℕ) → length ns ≡ 16 → length xs ≡ 16 → k < 16 →
      fits (get_or widths k 0) (record { number = m; unknown = x }) ≡ true → Fit ns xs k → Fit (set ns k m) (set xs k x) (k + 1)
  unfolding number_in marks_of
  fit-more ns xs k m x a b l f h =
      below_more (λ (j : ℕ). fits (get_or widths j 0) (value_at (set ns k m) (set xs k x) j) ≡ true) k
      (λ j i. rw (value_at-set-other ns xs j k m x (λ e. omega arith)) (h j i))
      (rw (value_at-set-same ns xs k (record { number = m; unknown = x }) (omega arith) (omega arith)) f)

  values-filled :
      (n k at : ℕ) (ns xs : List ℕ) → length ns ≡ 16 → length xs ≡ 16 → k + n ≤ 16 → Fit ns xs k →
      (values_from line widths n k at ns xs).error ≡ 0 → Filled (k + n) (values_from line widths n k at ns xs)
  unfolding values_from
  values-filled zero k at ns xs a b l h z = rw (add-zero k) (h, refl)
  values-filled (suc n) k at ns xs a b l h z =
      by (eqb (taken line (cell_at line k at) (get_or widths k 0)).error 0) refl z
      (values-filled n (k + 1) (taken line (cell_at line k at) (get_or widths k 0)).to (set ns k (taken line (cell_at line k at) (get_or widths k 0)).number)
      (set xs k (taken line (cell_at line k at) (get_or widths k 0)).unknown) (length-set ns k _ ∙ a) (length-set xs k _ ∙ b) (omega arith))
    where
      by :
          (t : Bool) → eqb (taken line (cell_at line k at) (get_or widths k 0)).error 0 ≡ t → (values_from line widths (suc n) k at ns xs).error ≡ 0 →
          (Fit (set ns k (taken line (cell_at line k at) (get_or widths k 0)).number) (set xs k (taken line (cell_at line k at) (get_or widths k 0)).unknown) (k + 1) →
          (values_from line widths n (k + 1) (taken line (cell_at line k at) (get_or widths k 0)).to (set ns k (taken line (cell_at line k at) (get_or widths k 0)).number)
          (set xs k (taken line (cell_at line k at) (get_or widths k 0)).unknown)).error
          ≡ 0 →
          Filled (k + 1 + n)
          (values_from line widths n (k + 1) (taken line (cell_at line k at) (get_or widths k 0)).to (set ns k (taken line (cell_at line k at) (get_or widths k 0)).number)
          (set xs k (taken line (cell_at line k at) (get_or widths k 0)).unknown))) →
          Filled (k + suc n) (values_from line widths (suc n) k at ns xs)
      by true p z r =
          let e : k + suc n ≡ k + 1 + n = omega arith in
          let c = eqb-true (taken line (cell_at line k at) (get_or widths k 0)).error 0 p in
          rw (p, e)
          (r
          (fit-more ns xs k _ (taken line (cell_at line k at) (get_or widths k 0)).unknown a b (omega arith)
          (taken-fits line (cell_at line k at) (get_or widths k 0) c) h)
          (rw p at z))
      by false p z r = absurd (eqb-false (taken line (cell_at line k at) (get_or widths k 0)).error 0 p (rw p at z))

  -- ---- THE LAW

  none-fit : Fit (replicate 16 0) (replicate 16 0) 1
  unfolding value_at known
  none-fit zero l = fits-known (get_or widths 0 0) 0 (pow_pos (get_or widths 0 0))
  none-fit (suc j) l = absurd (omega arith)

  pub accepted : (inputs : ℕ) → 1 ≤ slots inputs → (line_of line widths inputs).error ≡ 0 → Filled (slots inputs) (line_of line widths inputs)
  unfolding line_of values_of
  accepted inputs s z = by (ended line (run_end Blank line 0)) refl z
    where
      by : (t : Bool) → ended line (run_end Blank line 0) ≡ t → (line_of line widths inputs).error ≡ 0 →
          Filled (slots inputs) (line_of line widths inputs)
      by true p z = let g = rw p at z in absurd (omega arith)
      by false p z =
          let f = slots-few inputs in
          let e : 1 + (slots inputs - 1) ≡ slots inputs = omega arith in
          rw p
          (rw e at
          (values-filled (slots inputs - 1) 1 (first_place line inputs (run_end Blank line 0)) (replicate 16 0) (replicate 16 0) refl refl
          (omega arith) none-fit (rw p at z)))
