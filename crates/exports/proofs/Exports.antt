-- The code's answer to reading a sheet has the number and the place that `read` gives.
use mathlib.Core.Path.{◌≡◌, refl, sym, ap, ◌∙◌}
use Prim.Native.Nat.{ℕ}
use native.Mathlib.Omega.{arith}
use mathlib.Core.List.{List}
use Rattle.sheet.specs.declared.SheetRead.{SheetRead}
use Rattle.sheet.specs.Reading.{Res, ok, no}
use Rattle.sheet.specs.Expression.{located}
use Rattle.sheet.specs.Module.{Sheet, read_sheet, read}
use Rattle.sheet.specs.Answers.{sheet_answer}
use Rattle.sheet.proofs.Trees.{map_res, trees, read-located}
use Rattle.sheet.proofs.Numbers.{numbered-no, located-numbered, sheet-numbered}
use Rattle.exports.specs.Exports.{number_of, place_of}
use Rattle.exports.specs.Saved.{unfit}

number-map : {A B : Type 0} (f : A → B) (x : Res A) → number_of (map_res f x) ≡ number_of x
unfolding number_of map_res
number-map f (ok a) = refl
number-map f (no n p) = refl

place_map : {A B : Type 0} (f : A → B) (x : Res A) → place_of (map_res f x) ≡ place_of x
unfolding place_of map_res
place_map f (ok a) = refl
place_map f (no n p) = refl

number-answer : (x : Res (Sheet ℕ)) → (sheet_answer x).number ≡ number_of x
unfolding sheet_answer number_of
number-answer (ok r) = refl
number-answer (no n p) = refl

place-answer : (x : Res (Sheet ℕ)) → (sheet_answer x).place ≡ place_of x
unfolding sheet_answer place_of
place-answer (ok r) = refl
place-answer (no n p) = refl

module _ (s : List ℕ) (r : SheetRead) (e : r ≡ sheet_answer (read_sheet (located s) s)) where
  pub number_read : r.number ≡ number_of (read s)
  number_read =
      ap (λ (a : SheetRead). a.number) e ∙ number-answer (read_sheet (located s) s)
      ∙ sym (ap number_of (read-located s) ∙ number-map _ (read_sheet (located s) s))

  pub place_read : r.place ≡ place_of (read s)
  place_read =
      ap (λ (a : SheetRead). a.place) e ∙ place-answer (read_sheet (located s) s)
      ∙ sym (ap place_of (read-located s) ∙ place_map _ (read_sheet (located s) s))

  -- ---- the number where nothing was loaded

  number-of : {x : Res (Sheet ℕ)} → read_sheet (located s) s ≡ x → r.number ≡ (sheet_answer x).number
  number-of g = ap (λ (a : SheetRead). a.number) e ∙ ap (λ (y : Res (Sheet ℕ)). (sheet_answer y).number) g

  pub unfit-refused : (r.number ≡ 0 → ⊥) → r.number ≡ unfit (read s)
  unfolding sheet_answer map_res unfit
  unfit-refused h = rw (read-located s) (by (read_sheet (located s) s) refl)
    where
      by : (x : Res (Sheet ℕ)) → read_sheet (located s) s ≡ x → r.number ≡ unfit (map_res (λ q. (trees s q).contents) x)
      by (ok q) g = absurd (h (number-of g))
      by (no n p) g = number-of g

  pub unfit-read : r.number ≡ 0 → 31 ≡ unfit (read s)
  unfolding sheet_answer map_res unfit
  unfit-read h = rw (read-located s) (by (read_sheet (located s) s) refl)
    where
      by : (x : Res (Sheet ℕ)) → read_sheet (located s) s ≡ x → 31 ≡ unfit (map_res (λ q. (trees s q).contents) x)
      by (ok q) g = refl
      by (no n p) g =
          let k : n ≡ 0 = sym (number-of g) ∙ h in
          let z = numbered-no (sheet-numbered (located s) (located-numbered s) s) g in
          absurd (omega arith)
