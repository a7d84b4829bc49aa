-- The number of a sheet, and the module of one that extraction accepts. Assumes nothing.
use mathlib.Core.Path.{◌≡◌, refl, ap, ◌∙◌}
use mathlib.Core.List.{List}
use Prim.Native.Nat.{ℕ, ◌≤◌}
use native.Mathlib.Omega.{arith}
use Rattle.sheet.specs.Reading.{Res, ok, no, ◌>>=◌}
use Rattle.sheet.specs.Expression.{Expr, located}
use Rattle.sheet.specs.Module.{Module, Sheet, read_sheet, read}
use Rattle.sheet.specs.Answers.{sheet_answer, layout_of}
use Rattle.sheet.specs.declared.SheetRead.{SheetRead}
use Rattle.sheet.proofs.Numbers.{numbered-no, located-numbered, sheet-numbered}
use Rattle.sheet.proofs.Trees.{read-located, map_res, trees}
use Rattle.nextstate.specs.Rules.{rule}
use Rattle.nextstate.proofs.Numbers.{extracted-rule}
use Rattle.nextstate.specs.Extraction.{Tables, extracted, expressions}
use Rattle.nextstate.specs.CycleRun.{extractable}
use Rattle.extraction.specs.Extracting.{number_in}
use Rattle.extraction.proofs.Extracting.{refused-some}

-- ---- the number of a sheet, 1 to 21, or 0

unfoldable pub Numbered : Res (Module Expr) → ℕ → Type 0
Numbered (ok m) r = r ≡ 0
Numbered (no n p) r = (r ≡ n) × (1 ≤ n)

number-both : (x : Res (Module Expr)) (f : Module Expr → Res Tables) (n : ℕ) → n ≡ number_in (x >>= f) →
    ((k p : ℕ) → (x >>= f) ≡ no k p → 1 ≤ k) → Numbered (x >>= (λ m. f m >>= (λ T. ok m))) n
unfolding number_in Numbered
number-both (no k p) f n a l = (a, l k p refl)
number-both (ok m) f n a l = by (f m) a l
  where
    by : (y : Res Tables) → n ≡ number_in y → ((k p : ℕ) → y ≡ no k p → 1 ≤ k) → Numbered (y >>= (λ T. ok m)) n
    by (ok T) b o = b
    by (no k p) b o = (b, o k p refl)

pub number_same : (s : List ℕ) (n : ℕ) → n ≡ number_in (expressions s) → Numbered (extractable s) n
unfolding expressions extractable
number_same s n a = number-both (read s) extracted n a (λ k p h. refused-some s h)

-- ---- a sheet that extraction accepts was read, and the module is its own

extracted-own : (x : Res (Module Expr)) (f : Module Expr → Res Tables) {m : Module Expr} →
    x ≡ ok m → (n : ℕ) → n ≡ 0 → Numbered (x >>= (λ m. f m >>= (λ T. ok m))) n → (x >>= (λ m. f m >>= (λ T. ok m))) ≡ ok m
unfolding Numbered
extracted-own x f {m} e n z q = rw e (by (f m) (rw e at q))
  where
    by : (y : Res Tables) → Numbered (y >>= (λ T. ok m)) n → (y >>= (λ T. ok m)) ≡ ok m
    by (ok T) b = refl
    by (no k p) b = absurd (omega (arith, b.0, b.1))

extracted-unbroken : (x : Res (Module Expr)) {m : Module Expr} →
    x ≡ ok m → (n : ℕ) → n ≡ 0 → Numbered (x >>= (λ m. extracted m >>= (λ T. ok m))) n → rule m ≡ 0
unfolding Numbered
extracted-unbroken x {m} e n z q = by (extracted m) refl (rw e at q)
  where
    by : (y : Res Tables) → extracted m ≡ y → Numbered (y >>= (λ T. ok m)) n → rule m ≡ 0
    by (ok T) h b = extracted-rule m h
    by (no k p) h b = absurd (omega (arith, b.0, b.1))

refused-never : (x : Res (Module Expr)) (f : Module Expr → Res Tables) {k p : ℕ} →
    x ≡ no k p → 1 ≤ k → (n : ℕ) → n ≡ 0 → Numbered (x >>= (λ m. f m >>= (λ T. ok m))) n → ⊥
unfolding Numbered
refused-never x f e l n z q = let b = rw e at q in omega (arith, b.0)

pub record Own (s : List ℕ) (r : SheetRead) : Type 0 where
  pub sheet : Sheet ℕ
  pub place : read_sheet (located s) s ≡ ok sheet
  pub same : read s ≡ ok (trees s sheet).contents
  pub layout : r.layout ≡ layout_of sheet
  pub extractable : extractable s ≡ ok (trees s sheet).contents
  pub unbroken : rule (trees s sheet).contents ≡ 0

pub own : (s : List ℕ) (r : SheetRead) → r ≡ sheet_answer (read_sheet (located s) s) → (n : ℕ) → n ≡ number_in (expressions s) → n ≡ 0 → Own s r
unfolding extractable sheet_answer map_res
own s r e n q z = by (read_sheet (located s) s) refl
  where
    by : (x : Res (Sheet ℕ)) → read_sheet (located s) s ≡ x → Own s r
    by (ok x) h =
        let m = rw h at (read-located s) in
        record {
          sheet = x;
          place = h;
          same = m;
          layout = ap (λ (t : SheetRead). t.layout) e ∙ ap (λ (t : Res (Sheet ℕ)). (sheet_answer t).layout) h;
          extractable = extracted-own (read s) extracted m n z (number_same s n q);
          unbroken = extracted-unbroken (read s) m n z (number_same s n q);
        }
    by (no k p) h =
        let l = (numbered-no (sheet-numbered (located s) (located-numbered s) s) h).0 in
        absurd (refused-never (read s) extracted (rw h at (read-located s)) l n z (number_same s n q))
