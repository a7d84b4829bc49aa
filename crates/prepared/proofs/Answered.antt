-- What `prepare` answers: a sheet is accepted, or refused with a number that is not 0. Assumes nothing.
use mathlib.Core.Path.{◌≡◌, refl}
use mathlib.Core.List.{List}
use Prim.Native.Nat.{ℕ}
use native.Mathlib.Omega.{arith}
use Rattle.sheet.specs.Reading.{Res, ok, no}
use Rattle.sheet.specs.Expression.{Expr, located}
use Rattle.sheet.specs.Module.{Module, Sheet, read_sheet, read}
use Rattle.sheet.specs.Answers.{sheet_answer}
use Rattle.sheet.proofs.Numbers.{numbered-no, located-numbered, sheet-numbered}
use Rattle.sheet.proofs.Trees.{read-located, map_res, trees}
use Rattle.prepared.specs.Prepared.{read_of}

pub data Answered (s : List ℕ) : Type 0 where
  accepted : (m : Module Expr) → read s ≡ ok m → (read_of s).number ≡ 0 → Answered s
  refused : (n p : ℕ) → read s ≡ no n p → (read_of s).number ≡ n → (n ≡ 0 → ⊥) → Answered s

pub answered : (s : List ℕ) → Answered s
unfolding sheet_answer map_res
answered s = by (read_sheet (located s) s) refl
  where
    by : (x : Res (Sheet ℕ)) → read_sheet (located s) s ≡ x → Answered s
    by (ok x) h = accepted (trees s x).contents (rw h at (read-located s)) (rw h refl)
    by (no n p) h =
        let l = (numbered-no (sheet-numbered (located s) (located-numbered s) s) h).0 in
        refused n p (rw h at (read-located s)) (rw h refl) (λ z. absurd (omega arith))
