-- Laws of the count of waits. Assumes nothing.
use mathlib.Core.Path.{◌≡◌}
use mathlib.Core.List.{List}
use Prim.Native.Nat.{ℕ}
use lib.ListN.{replicate}
use Rattle.sheet.specs.declared.SheetRead.{SheetRead}
use Rattle.sheet.specs.Expression.{located}
use Rattle.sheet.specs.Module.{read_sheet}
use Rattle.sheet.specs.Answers.{sheet_answer}
use Rattle.pseudocode.specs.Compiling.{compile_at}
use Rattle.named_findings.specs.Items.{waits_with, waits_under, waits_at}

pub waits-whole : (s : List ℕ) (i p : ℕ) {a : SheetRead} {code sizes : List ℕ} → a ≡ sheet_answer (read_sheet (located s) s)
    → sizes ≡ (compile_at s a.layout.definitions a.layout.threads a.layout.body (replicate 4096 0)).sizes
    → code ≡ (compile_at s a.layout.definitions a.layout.threads a.layout.body (replicate 4096 0)).code
    → {r : ℕ} → r ≡ waits_with s i p code sizes → r ≡ waits_at s i p
unfolding waits_at waits_under
waits-whole s i p e d f g = rw (← e) (rw (d, f) at g)
