-- For a reviewer: the waits of a sheet that is read are counted as extraction counts them. proofs/Claims shows it.
use Rattle.std.specs.Prelude.{◌≡◌, List, ℕ, ◌+◌, ◌≤◌, ◌<◌, length}
use Rattle.sheet.specs.Reading.{ok}
use Rattle.sheet.specs.Expression.{Expr, located}
use Rattle.sheet.specs.Module.{Module, Sheet, read_sheet, read}
use Rattle.events.specs.Cycle.{code_of}
use Rattle.nextstate.specs.Rules.{waits_before, waits_below}
use Rattle.named_findings.specs.Items.{waits_at}

unfoldable pub WaitsCounted : Type 0
WaitsCounted = (s : List ℕ) (x : Sheet ℕ) (m : Module Expr) → read_sheet (located s) s ≡ ok x → read s ≡ ok m
    → (i p : ℕ) → i < length m.threads → p ≤ length (code_of m i)
    → waits_at s i p ≡ waits_below m i + waits_before (code_of m i) p
