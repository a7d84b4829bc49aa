-- For a reviewer: the heads of a sheet that is read stand over their own rows. proofs/Claims proves it.
use Rattle.std.specs.Prelude.{◌≡◌, true, List, ℕ, ◌+◌, ◌*◌, ◌<◌, length, get_or}
use Rattle.sheet.specs.Reading.{ok}
use Rattle.sheet.specs.Expression.{Expr, located}
use Rattle.sheet.specs.Module.{Module, Sheet, read_sheet, read}
use Rattle.sheet.specs.Answers.{layout_of}
use Rattle.pseudocode.specs.Compiling.{compile_at}
use Rattle.events.specs.Cycle.{code_of, instr_at, is_wait}
use Rattle.nextstate.specs.Rules.{waits_below}
use Rattle.nextstate.specs.Extraction.{Tables}
use Rattle.nextstate.specs.Book.{row_of}
use Rattle.overview.specs.Heads.{Noted, noted, heads_of, notes}

-- The table of heads that `fill_heads` leaves, from the code and the sizes that `compile` leaves.
unfoldable pub headed : List ℕ → Sheet ℕ → List ℕ → List ℕ → Noted
headed s x code heads =
    let l = layout_of x in
    let c = compile_at s l.definitions l.threads l.body code in
    notes (noted heads 0) (heads_of s c.code c.sizes l.threads)

-- As many heads as the threads of the module have waits; and over the row of thread i's wait at place p, of the 32 that the table has
-- room for, stands its head.
pub record Headed (m : Module Expr) (t : Noted) : Type 0 where
  pub count : t.count ≡ waits_below m (length m.threads)
  pub own : (T : Tables) (i p : ℕ) → i < length m.threads → p < length (code_of m i) → is_wait (instr_at (code_of m i) p) ≡ true
      → row_of m T i p < 32 → get_or t.heads (row_of m T i p) 0 ≡ 256 * i + p

unfoldable pub HeadsStand : Type 0
HeadsStand = (s : List ℕ) (x : Sheet ℕ) (m : Module Expr) → read_sheet (located s) s ≡ ok x → read s ≡ ok m
    → (code heads : List ℕ) → length code ≡ 4096 → length heads ≡ 32 → Headed m (headed s x code heads)
