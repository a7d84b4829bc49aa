-- The registers that each thread of a sheet writes, as masks.
use Rattle.std.specs.Prelude.{◌≡◌, false, List, ℕ, ◌+◌, ◌^◌, ◌<◌, length, get_or}
use Rattle.sheet.specs.Reading.{ok}
use Rattle.sheet.specs.Expression.{Expr, located}
use Rattle.sheet.specs.Module.{Module, Sheet, read_sheet, read}
use Rattle.sheet.specs.Answers.{layout_of}
use Rattle.sheet.specs.declared.Layout.{Layout}
use Rattle.masks.specs.Masks.{bits}
use Rattle.nextstate.specs.Rules.{writes}

pub record Written (m : Module Expr) (written : List ℕ) : Type 0 where
  pub small : (i : ℕ) → get_or written i 0 < 2 ^ 32
  pub writers : (i r : ℕ) → i < length m.threads → get_or (bits (get_or written i 0)) r false ≡ writes m i (m.scope.inputs + r)

-- Of a sheet that was read.
abbrev pub WrittenBy : List ℕ → Layout → List ℕ → Type 0
WrittenBy s l written =
    (x : Sheet ℕ) (m : Module Expr) → read_sheet (located s) s ≡ ok x → read s ≡ ok m → l ≡ layout_of x → Written m written
