-- The instruction that is fetched at a place of an accepted sheet's code is the one of the translation, and its expression was
-- read where the code says. Assumes nothing.
use mathlib.Core.Path.{◌≡◌}
use mathlib.Core.List.{List}
use Prim.Native.Nat.{ℕ, ◌<◌}
use lib.ListN.{length}
use Rattle.sheet.specs.declared.EdgeTerm.{EdgeTerm}
use Rattle.sheet.specs.Reading.{ok}
use Rattle.sheet.specs.Expression.{Expr, Scope, located}
use Rattle.sheet.specs.Module.{Module, Sheet, read_sheet, read}
use Rattle.sheet.specs.Answers.{definitions_of}
use Rattle.pseudocode.specs.Translation.{Instr, wait!, set!, later!, go, ifnot}
use Rattle.pseudocode.specs.Instruction.{terms_of}
use Rattle.pseudocode.specs.declared.Action.TheVariants.{Set, Later, Go, IfNot}
use Rattle.pseudocode.specs.declared.Instruction.{Instruction}
use Rattle.pseudocode.specs.declared.Instruction.TheVariants.{Wait, Act}
use Rattle.pseudocode.specs.Compiling.{compile_at}
use Rattle.pseudocode.specs.Fetching.{fetch_at}
use Rattle.tables.proofs.Marking.{ReadAt}
use Rattle.tables.proofs.Placing.{Coded, codes-wait, codes-set, codes-later, codes-go, codes-ifnot}
use Rattle.tables.proofs.Holding.{coded}
use Rattle.events.specs.Cycle.{code_of, instr_at}

-- ---- an instruction of the translation, and the one that was fetched for it

pub data Fetched (c : Scope) (s : List ℕ) : Instr Expr → Instruction → Type 0 where
  a-wait! : {ts : List EdgeTerm} → Fetched c s (wait! ts) (Wait (terms_of ts))
  a-set! : {t p : ℕ} {e : Expr} → ReadAt c s e p → Fetched c s (set! t e) (Act (Set t p))
  a-later! : {t p : ℕ} {e : Expr} → ReadAt c s e p → Fetched c s (later! t e) (Act (Later t p))
  a-go : {g : ℕ} → Fetched c s (go g) (Act (Go g))
  an-ifnot : {g p : ℕ} {e : Expr} → ReadAt c s e p → Fetched c s (ifnot e g) (Act (IfNot g p))

coded-fetched : {c : Scope} {s : List ℕ} {j : Instr Expr} {i : Instruction} → Coded c s j i → Fetched c s j i
coded-fetched (codes-wait h n) = a-wait!
coded-fetched (codes-set h x) = a-set! x
coded-fetched (codes-later h x) = a-later! x
coded-fetched (codes-go h) = a-go
coded-fetched (codes-ifnot h x) = an-ifnot x

-- ---- an accepted sheet

abbrev pub AllFetched : List ℕ → List ℕ → Module Expr → Type 0
AllFetched s code m =
    (i p : ℕ) → i < length m.threads → p < length (code_of m i)
    → Fetched m.scope s (instr_at (code_of m i) p) (fetch_at s code i p)

module _ (s code : List ℕ) (r : Sheet ℕ) (h : read_sheet (located s) s ≡ ok r) (long : length code ≡ 4096) where
  pub fetched : (m : Module Expr) → read s ≡ ok m → AllFetched s (compile_at s (definitions_of r.definitions) (length r.contents.threads) r.body code).code m
  unfolding code_of instr_at
  fetched m e i p l q = coded-fetched (coded s code r m h e long i p l q)
