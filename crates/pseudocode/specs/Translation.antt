-- The translation of statements to pseudo-code: source document 003, section 2.5, in document 01's shapes.
-- E is what stands for an expression: its tree, or its place in the sheet.
use Rattle.std.specs.Prelude.{ℕ, ◌+◌, List, [], ◌∷◌, ◌++◌}
use Rattle.sheet.specs.Statement.{Stmt, empty, assign, later, sequence, if_then, if_else, while, forever, wait, size}
use Rattle.sheet.specs.declared.EdgeTerm.{EdgeTerm}

-- 003, section 2.1, without `disable`.
pub data Instr (E : Type 0) : Type 0 where
  wait! : List EdgeTerm → Instr E
  set! : ℕ → E → Instr E
  later! : ℕ → E → Instr E
  go : ℕ → Instr E
  ifnot : E → ℕ → Instr E

-- The instructions of a statement whose first one stands at place n. "At place n, with body sizes s and t:
-- if is `ifnot E go n+1+s`; if-else is `ifnot E go n+2+s`, first body, `go n+2+s+t`, second;
-- while is `ifnot E go n+s+2`, body, `go n`; forever is body, `go n`."
unfoldable pub translate : {E : Type 0} → Stmt E → ℕ → List (Instr E)
translate empty n = []
translate (assign t e) n = set! t e ∷ []
translate (later t e) n = later! t e ∷ []
translate (sequence a b) n = translate a n ++ translate b (n + size a)
translate (if_then e a) n = ifnot e (n + 1 + size a) ∷ translate a (n + 1)
translate (if_else e a b) n =
    ifnot e (n + 2 + size a) ∷ (translate a (n + 1) ++ (go (n + 2 + size a + size b) ∷ translate b (n + 2 + size a)))
translate (while e a) n = ifnot e (n + size a + 2) ∷ (translate a (n + 1) ++ (go n ∷ []))
translate (forever a) n = translate a n ++ (go n ∷ [])
translate (wait ts) n = wait! ts ∷ []

-- "A thread is a forever of its statement".
unfoldable pub thread_code : {E : Type 0} → Stmt E → List (Instr E)
thread_code a = translate (forever a) 0

-- The instruction with f of its expression.
unfoldable pub map_instr : {D E : Type 0} → (D → E) → Instr D → Instr E
map_instr f (wait! ts) = wait! ts
map_instr f (set! t e) = set! t (f e)
map_instr f (later! t e) = later! t (f e)
map_instr f (go n) = go n
map_instr f (ifnot e n) = ifnot (f e) n
