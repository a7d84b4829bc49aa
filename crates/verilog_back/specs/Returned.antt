-- What comes back when the printed Verilog of a module is read. "`@` and what follows are a sequence" (document 02, request [1]), so a
-- wait that opens no sequence comes back as a sequence of the wait and an empty statement; all else is as it was.
use Rattle.std.specs.Prelude.{Bool, true, false, ◌&&◌, List, [], ◌∷◌, map, ℕ, zero, suc, ◌≤◌, length}
use Rattle.values.specs.Values.{pick}
use Rattle.sheet.specs.Expression.{Expr}
use Rattle.sheet.specs.Statement.{Stmt, empty, assign, later, sequence, if_then, if_else, while, forever, wait}
use Rattle.sheet.specs.Module.{Module}
use Rattle.encoding.specs.Encoding.{encode}
use Rattle.pseudocode.specs.Translation.{Instr, thread_code}

unfoldable pub is_wait : Stmt Expr → Bool
is_wait empty = false
is_wait (assign t e) = false
is_wait (later t e) = false
is_wait (sequence a b) = false
is_wait (if_then e a) = false
is_wait (if_else e a b) = false
is_wait (while e a) = false
is_wait (forever a) = false
is_wait (wait ts) = true

unfoldable pub returned : Stmt Expr → Stmt Expr
returned empty = empty
returned (assign t e) = assign t e
returned (later t e) = later t e
returned (sequence a b) = sequence (pick (is_wait a) a (returned a)) (returned b)
returned (if_then e a) = if_then e (returned a)
returned (if_else e a b) = if_else e (returned a) (returned b)
returned (while e a) = while e (returned a)
returned (forever a) = forever (returned a)
returned (wait ts) = sequence (wait ts) empty

unfoldable pub returned_module : Module Expr → Module Expr
returned_module m = record { scope = m.scope; wires = m.wires; threads = map returned m.threads }

-- ---- what is added can pass two limits: "At most 8,192 bytes", "Depth at most 64"

-- Is a statement of depth at most so many?
unfoldable pub Shallow : ℕ → Stmt Expr → Type 0
Shallow zero b = ⊥
Shallow (suc d) empty = Unit {0}
Shallow (suc d) (assign t e) = Unit {0}
Shallow (suc d) (later t e) = Unit {0}
Shallow (suc d) (sequence a b) = Shallow d a × Shallow d b
Shallow (suc d) (if_then e a) = Shallow d a
Shallow (suc d) (if_else e a b) = Shallow d a × Shallow d b
Shallow (suc d) (while e a) = Shallow d a
Shallow (suc d) (forever a) = Shallow d a
Shallow (suc d) (wait ts) = Unit {0}

unfoldable pub AllShallow : List (Stmt Expr) → Type 0
AllShallow [] = Unit {0}
AllShallow (b ∷ bs) = Shallow 64 b × AllShallow bs

unfoldable pub Fits : Module Expr → Type 0
Fits m = (length (encode (returned_module m)) ≤ 8192) × AllShallow (map returned m.threads)

-- Does every wait open a sequence?
unfoldable pub opens : Stmt Expr → Bool
opens empty = true
opens (assign t e) = true
opens (later t e) = true
opens (sequence a b) = pick (is_wait a) true (opens a) && opens b
opens (if_then e a) = opens a
opens (if_else e a b) = opens a && opens b
opens (while e a) = opens a
opens (forever a) = opens a
opens (wait ts) = false

unfoldable pub all_open : List (Stmt Expr) → Bool
all_open [] = true
all_open (a ∷ bs) = opens a && all_open bs

-- The pseudo-code of a module's threads.
unfoldable pub code_of : Module Expr → List (List (Instr Expr))
code_of m = map thread_code m.threads
