-- The simulation cycle (document 01, "The simulation cycle", after 003, section 3.1): what is enabled, and what each choice
-- leaves.
use Rattle.std.specs.Prelude.{ℕ, zero, suc, ◌+◌, ◌-◌, Bool, true, false, not, ◌&&◌, ◌||◌, List, [], ◌∷◌, length, get_or, ltb}
use Rattle.std.proofs.Math.Option.{Option, none, some}
use Rattle.values.specs.declared.Value.{Value}
use Rattle.values.specs.Values.{pick, holds, same}
use Rattle.values.specs.Edges.{fires}
use Rattle.sheet.specs.Expression.{Expr, unknown}
use Rattle.sheet.specs.Statement.{empty}
use Rattle.sheet.specs.Module.{Module}
use Rattle.sheet.specs.declared.EdgeTerm.{EdgeTerm}
use Rattle.evaluation.specs.Evaluation.{eval, reads}
use Rattle.pseudocode.specs.Translation.{Instr, wait!, set!, later!, go, ifnot, thread_code}
use Rattle.state.specs.declared.State.{State}
unfoldable pub use Rattle.state.specs.Rows.{all_below}
use Rattle.state.specs.State.{value_of, with_value, pending_of, with_pending, without_pending, place_of, with_place, is_due, with_due}

-- ---- the module's parts, by number

unfoldable pub variables : Module Expr → ℕ
variables m = length m.scope.widths

-- The code of a thread; past the last thread that of the empty statement.
unfoldable pub code_of : Module Expr → ℕ → List (Instr Expr)
code_of m i = thread_code (get_or m.threads i empty)

-- The instruction at a place of a code; past its end `go 0`.
unfoldable pub instr_at : List (Instr Expr) → ℕ → Instr Expr
instr_at c p = get_or c p (go 0)

-- The instruction at which a thread stands.
unfoldable pub current : Module Expr → State → ℕ → Instr Expr
current m st i = instr_at (code_of m i) (place_of st i)

-- The expression of a wire; past the last wire one that reads nothing.
unfoldable pub wire_expr : Module Expr → ℕ → Expr
wire_expr m k = get_or m.wires k (unknown 1)

unfoldable pub wire_variable : Module Expr → ℕ → ℕ
wire_variable m k = m.scope.inputs + m.scope.registers + k

-- ---- some, all: does a test hold of some number below n? Of every number below n: `all_below`, of `state`.

unfoldable pub any_below : ℕ → (ℕ → Bool) → Bool
any_below zero f = false
any_below (suc n) f = any_below n f || f n

-- ---- enabled: "A thread is enabled off a wait, a wire when due."

unfoldable pub is_wait : {E : Type 0} → Instr E → Bool
is_wait (wait! ts) = true
is_wait (set! t e) = false
is_wait (later! t e) = false
is_wait (go g) = false
is_wait (ifnot e g) = false

unfoldable pub thread_enabled : Module Expr → State → ℕ → Bool
thread_enabled m st i = not (is_wait (current m st i))

-- "Items are threads, then wires, numbered from 0."
unfoldable pub items : Module Expr → ℕ
items m = length m.threads + length m.wires

unfoldable pub enabled : Module Expr → State → ℕ → Bool
enabled m st c = pick (ltb c (length m.threads)) (thread_enabled m st c) (is_due st (c - length m.threads))

unfoldable pub any_enabled : Module Expr → State → Bool
any_enabled m st = any_below (items m) (enabled m st)

unfoldable pub is_some : Option Value → Bool
is_some none = false
is_some (some a) = true

unfoldable pub any_pending : Module Expr → State → Bool
any_pending m st = any_below m.scope.registers (λ r. is_some (pending_of st r))

-- "Quiet: nothing enabled, nothing pending."
unfoldable pub quiet : Module Expr → State → Bool
quiet m st = not (any_enabled m st || any_pending m st)

-- ---- a change of values, from f to g: "fires the waits and marks the wires that read a changed variable"

-- "Storing an equal value is no change."
unfoldable pub changed : (ℕ → Value) → (ℕ → Value) → ℕ → Bool
changed f g v = not (same (f v) (g v))

-- A wait fires if one of its terms does.
unfoldable pub terms_fire : List EdgeTerm → (ℕ → Value) → (ℕ → Value) → Bool
terms_fire [] f g = false
terms_fire (t ∷ ts) f g = fires t.edge (f t.variable) (g t.variable) || terms_fire ts f g

unfoldable pub wait_fires : Instr Expr → (ℕ → Value) → (ℕ → Value) → Bool
wait_fires (wait! ts) f g = terms_fire ts f g
wait_fires (set! t e) f g = false
wait_fires (later! t e) f g = false
wait_fires (go h) f g = false
wait_fires (ifnot e h) f g = false

-- The waits of the threads below n fired: a thread at a wait that fires goes on to the next place, any other stays.
unfoldable pub fire_below : Module Expr → (ℕ → Value) → (ℕ → Value) → ℕ → State → State
fire_below m f g zero st = st
fire_below m f g (suc n) st =
    let u = fire_below m f g n st in
    pick (wait_fires (current m u n) f g) (with_place u n (place_of u n + 1)) u

-- Does the expression read a changed variable?
unfoldable pub touched : Module Expr → Expr → (ℕ → Value) → (ℕ → Value) → Bool
touched m e f g = any_below (variables m) (λ v. reads e v && changed f g v)

-- The wires below n marked: one that reads a changed variable is due.
unfoldable pub mark_below : Module Expr → (ℕ → Value) → (ℕ → Value) → ℕ → State → State
mark_below m f g zero st = st
mark_below m f g (suc n) st =
    let u = mark_below m f g n st in
    pick (touched m (wire_expr m n) f g) (with_due u n true) u

-- What follows a change of values. The state holds the values after it; f are those before it.
unfoldable pub react : Module Expr → (ℕ → Value) → State → State
react m f st =
    mark_below m f (value_of st) (length m.wires)
    (fire_below m f (value_of st) (length m.threads) st)

-- ---- one instruction of a thread i, which stands at place p: "the instruction is taken apart and run"

-- IEEE 1364 decides over 003: a condition holds if known and not zero (003 tests for 1). An assignment doesn't fire the wait
-- its own thread arrives at by it: the thread goes on after the waits have been fired.
unfoldable pub run_instr : Module Expr → ℕ → ℕ → Instr Expr → State → State
run_instr m i p (wait! ts) st = st
run_instr m i p (set! t e) st = with_place (react m (value_of st) (with_value st t (eval (value_of st) e))) i (p + 1)
run_instr m i p (later! t e) st = with_place (with_pending st (t - m.scope.inputs) (eval (value_of st) e)) i (p + 1)
run_instr m i p (go g) st = with_place st i g
run_instr m i p (ifnot e g) st = with_place st i (pick (holds (eval (value_of st) e)) (p + 1) g)

unfoldable pub run_thread : Module Expr → ℕ → State → State
run_thread m i st = run_instr m i (place_of st i) (current m st i) st

-- ---- one due wire: "mark cleared, expression stored"

-- IEEE 1364 decides over 003: the wire returns to waiting in the same choice (003's separate `go` can lose a change). The mark
-- is cleared before the store, so that a wire that reads itself is marked again by its own change.
unfoldable pub run_wire : Module Expr → ℕ → State → State
run_wire m k st =
    react m (value_of st)
    (with_value (with_due st k false) (wire_variable m k) (eval (value_of st) (wire_expr m k)))

-- ---- the commit: "commits all pending later assignments together as one change"

-- A register's pending value stored, and the register left without one.
unfoldable pub store_one : ℕ → ℕ → Option Value → State → State
store_one v r none st = st
store_one v r (some a) st = without_pending (with_value st v a) r

unfoldable pub store_pending : Module Expr → ℕ → State → State
store_pending m zero st = st
store_pending m (suc n) st =
    let u = store_pending m n st in
    store_one (m.scope.inputs + n) n (pending_of u n) u

unfoldable pub commit : Module Expr → State → State
commit m st = react m (value_of st) (store_pending m m.scope.registers st)

-- ---- the inputs of an instant: "sets all inputs (x allowed) as one change"

unfoldable pub store_inputs : (ℕ → Value) → ℕ → State → State
store_inputs a zero st = st
store_inputs a (suc n) st = with_value (store_inputs a n st) n (a n)

unfoldable pub feed : Module Expr → (ℕ → Value) → State → State
feed m a st = react m (value_of st) (store_inputs a m.scope.inputs st)
