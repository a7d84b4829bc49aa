-- Extraction's rules (document 01, "Numbers that come from the input": "Extraction only, lowest first"): 12 to 20, each a test on
-- a module. They judge the text, unreachable parts included: each assignment, condition and wait of a thread is one instruction
-- of its code.
use Rattle.std.specs.Prelude.{ℕ, zero, suc, ◌+◌, Bool, true, false, not, ◌&&◌, ◌||◌, List, [], ◌∷◌, length, get_or, ltb, leb, eqb}
use Rattle.values.specs.declared.Edge.{Edge}
use Rattle.values.specs.declared.Edge.TheVariants.{Change, Posedge, Negedge}
use Rattle.values.specs.Values.{pick}
use Rattle.sheet.specs.declared.EdgeTerm.{EdgeTerm}
use Rattle.sheet.specs.Expression.{Expr}
use Rattle.sheet.specs.Statement.{Stmt, empty, assign, later, sequence, if_then, if_else, while, forever, wait}
use Rattle.sheet.specs.Module.{Module}
use Rattle.evaluation.specs.Evaluation.{reads}
use Rattle.pseudocode.specs.Translation.{Instr, wait!, set!, later!, go, ifnot}
use Rattle.events.specs.Cycle.{code_of, wire_expr, wire_variable, any_below, is_wait}

-- ---- what an instruction does

-- A plain assignment to variable v.
unfoldable pub sets_at : ℕ → Instr Expr → Bool
sets_at v (wait! ts) = false
sets_at v (set! t e) = eqb t v
sets_at v (later! t e) = false
sets_at v (go g) = false
sets_at v (ifnot e g) = false

-- A later assignment to variable v.
unfoldable pub defers_at : ℕ → Instr Expr → Bool
defers_at v (wait! ts) = false
defers_at v (set! t e) = false
defers_at v (later! t e) = eqb t v
defers_at v (go g) = false
defers_at v (ifnot e g) = false

-- A variable is read where it stands in an expression; a wait names variables and reads none.
unfoldable pub reads_at : ℕ → Instr Expr → Bool
reads_at v (wait! ts) = false
reads_at v (set! t e) = reads e v
reads_at v (later! t e) = reads e v
reads_at v (go g) = false
reads_at v (ifnot e g) = reads e v

-- ---- what a thread does: some instruction of its code does it

unfoldable pub any_instr : (Instr Expr → Bool) → List (Instr Expr) → Bool
any_instr f [] = false
any_instr f (i ∷ c) = f i || any_instr f c

module _ (m : Module Expr) where
  unfoldable pub plain_writes : ℕ → ℕ → Bool
  plain_writes i v = any_instr (sets_at v) (code_of m i)

  unfoldable pub defers : ℕ → ℕ → Bool
  defers i v = any_instr (defers_at v) (code_of m i)

  unfoldable pub writes : ℕ → ℕ → Bool
  writes i v = plain_writes i v || defers i v

  unfoldable pub thread_reads : ℕ → ℕ → Bool
  thread_reads i v = any_instr (reads_at v) (code_of m i)

  unfoldable pub wire_reads : ℕ → ℕ → Bool
  wire_reads k v = reads (wire_expr m k) v

  -- ---- some thread, some wire, some register

  unfoldable pub some_thread : (ℕ → Bool) → Bool
  some_thread f = any_below (length m.threads) f

  unfoldable pub some_wire : (ℕ → Bool) → Bool
  some_wire f = any_below (length m.wires) f

  -- A register by its variable's number.
  unfoldable pub some_register : (ℕ → Bool) → Bool
  some_register f = any_below m.scope.registers (λ r. f (m.scope.inputs + r))

  -- ---- "12 two threads write one register."

  unfoldable pub two_writers : Bool
  two_writers = some_register (λ v. some_thread (λ i. some_thread (λ j. not (eqb i j) && (writes i v && writes j v))))

  -- ---- "13 one written both ways."

  unfoldable pub both_ways : Bool
  both_ways = some_register (λ v. some_thread (λ i. plain_writes i v) && some_thread (λ i. defers i v))

  -- ---- "14 a register written by plain assignment and read by another thread or a wire."

  unfoldable pub read_elsewhere : ℕ → ℕ → Bool
  read_elsewhere i v = some_thread (λ j. not (eqb i j) && thread_reads j v) || some_wire (λ k. wire_reads k v)

  unfoldable pub plainly_shared : Bool
  plainly_shared = some_register (λ v. some_thread (λ i. plain_writes i v && read_elsewhere i v))

-- ---- "15 a wait other than the single posedge of input 0."

unfoldable pub is_posedge : Edge → Bool
is_posedge Change = false
is_posedge Posedge = true
is_posedge Negedge = false

unfoldable pub clock_edge : List EdgeTerm → Bool
clock_edge [] = false
clock_edge (t ∷ []) = is_posedge t.edge && eqb t.variable 0
clock_edge (t ∷ u ∷ ts) = false

unfoldable pub other_wait_at : Instr Expr → Bool
other_wait_at (wait! ts) = not (clock_edge ts)
other_wait_at (set! t e) = false
other_wait_at (later! t e) = false
other_wait_at (go g) = false
other_wait_at (ifnot e g) = false

unfoldable pub other_wait : Module Expr → Bool
other_wait m = some_thread m (λ i. any_instr other_wait_at (code_of m i))

-- ---- "16 a thread that doesn't start with a wait (a wait, a sequence whose first does, a forever whose body does)."

unfoldable pub starts_waiting : Stmt Expr → Bool
starts_waiting empty = false
starts_waiting (assign t e) = false
starts_waiting (later t e) = false
starts_waiting (sequence a b) = starts_waiting a
starts_waiting (if_then e a) = false
starts_waiting (if_else e a b) = false
starts_waiting (while e a) = false
starts_waiting (forever a) = starts_waiting a
starts_waiting (wait ts) = true

-- The statement of a thread; past the last thread the empty one.
unfoldable pub body_of : Module Expr → ℕ → Stmt Expr
body_of m i = get_or m.threads i empty

unfoldable pub starts_running : Module Expr → Bool
starts_running m = some_thread m (λ i. not (starts_waiting (body_of m i)))

-- ---- "17 a loop or thread body that doesn't surely wait (these do: a wait; a forever; a sequence with a part that does;
-- if-else with both)."

unfoldable pub surely_waits : Stmt Expr → Bool
surely_waits empty = false
surely_waits (assign t e) = false
surely_waits (later t e) = false
surely_waits (sequence a b) = surely_waits a || surely_waits b
surely_waits (if_then e a) = false
surely_waits (if_else e a b) = surely_waits a && surely_waits b
surely_waits (while e a) = false
surely_waits (forever a) = true
surely_waits (wait ts) = true

-- Do the bodies of all loops in a statement surely wait?
unfoldable pub loops_wait : Stmt Expr → Bool
loops_wait empty = true
loops_wait (assign t e) = true
loops_wait (later t e) = true
loops_wait (sequence a b) = loops_wait a && loops_wait b
loops_wait (if_then e a) = loops_wait a
loops_wait (if_else e a b) = loops_wait a && loops_wait b
loops_wait (while e a) = surely_waits a && loops_wait a
loops_wait (forever a) = surely_waits a && loops_wait a
loops_wait (wait ts) = true

-- "A thread is a forever of its statement".
unfoldable pub runs_away : Module Expr → Bool
runs_away m = some_thread m (λ i. not (loops_wait (forever (body_of m i))))

module _ (m : Module Expr) where
  -- ---- "18 clock read in an expression."

  unfoldable pub clock_read : Bool
  clock_read = some_thread m (λ i. thread_reads m i 0) || some_wire m (λ k. wire_reads m k 0)

  -- ---- "19 a wire reads itself or a higher wire."

  unfoldable pub reads_upward : Bool
  reads_upward = some_wire m (λ k. some_wire m (λ j. leb k j && wire_reads m k (wire_variable m j)))

-- ---- "20 over 32 waits."

unfoldable pub one : Bool → ℕ
one b = pick b 1 0

-- How many of a code's first n instructions are waits.
unfoldable pub waits_before : List (Instr Expr) → ℕ → ℕ
waits_before c zero = 0
waits_before c (suc n) = waits_before c n + one (is_wait (get_or c n (go 0)))

-- How many waits the first n threads have.
unfoldable pub waits_below : Module Expr → ℕ → ℕ
waits_below m zero = 0
waits_below m (suc i) = waits_below m i + waits_before (code_of m i) (length (code_of m i))

unfoldable pub many_waits : Module Expr → Bool
many_waits m = ltb 32 (waits_below m (length m.threads))

-- ---- the lowest rule that is broken, 0 where none is

unfoldable pub rule : Module Expr → ℕ
rule m =
    pick (two_writers m) 12
    (pick (both_ways m) 13
    (pick (plainly_shared m) 14
    (pick (other_wait m) 15
    (pick (starts_running m) 16
    (pick (runs_away m) 17
    (pick (clock_read m) 18
    (pick (reads_upward m) 19
    (pick (many_waits m) 20
    0))))))))
