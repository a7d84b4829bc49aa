-- A thread explained: for its start, and behind each of its waits, what it does up to its next wait, as statements (document 02, [10]:
-- "Our reviewers read statements, never places."). It is the meaning of what remains to do there (crate meaning), printed: up to the
-- next wait no loop comes round, so that a `while` is an `if`, a `forever` its body, and what stands behind a part that surely waits
-- falls away.
use Rattle.std.specs.Prelude.{ℕ, zero, suc, ◌+◌, Bool, true, false, ◌&&◌, ◌||◌, List, []}
use Rattle.values.specs.Values.{pick, ◌is◌then◌else◌}
use Rattle.sheet.specs.declared.EdgeTerm.{EdgeTerm}
use Rattle.sheet.specs.Reading.{Res, ok, no}
use Rattle.sheet.specs.Expression.{Expr}
use Rattle.sheet.specs.Statement.{Stmt, empty, assign, later, sequence, if_then, if_else, while, forever, wait}
use Rattle.sheet.specs.Module.{Module, read}
use Rattle.pseudocode.specs.Filling.{after}
use Rattle.nextstate.specs.Rules.{body_of, loops_wait}
use Rattle.writing.specs.Ascii.{ascii}
use Rattle.writing.specs.Numbers.{decimal}
use Rattle.writing.specs.Buffer.{filled, puts}
use Rattle.naming.specs.Naming.{name_of}
use Rattle.verilog.specs.Verilog.{◌&◌, indent, expr_text, terms_text, Answer, answer}

-- ---- waits are numbered by thread, as they stand in the text, from 1

-- The number after a statement's last wait, n being the number before its first. A thread has at most 256 instructions, so that its
-- numbers stay below 256, where `after n` is n + 1.
unfoldable pub counted : ℕ → Stmt Expr → ℕ
counted n empty = n
counted n (assign t e) = n
counted n (later t e) = n
counted n (sequence a b) = counted (counted n a) b
counted n (if_then e a) = counted n a
counted n (if_else e a b) = counted (counted n a) b
counted n (while e a) = counted n a
counted n (forever a) = counted n a
counted n (wait ts) = after n

-- ---- what lies ahead up to the next wait: statements without a loop, in which a wait has its number

pub data Ahead : Type 0 where
  nothing : Ahead
  sets : ℕ → Expr → Ahead
  defers : ℕ → Expr → Ahead
  both : Ahead → Ahead → Ahead
  when : Expr → Ahead → Ahead
  choice : Expr → Ahead → Ahead → Ahead
  stop : ℕ → List EdgeTerm → Ahead

-- Does it stop at a wait, whatever its conditions are?
unfoldable pub stopping : Ahead → Bool
stopping nothing = false
stopping (sets t e) = false
stopping (defers t e) = false
stopping (both a b) = stopping a || stopping b
stopping (when e a) = false
stopping (choice e a b) = stopping a && stopping b
stopping (stop n ts) = true

-- One and then the other. What stands behind a part that surely stops falls away.
unfoldable pub joined : Ahead → Ahead → Ahead
joined a b = pick (stopping a) a (both a b)

-- What a statement does from its beginning up to its next wait, n being the number before its first wait.
unfoldable pub going : ℕ → Stmt Expr → Ahead
going n empty = nothing
going n (assign t e) = sets t e
going n (later t e) = defers t e
going n (sequence a b) = joined (going n a) (going (counted n a) b)
going n (if_then e a) = when e (going n a)
going n (if_else e a b) = choice e (going n a) (going (counted n a) b)
going n (while e a) = when e (going n a)
going n (forever a) = going n a
going n (wait ts) = stop (after n) ts

-- ---- what it does behind its wait k, if that wait is in it

pub data Search : Type 0 where
  absent : Search
  found : Ahead → Search

-- With what is done then, where the wait was found.
unfoldable pub followed : Search → Ahead → Search
followed absent b = absent
followed (found a) b = found (joined a b)

-- The first that was found.
unfoldable pub first : Search → Search → Search
first absent b = b
first (found a) b = found a

unfoldable pub behind : ℕ → ℕ → Stmt Expr → Search
behind k n empty = absent
behind k n (assign t e) = absent
behind k n (later t e) = absent
behind k n (sequence a b) = first (followed (behind k n a) (going (counted n a) b)) (behind k (counted n a) b)
behind k n (if_then e a) = behind k n a
behind k n (if_else e a b) = first (behind k n a) (behind k (counted n a) b)
behind k n (while e a) = followed (behind k n a) (when e (going n a))
behind k n (forever a) = followed (behind k n a) (going n a)
behind k n (wait ts) = after n is k then found nothing else absent

-- What a thread does from its wait k on, from its start for 0. "A thread is a forever of its statement".
unfoldable pub ahead : ℕ → Stmt Expr → Search
ahead k b = k is 0 then found (going 0 (forever b)) else behind k 0 (forever b)

-- ---- the text

unfoldable pub heading_text : ℕ → List ℕ
heading_text k = k is 0 then ascii "  from the start:\n" else ascii "  from wait " & decimal k & ascii ":\n"

-- name gives a variable's name.

module _ (name : ℕ → List ℕ) where
  -- n levels in.
  unfoldable pub ahead_text : ℕ → Ahead → List ℕ
  ahead_text n nothing = []
  ahead_text n (sets t e) = indent n & name t & ascii " = " & expr_text name e & ascii ";\n"
  ahead_text n (defers t e) = indent n & name t & ascii " <= " & expr_text name e & ascii ";\n"
  ahead_text n (both a b) = ahead_text n a & ahead_text n b
  ahead_text n (when e a) =
      indent n & ascii "if (" & expr_text name e & ascii ") begin\n"
      & ahead_text (n + 1) a
      & indent n & ascii "end\n"
  ahead_text n (choice e a b) =
      indent n & ascii "if (" & expr_text name e & ascii ") begin\n"
      & ahead_text (n + 1) a
      & indent n & ascii "end else begin\n"
      & ahead_text (n + 1) b
      & indent n & ascii "end\n"
  ahead_text n (stop k ts) = indent n & ascii "@(" & terms_text name 0 ts & ascii "); // wait " & decimal k & ascii "\n"

  unfoldable pub search_text : Search → List ℕ
  search_text absent = []
  search_text (found a) = ahead_text 2 a

  -- From its wait k on, from its start for 0.
  unfoldable pub point_text : ℕ → Stmt Expr → List ℕ
  point_text k b = heading_text k & search_text (ahead k b)

  -- n points, from the kth on.
  unfoldable pub points_text : ℕ → ℕ → Stmt Expr → List ℕ
  points_text zero k b = []
  points_text (suc n) k b = point_text k b & points_text n (k + 1) b

  -- Thread i, whose statement is b: its start and each of its waits.
  unfoldable pub thread_text : ℕ → Stmt Expr → List ℕ
  thread_text i b = ascii "thread " & decimal i & ascii "\n" & point_text 0 b & points_text (counted 0 b) 1 b

-- ---- what the call gives for thread i: number 0 and the text at the front of the buffer; or the number of the sheet's refusal, or 17
-- for a thread that doesn't meet rule 17 and where there is no such thread, and the buffer as it was. What would pass the buffer's end
-- isn't put.

unfoldable pub explained_in : List ℕ → List ℕ → ℕ → Res (Module Expr) → Answer
explained_in names buffer i (ok m) =
    pick (loops_wait (forever (body_of m i)))
    (answer 0 (puts (filled buffer 0) (thread_text (name_of names) i (body_of m i))))
    (answer 17 (filled buffer 0))
explained_in names buffer i (no n p) = answer n (filled buffer 0)

unfoldable pub explained : List ℕ → List ℕ → List ℕ → ℕ → Answer
explained s names buffer i = explained_in names buffer i (read s)
