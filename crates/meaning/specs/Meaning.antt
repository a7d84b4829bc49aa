-- The thread as written (document 02, [10]): what a statement means, "over the tree and without places or jumps: from a state it
-- either ends or stops at a wait with what remains to do". Of a state it looks at the variables' values. It is meant for each
-- "statement whose loop bodies surely wait (rule 17)".
use Rattle.std.specs.Prelude.{ℕ, ◌≡◌, true, List, [], ◌∷◌, ◌++◌}
use Rattle.values.specs.declared.Value.{Value}
use Rattle.values.specs.Values.{pick, holds}
use Rattle.sheet.specs.declared.EdgeTerm.{EdgeTerm}
use Rattle.sheet.specs.Expression.{Expr}
use Rattle.sheet.specs.Statement.{Stmt, empty, assign, later, sequence, if_then, if_else, while, forever, wait}
use Rattle.evaluation.specs.Evaluation.{eval}
use Rattle.nextstate.specs.Rules.{surely_waits, loops_wait}
use Rattle.nextstate.specs.Book.{put}

-- ---- "the same stores and pending values in the same order"

-- A store of a variable, or a pending value for one.
pub data Write : Type 0 where
  stored : ℕ → Value → Write
  deferred : ℕ → Value → Write

-- The values after some writes. A pending value changes none.
unfoldable pub values_after : (ℕ → Value) → List Write → ℕ → Value
values_after f [] = f
values_after f (stored t a ∷ ws) = values_after (put f t a) ws
values_after f (deferred t a ∷ ws) = values_after f ws

-- ---- "it either ends or stops at a wait with what remains to do"

pub data Course : Type 0 where
  ends : List Write → Course
  stops : List Write → List EdgeTerm → Stmt Expr → Course

-- A course with writes made before it.
unfoldable pub prefixed : List Write → Course → Course
prefixed ws (ends us) = ends (ws ++ us)
prefixed ws (stops us ts r) = stops (ws ++ us) ts r

-- A course and then statement b. Where the course ends, b is done, `next` telling its course after some writes; where it stops at a
-- wait, b remains to do as well.
unfoldable pub followed : Course → Stmt Expr → (List Write → Course) → Course
followed (ends ws) b next = prefixed ws (next ws)
followed (stops ws ts r) b next = stops ws ts (sequence r b)

-- Nothing is done.
unfoldable pub nothing : List Write → Course
nothing ws = ends []

-- ---- meaning: the course of a statement from the values f

-- "A condition holds if some known bit is 1" (document 02, [4]). A loop's body surely waits, so that it stops before the loop comes round (SureStop).
unfoldable pub meaning : Stmt Expr → (ℕ → Value) → Course
meaning empty f = ends []
meaning (assign t e) f = ends (stored t (eval f e) ∷ [])
meaning (later t e) f = ends (deferred t (eval f e) ∷ [])
meaning (sequence a b) f = followed (meaning a f) b (λ ws. meaning b (values_after f ws))
meaning (if_then e a) f = pick (holds (eval f e)) (meaning a f) (ends [])
meaning (if_else e a b) f = pick (holds (eval f e)) (meaning a f) (meaning b f)
meaning (while e a) f = pick (holds (eval f e)) (followed (meaning a f) (while e a) nothing) (ends [])
meaning (forever a) f = followed (meaning a f) (forever a) nothing
meaning (wait ts) f = stops [] ts empty

-- Rule 17 makes a statement that surely waits stop: it doesn't end. proofs/Statements proves it.
abbrev pub SureStop : Type 0
SureStop =
    (s : Stmt Expr) → surely_waits s ≡ true → loops_wait s ≡ true → (f : ℕ → Value) (ws : List Write) → meaning s f ≡ ends ws → ⊥
