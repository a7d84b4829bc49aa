-- What is said of a thread is what it means (document 02, [10]; crate meaning): what lies ahead, run from any values, makes the writes of
-- the meaning of what remains to do there, in the same order, and stops at a wait for the same edges exactly where the meaning does.
-- proofs/Meant proves it.
use Rattle.std.specs.Prelude.{ℕ, ◌+◌, ◌≡◌, List, [], ◌∷◌, ◌++◌}
use Rattle.std.proofs.Math.Option.{Option, none, some}
use Rattle.values.specs.declared.Value.{Value}
use Rattle.values.specs.Values.{pick, holds, ◌is◌then◌else◌}
use Rattle.sheet.specs.declared.EdgeTerm.{EdgeTerm}
use Rattle.sheet.specs.Expression.{Expr}
use Rattle.sheet.specs.Statement.{Stmt, empty, assign, later, sequence, if_then, if_else, while, forever, wait, size}
use Rattle.pseudocode.specs.Filling.{after}
use Rattle.evaluation.specs.Evaluation.{eval}
use Rattle.meaning.specs.Meaning.{Write, stored, deferred, values_after, Course, ends, stops, meaning}
use Rattle.meaning.specs.Thread.{behind}
use Rattle.explaining.specs.Explaining.{counted, Ahead, nothing, sets, defers, both, when, choice, stop, going}
use Rattle.explaining.specs.Explaining.{Search, absent, found, behind as remaining}

-- ---- a course as far as it is said: its writes, and the edges that it waits for where it stops

pub data Passage : Type 0 where
  passes : List Write → Passage
  halts : List Write → List EdgeTerm → Passage

unfoldable pub shape : Course → Passage
shape (ends ws) = passes ws
shape (stops ws ts r) = halts ws ts

-- With writes made before it.
unfoldable pub preceded : List Write → Passage → Passage
preceded ws (passes us) = passes (ws ++ us)
preceded ws (halts us ts) = halts (ws ++ us) ts

-- A passage, and where it passes what is done then.
unfoldable pub onward : Passage → (List Write → Passage) → Passage
onward (passes ws) next = preceded ws (next ws)
onward (halts ws ts) next = halts ws ts

-- ---- course: what lies ahead, run from the values f

unfoldable pub course : Ahead → (ℕ → Value) → Passage
course nothing f = passes []
course (sets t e) f = passes (stored t (eval f e) ∷ [])
course (defers t e) f = passes (deferred t (eval f e) ∷ [])
course (both a b) f = onward (course a f) (λ ws. course b (values_after f ws))
course (when e a) f = pick (holds (eval f e)) (course a f) (passes [])
course (choice e a b) f = pick (holds (eval f e)) (course a f) (course b f)
course (stop n ts) f = halts [] ts

-- ---- the place of wait k of a statement, places counted from the statement's first

unfoldable pub beyond : ℕ → Option ℕ → Option ℕ
beyond n none = none
beyond n (some p) = some (n + p)

unfoldable pub either : Option ℕ → Option ℕ → Option ℕ
either none b = b
either (some p) b = some p

unfoldable pub placed : ℕ → ℕ → Stmt Expr → Option ℕ
placed k n empty = none
placed k n (assign t e) = none
placed k n (later t e) = none
placed k n (sequence a b) = either (placed k n a) (beyond (size a) (placed k (counted n a) b))
placed k n (if_then e a) = beyond 1 (placed k n a)
placed k n (if_else e a b) = either (beyond 1 (placed k n a)) (beyond (2 + size a) (placed k (counted n a) b))
placed k n (while e a) = beyond 1 (placed k n a)
placed k n (forever a) = placed k n a
placed k n (wait ts) = after n is k then some 0 else none

-- ---- the claim

-- Behind a wait at place p remains `behind s p` (crate meaning).
unfoldable pub Tied : Stmt Expr → (ℕ → Value) → Search → Option ℕ → Type 0
Tied s f absent none = Unit {0}
Tied s f absent (some p) = ⊥
Tied s f (found a) none = ⊥
Tied s f (found a) (some p) = course a f ≡ shape (meaning (behind s p) f)

pub record AsMeant (s : Stmt Expr) (f : ℕ → Value) : Type 0 where
  pub from_start : (n : ℕ) → course (going n s) f ≡ shape (meaning s f)
  pub from-wait : (k n : ℕ) → Tied s f (remaining k n s) (placed k n s)
