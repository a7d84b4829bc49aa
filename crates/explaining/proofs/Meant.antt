-- What is said of a thread is what it means. Assumes nothing.
use Prim.Native.Nat.{ℕ, ◌+◌, ◌-◌, ◌≤◌, ◌<◌}
use native.Mathlib.Omega.{arith}
use mathlib.Core.Path.{◌≡◌, refl, sym, ap, ◌∙◌, subst}
use mathlib.Core.Bool.{Bool, true, false}
use mathlib.Core.List.{List, [], append-nil}
use mathlib.Core.Option.{Option, none, some}
use lib.Dec.{eqb}
use borrow.Author.Tests.{lt-ltb, le-ltb}
use Rattle.values.specs.declared.Value.{Value}
use Rattle.values.specs.Values.{pick, holds}
use Rattle.sheet.specs.declared.EdgeTerm.{EdgeTerm}
use Rattle.sheet.specs.Expression.{Expr}
use Rattle.sheet.specs.Statement.{Stmt, empty, assign, later, sequence, if_then, if_else, while, forever, wait, size}
use Rattle.pseudocode.specs.Filling.{after}
use Rattle.evaluation.specs.Evaluation.{eval}
use Rattle.events.proofs.Cycle.{absurd-bool, and_left, and_right}
use Rattle.nextstate.proofs.Ruled.{or-either}
use Rattle.meaning.specs.Meaning.{Write, values_after, Course, ends, stops, prefixed, followed as continued, nothing as idle, meaning}
use Rattle.meaning.specs.Thread.{behind}
use Rattle.explaining.specs.Explaining.{counted, Ahead, nothing, sets, defers, both, when, choice, stop, stopping, joined, going}
use Rattle.explaining.specs.Explaining.{Search, absent, found, followed, first, behind as remaining}
use Rattle.explaining.specs.Meant.{Passage, passes, halts, shape, preceded, onward, course, beyond, either, placed, Tied, AsMeant}

-- ---- what surely stops goes no further

abbrev Halts : Passage → Type 0
Halts (passes ws) = ⊥
Halts (halts ws ts) = Unit {0}

preceded-halts : (ws : List Write) (x : Passage) → Halts x → Halts (preceded ws x)
unfolding preceded
preceded-halts ws (passes us) h = absurd h
preceded-halts ws (halts us ts) h = tt

onward-first : (x : Passage) (next : List Write → Passage) → Halts x → Halts (onward x next)
unfolding onward
onward-first (passes ws) next h = absurd h
onward-first (halts ws ts) next h = tt

onward-next : (x : Passage) (next : List Write → Passage) → ((ws : List Write) → Halts (next ws)) → Halts (onward x next)
unfolding onward
onward-next (passes ws) next h = preceded-halts ws (next ws) (h ws)
onward-next (halts ws ts) next h = tt

pick-halts : (t : Bool) (x y : Passage) → Halts x → Halts y → Halts (pick t x y)
pick-halts true x y h k = h
pick-halts false x y h k = k

stopping-halts : (a : Ahead) → stopping a ≡ true → (f : ℕ → Value) → Halts (course a f)
unfolding stopping course
stopping-halts nothing h f = absurd-bool h refl
stopping-halts (sets t e) h f = absurd-bool h refl
stopping-halts (defers t e) h f = absurd-bool h refl
stopping-halts (both a b) h f =
    or-either (stopping a) (stopping b) h (λ z. onward-first (course a f) _ (stopping-halts a z f))
    (λ z. onward-next (course a f) _ (λ ws. stopping-halts b z (values_after f ws)))
stopping-halts (when e a) h f = absurd-bool h refl
stopping-halts (choice e a b) h f =
    pick-halts (holds (eval f e)) (course a f) (course b f) (stopping-halts a (and_left (stopping a) (stopping b) h) f)
    (stopping-halts b (and_right (stopping a) (stopping b) h) f)
stopping-halts (stop n ts) h f = tt

no-further : (x : Passage) (next : List Write → Passage) → Halts x → x ≡ onward x next
unfolding onward
no-further (passes ws) next h = absurd h
no-further (halts ws ts) next h = refl

-- ---- one and then the other

joined-course : (a b : Ahead) (f : ℕ → Value) → course (joined a b) f ≡ onward (course a f) (λ ws. course b (values_after f ws))
unfolding joined course
joined-course a b f = by (stopping a) refl
  where
    by : (z : Bool) → stopping a ≡ z → course (pick z a (both a b)) f ≡ onward (course a f) (λ ws. course b (values_after f ws))
    by true e = no-further (course a f) _ (stopping-halts a e f)
    by false e = refl

shape-prefixed : (ws : List Write) (x : Course) → preceded ws (shape x) ≡ shape (prefixed ws x)
unfolding preceded shape prefixed
shape-prefixed ws (ends us) = refl
shape-prefixed ws (stops us ts r) = refl

shape-continued : (x : Course) (b : Stmt Expr) (next : List Write → Course) → onward (shape x) (λ ws. shape (next ws)) ≡ shape
    (continued x b next)
unfolding onward shape continued
shape-continued (ends ws) b next = shape-prefixed ws (next ws)
shape-continued (stops ws ts r) b next = refl

-- A loop that ends its round.
shape-round : (x : Course) (b : Stmt Expr) → shape x ≡ shape (continued x b idle)
unfolding shape continued prefixed idle
shape-round (ends ws) b = ap passes (sym (append-nil ws))
shape-round (stops ws ts r) b = refl

shape-pick : (t : Bool) (x y : Course) → pick t (shape x) (shape y) ≡ shape (pick t x y)
shape-pick true x y = refl
shape-pick false x y = refl

-- One that is said as x means, and then one that is said as statement b means.
module _ (a b : Ahead) (x y : Stmt Expr) (f : ℕ → Value) where
  then-meant : course a f ≡ shape (meaning x f) → ((g : ℕ → Value) → course b g ≡ shape (meaning y g))
      → course (joined a b) f ≡ shape (meaning (sequence x y) f)
  unfolding meaning
  then-meant h k =
      joined-course a b f
      ∙ (λ j. onward (h j) (λ ws. k (values_after f ws) j))
      ∙ shape-continued (meaning x f) y (λ ws. meaning y (values_after f ws))

-- ---- from its beginning

pub going-meant : (s : Stmt Expr) (n : ℕ) (f : ℕ → Value) → course (going n s) f ≡ shape (meaning s f)
unfolding going course meaning shape
going-meant empty n f = refl
going-meant (assign t e) n f = refl
going-meant (later t e) n f = refl
going-meant (sequence a b) n f =
    then-meant (going n a) (going (counted n a) b) a b f (going-meant a n f) (λ g. going-meant b (counted n a) g)
going-meant (if_then e a) n f =
    ap (λ (x : Passage). pick (holds (eval f e)) x (passes [])) (going-meant a n f)
    ∙ shape-pick (holds (eval f e)) (meaning a f) (ends [])
going-meant (if_else e a b) n f =
    (λ j. pick (holds (eval f e)) (going-meant a n f j) (going-meant b (counted n a) f j))
    ∙ shape-pick (holds (eval f e)) (meaning a f) (meaning b f)
going-meant (while e a) n f =
    ap (λ (x : Passage). pick (holds (eval f e)) x (passes [])) (going-meant a n f ∙ shape-round (meaning a f) (while e a))
    ∙ shape-pick (holds (eval f e)) (continued (meaning a f) (while e a) idle) (ends [])
going-meant (forever a) n f = going-meant a n f ∙ shape-round (meaning a f) (forever a)
going-meant (wait ts) n f = refl

round : (e : Expr) (a : Stmt Expr) (n : ℕ) (f : ℕ → Value) → course (when e (going n a)) f ≡ shape (meaning (while e a) f)
unfolding going
round e a n f = going-meant (while e a) n f

endless : (a : Stmt Expr) (n : ℕ) (f : ℕ → Value) → course (going n a) f ≡ shape (meaning (forever a) f)
unfolding going
endless a n f = going-meant (forever a) n f

-- ---- behind a wait

-- The place of a wait lies in its statement.
unfoldable Below : ℕ → Option ℕ → Type 0
Below m none = Unit {0}
Below m (some p) = p < m

below-either : (m : ℕ) (x y : Option ℕ) → Below m x → Below m y → Below m (either x y)
unfolding Below either
below-either m none y h k = k
below-either m (some p) y h k = h

below-beyond : (n i m : ℕ) (x : Option ℕ) → n + i ≤ m → Below i x → Below m (beyond n x)
unfolding Below beyond
below-beyond n i m none l h = tt
below-beyond n i m (some p) l h = omega arith

below_wider : (n m : ℕ) (x : Option ℕ) → n ≤ m → Below n x → Below m x
unfolding Below
below_wider n m none l h = tt
below_wider n m (some p) l h = omega arith

below-first : (z : Bool) → Below 1 (pick z (some 0) none)
unfolding Below
below-first true = omega arith
below-first false = tt

placed_below : (k n : ℕ) (s : Stmt Expr) → Below (size s) (placed k n s)
unfolding placed size Below
placed_below k n empty = tt
placed_below k n (assign t e) = tt
placed_below k n (later t e) = tt
placed_below k n (sequence a b) =
    below-either (size a + size b) (placed k n a) _ (below_wider (size a) (size a + size b) (placed k n a) (omega arith)
    (placed_below k n a))
    (below-beyond (size a) (size b) (size a + size b) (placed k (counted n a) b) (omega arith) (placed_below k (counted n a) b))
placed_below k n (if_then e a) = below-beyond 1 (size a) (size a + 1) (placed k n a) (omega arith) (placed_below k n a)
placed_below k n (if_else e a b) =
    below-either (size a + size b + 2) (beyond 1 (placed k n a)) _
    (below-beyond 1 (size a) (size a + size b + 2) (placed k n a) (omega arith) (placed_below k n a))
    (below-beyond (2 + size a) (size b) (size a + size b + 2) (placed k (counted n a) b) (omega arith) (placed_below k (counted n a) b))
placed_below k n (while e a) = below-beyond 1 (size a) (size a + 2) (placed k n a) (omega arith) (placed_below k n a)
placed_below k n (forever a) = below_wider (size a) (size a + 1) (placed k n a) (omega arith) (placed_below k n a)
placed_below k n (wait ts) = below-first (eqb (after n) k)

-- The same remains at another place of a larger statement.
tied-beyond : (n : ℕ) (a s : Stmt Expr) (f : ℕ → Value) (x : Search) (p : Option ℕ) → Below (size a) p
    → ((q : ℕ) → q < size a → behind s (n + q) ≡ behind a q) → Tied a f x p → Tied s f x (beyond n p)
unfolding Tied beyond Below
tied-beyond n a s f absent none l e h = tt
tied-beyond n a s f absent (some p) l e h = absurd h
tied-beyond n a s f (found x) none l e h = absurd h
tied-beyond n a s f (found x) (some p) l e h = h ∙ ap (λ (r : Stmt Expr). shape (meaning r f)) (sym (e p l))

beyond-none : (p : Option ℕ) → beyond 0 p ≡ p
unfolding beyond
beyond-none none = refl
beyond-none (some p) = let z : 0 + p ≡ p = omega arith in ap some z

-- More remains behind it.
tied-followed : (n : ℕ) (a y s : Stmt Expr) (b : Ahead) (f : ℕ → Value) (x : Search) (p : Option ℕ) → Below (size a) p
    → ((q : ℕ) → q < size a → behind s (n + q) ≡ sequence (behind a q) y) → ((g : ℕ → Value) → course b g ≡ shape (meaning y g))
    → Tied a f x p → Tied s f (followed x b) (beyond n p)
unfolding Tied beyond followed Below
tied-followed n a y s b f absent none l e k h = tt
tied-followed n a y s b f absent (some p) l e k h = absurd h
tied-followed n a y s b f (found x) none l e k h = absurd h
tied-followed n a y s b f (found x) (some p) l e k h =
    then-meant x b (behind a p) y f h k ∙ ap (λ (r : Stmt Expr). shape (meaning r f)) (sym (e p l))

-- The wait is in one or in the other.
tied-first : (s : Stmt Expr) (f : ℕ → Value) (x y : Search) (p q : Option ℕ) → Tied s f x p → Tied s f y q → Tied s f (first x y)
    (either p q)
unfolding Tied first either
tied-first s f absent y none q h k = k
tied-first s f absent y (some p) q h k = absurd h
tied-first s f (found x) y none q h k = absurd h
tied-first s f (found x) y (some p) q h k = h

-- What remains behind a wait in the parts of a statement.
module _ (a b : Stmt Expr) (q : ℕ) where
  behind-first : q < size a → behind (sequence a b) (0 + q) ≡ sequence (behind a q) b
  unfolding behind
  behind-first l = let z : 0 + q ≡ q = omega arith in rw (z, lt-ltb q (size a) l) refl

  behind-second : behind (sequence a b) (size a + q) ≡ behind b q
  unfolding behind
  behind-second = let z : size a + q - size a ≡ q = omega arith in rw (le-ltb (size a + q) (size a) (omega arith), z) refl

  module _ (e : Expr) where
    behind-if : behind (if_then e a) (1 + q) ≡ behind a q
    unfolding behind
    behind-if = let z : 1 + q - 1 ≡ q = omega arith in rw z refl

    behind-leg : q < size a → behind (if_else e a b) (1 + q) ≡ behind a q
    unfolding behind
    behind-leg l = let z : 1 + q - 1 ≡ q = omega arith in rw (lt-ltb (1 + q) (1 + size a) (omega arith), z) refl

    behind-else : behind (if_else e a b) (2 + size a + q) ≡ behind b q
    unfolding behind
    behind-else = let z : 2 + size a + q - (2 + size a) ≡ q = omega arith in rw (
      le-ltb (2 + size a + q) (1 + size a)
          (omega arith),
      z,
    ) refl

    behind-while : behind (while e a) (1 + q) ≡ sequence (behind a q) (while e a)
    unfolding behind
    behind-while = let z : 1 + q - 1 ≡ q = omega arith in rw z refl

  behind-forever : behind (forever a) (0 + q) ≡ sequence (behind a q) (forever a)
  unfolding behind
  behind-forever = let z : 0 + q ≡ q = omega arith in rw z refl

tied-wait : (ts : List EdgeTerm) (f : ℕ → Value) (z : Bool) → Tied (wait ts) f (pick z (found nothing) absent) (pick z (some 0) none)
unfolding Tied course behind meaning shape
tied-wait ts f true = refl
tied-wait ts f false = tt

pub waiting-meant : (s : Stmt Expr) (k n : ℕ) (f : ℕ → Value) → Tied s f (remaining k n s) (placed k n s)
unfolding remaining placed Tied
waiting-meant empty k n f = tt
waiting-meant (assign t e) k n f = tt
waiting-meant (later t e) k n f = tt
waiting-meant (sequence a b) k n f =
    let s = sequence a b in
    let i = counted n a in
    tied-first s f (followed (remaining k n a) (going i b)) (remaining k i b) (placed k n a) (beyond (size a) (placed k i b))
    (subst (λ (p : Option ℕ). Tied s f (followed (remaining k n a) (going i b)) p) (beyond-none (placed k n a))
    (tied-followed 0 a b s (going i b) f (remaining k n a) (placed k n a) (placed_below k n a) (λ q l. behind-first a b q l)
    (λ g. going-meant b i g) (waiting-meant a k n f)))
    (tied-beyond (size a) b s f (remaining k i b) (placed k i b) (placed_below k i b) (λ q l. behind-second a b q) (waiting-meant b k i f))
waiting-meant (if_then e a) k n f =
    tied-beyond 1 a (if_then e a) f (remaining k n a) (placed k n a) (placed_below k n a) (λ q l. behind-if a a q e) (waiting-meant a k n f)
waiting-meant (if_else e a b) k n f =
    let s = if_else e a b in
    let i = counted n a in
    tied-first s f (remaining k n a) (remaining k i b) (beyond 1 (placed k n a)) (beyond (2 + size a) (placed k i b))
    (tied-beyond 1 a s f (remaining k n a) (placed k n a) (placed_below k n a) (λ q l. behind-leg a b q e l) (waiting-meant a k n f))
    (tied-beyond (2 + size a) b s f (remaining k i b) (placed k i b) (placed_below k i b) (λ q l. behind-else a b q e)
    (waiting-meant b k i f))
waiting-meant (while e a) k n f =
    tied-followed 1 a (while e a) (while e a) (when e (going n a)) f (remaining k n a) (placed k n a) (placed_below k n a)
    (λ q l. behind-while a a q e) (λ g. round e a n g) (waiting-meant a k n f)
waiting-meant (forever a) k n f =
    subst (λ (p : Option ℕ). Tied (forever a) f (followed (remaining k n a) (going n a)) p) (beyond-none (placed k n a))
    (tied-followed 0 a (forever a) (forever a) (going n a) f (remaining k n a) (placed k n a) (placed_below k n a)
    (λ q l. behind-forever a a q) (λ g. endless a n g) (waiting-meant a k n f))
waiting-meant (wait ts) k n f = tied-wait ts f (eqb (after n) k)

-- ---- the claim

pub as-meant : (s : Stmt Expr) (f : ℕ → Value) → AsMeant s f
as-meant s f = record { from_start = λ n. going-meant s n f; from-wait = λ k n. waiting-meant s k n f }
