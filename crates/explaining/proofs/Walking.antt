-- Laws of the walk over a statement: the ways through each form, from what the code's calls give.
use mathlib.Core.Path.{◌≡◌, refl, ap, ◌∙◌}
use Prim.Native.Nat.{ℕ, zero, suc, ◌+◌, ◌-◌, ◌*◌, ◌≤◌, ◌<◌}
use native.Mathlib.Numerals.{sub-one}
use native.Mathlib.Omega.{arith}
use mathlib.Core.List.{List}
use mathlib.Core.Bool.{Bool, true, false, not, ◌&&◌, ◌||◌}
use lib.ListN.{get_or}
use lib.Dec.{eqb}
use borrow.Author.Tests.{lt-ltb, le-ltb}
use Rattle.sheet.specs.Reading.{Res, ok, no}
use Rattle.sheet.specs.Statement.{Form, form_of}
use Rattle.sheet.proofs.Statements.{form_map, map-form}
use Rattle.pseudocode.specs.Skipping.{skip_at}
use Rattle.pseudocode.specs.Filling.{after}
use Rattle.rules.specs.declared.Waiting.{Waiting}
use Rattle.rules.specs.Walking.{walk_at}
use Rattle.writing.specs.Ascii.{ascii}
use Rattle.writing.specs.Numbers.{decimal}
use Rattle.writing.specs.Buffer.{Text, puts}
use Rattle.writing.proofs.Buffer.{both}
use Rattle.verilog.specs.Verilog.{◌&◌, indent}
use Rattle.explaining.specs.Explaining.{heading_text}
use Rattle.explaining.specs.Walking.{Stage, stage, said, deeper, round_at, anew, closed, switched}
use Rattle.explaining.specs.Walking.{sequence_at, forever_at, if_at, if_else_at, while_at}
use Rattle.explaining.specs.Walking.{assign_line, condition_line, wait_line, assign_at, condition_at, wait_at, form_at, stmt_at}
use Rattle.explaining.specs.Walking.{point_at, points_at, thread_at, body_at}

-- ---- bodies, walked over in turn

module _ (inner : ℕ → Stage → Stage) (level : ℕ) (w : Stage) where
  pub sequence-path : {a b : Stage} → a ≡ inner level w → b ≡ inner level a → b ≡ sequence_at inner level w
  unfolding sequence_at
  sequence-path a b = b ∙ ap (inner level) a

  pub forever-once : {a : Stage} {r : Bool} → a ≡ inner level w → r ≡ (not w.seen && a.on) → r ≡ false → a ≡ forever_at inner level w
  unfolding forever_at round_at
  forever-once a e f = rw (← a) (rw (← e) (rw f refl))

  pub forever-again : {a b : Stage} {r : Bool} → a ≡ inner level w → r ≡ (not w.seen && a.on) → r ≡ true
      → b ≡ inner level (stage w.next w.waits true true a.text) → b ≡ forever_at inner level w
  unfolding forever_at round_at anew
  forever-again a e f b = b ∙ rw (← a) (rw (← e) (rw f refl))

module _ (condition inner : ℕ → Stage → Stage) (level : ℕ) (w : Stage) where
  pub if-path : {c a : Stage} {l : ℕ} {o : Bool} {t : Text} → c ≡ condition level w → l ≡ deeper w.on level → a ≡ inner l c
      → t ≡ said w.on a.text (indent level & ascii "end\n") → o ≡ (w.on || a.on)
      → stage a.next a.waits a.seen o t ≡ if_at condition inner level w
  unfolding if_at closed
  if-path {a = a} c l ea t o =
      (λ j. stage a.next a.waits a.seen (o j) (t j)) ∙ ap (closed level w.on w.on) (ea ∙ (λ j. inner (l j) (c j)))

  pub if-else-path : {c a b : Stage} {l : ℕ} {o : Bool} {t u : Text} → c ≡ condition level w → l ≡ deeper w.on level → a ≡ inner l c
      → t ≡ said w.on a.text (indent level & ascii "end else begin\n")
      → b ≡ inner l (stage a.next a.waits a.seen w.on t)
      → u ≡ said w.on b.text (indent level & ascii "end\n") → o ≡ (a.on || b.on)
      → stage b.next b.waits b.seen o u ≡ if_else_at condition inner level w
  unfolding if_else_at closed switched
  if-else-path {a = a} {b = b} c l ea t eb u o =
      let second : Stage → Stage = λ y. inner (deeper w.on level) (switched level w.on y) in
      let z : b ≡ second a = eb ∙ (λ j. inner (l j) (stage a.next a.waits a.seen w.on (t j))) in
      (λ j. stage b.next b.waits b.seen (o j) (u j))
      ∙ ap (closed level w.on a.on) z
      ∙ ap (λ (y : Stage). closed level w.on y.on (second y)) (ea ∙ (λ j. inner (l j) (c j)))

  pub while-once : {a : Stage} {r : Bool} → a ≡ if_at condition inner level w → r ≡ (not w.seen && a.on) → r ≡ false
      → a ≡ while_at condition inner level w
  unfolding while_at round_at
  while-once a e f = rw (← a) (rw (← e) (rw f refl))

  pub while-again : {a b : Stage} {r : Bool} → a ≡ if_at condition inner level w → r ≡ (not w.seen && a.on) → r ≡ true
      → b ≡ if_at condition inner level (stage w.next w.waits true true a.text) → b ≡ while_at condition inner level w
  unfolding while_at round_at anew
  while-again a e f b = b ∙ rw (← a) (rw (← e) (rw f refl))

-- ---- statements without a body

module _ (name : ℕ → List ℕ) (s : List ℕ) (level : ℕ) (w : Stage) where
  pub wait-walk : (k : ℕ) {n c d : ℕ} {h x o : Bool} {t : Text} → n ≡ after w.waits → c ≡ get_or s w.next 0 → d ≡ c
      → t ≡ said w.on w.text (wait_line name s n level w.next) → h ≡ eqb n k → x ≡ (w.seen || h) → o ≡ (not w.seen && h)
      → stage (w.next + 1 + 2 * d) n x o t ≡ wait_at name s k level w
  unfolding wait_at
  wait-walk k {n = m} {t = u} n c d t h x o =
      let g = d ∙ c in
      (λ j. stage (w.next + 1 + 2 * g j) m (x j) (o j) (t j))
      ∙ ap (λ (b : Bool). stage (w.next + 1 + 2 * get_or s w.next 0) m (w.seen || b) (not w.seen && b)
      (said w.on w.text (wait_line name s m level w.next))) h
      ∙ ap (λ (i : ℕ). stage (w.next + 1 + 2 * get_or s w.next 0) i (w.seen || eqb i k) (not w.seen && eqb i k)
      (said w.on w.text (wait_line name s i level w.next))) n

module _ (name : ℕ → List ℕ) (s ds : List ℕ) where
  module _ (level : ℕ) (w : Stage) where
    pub assign-walk : (sign : List ℕ) {e : ℕ} {t : Text} → e ≡ skip_at 16 s ds (w.next + 1)
        → t ≡ said w.on w.text (assign_line name s ds sign level w.next)
        → stage e w.waits w.seen w.on t ≡ assign_at name s ds sign level w
    unfolding assign_at
    assign-walk sign e t = λ j. stage (e j) w.waits w.seen w.on (t j)

    pub condition-walk : {e : ℕ} {t : Text} → e ≡ skip_at 16 s ds w.next
        → t ≡ said w.on w.text (condition_line name s ds level w.next)
        → stage e w.waits w.seen w.on t ≡ condition_at name s ds level w
    unfolding condition_at
    condition-walk e t = λ j. stage (e j) w.waits w.seen w.on (t j)

  -- ---- stmt_at

  module _ (k level : ℕ) (w : Stage) where
    pub stmt-deep : (d : ℕ) → d ≡ 0 → stmt_at name s ds k d level w ≡ w
    unfolding stmt_at
    stmt-deep d e = rw e refl

    pub stmt-far : (d : ℕ) → 8192 ≤ w.next → stmt_at name s ds k d level w ≡ w
    unfolding stmt_at
    stmt-far zero h = refl
    stmt-far (suc d) h = simp (le-ltb w.next 8192 h)

    stmt-read : (d : ℕ) (f : Res Form) → (d ≡ 0 → ⊥) → w.next < 8192 → form_of (get_or s w.next 0) w.next ≡ f
        → stmt_at name s ds k d level w ≡ form_at name s ds k (stmt_at name s ds k (d - 1)) level w f
    unfolding stmt_at
    stmt-read zero f n h e = absurd (n refl)
    stmt-read (suc d) f n h e = simp (lt-ltb w.next 8192 h, e, sub-one)

    pub stmt-form : (d : ℕ) (f : Form) → (d ≡ 0 → ⊥) → w.next < 8192 → get_or s w.next 0 ≡ form_map f
        → stmt_at name s ds k d level w ≡ form_at name s ds k (stmt_at name s ds k (d - 1)) level w (ok f)
    stmt-form d f n h e = stmt-read d (ok f) n h (map-form (get_or s w.next 0) w.next f e)

    pub stmt-at : (d : ℕ) (f : Form) → w.next < 8192 → get_or s w.next 0 ≡ form_map f
        → stmt_at name s ds k (suc d) level w ≡ form_at name s ds k (stmt_at name s ds k d) level w (ok f)
    unfolding stmt_at
    stmt-at d f h e = simp (lt-ltb w.next 8192 h, map-form (get_or s w.next 0) w.next f e)

    pub stmt-other : (d : ℕ) → (d ≡ 0 → ⊥) → w.next < 8192 → form_of (get_or s w.next 0) w.next ≡ no 5 w.next
        → stmt_at name s ds k d level w ≡ w
    unfolding form_at
    stmt-other d n h e = stmt-read d (no 5 w.next) n h e

  -- ---- points and threads

  pub point-path : (k p : ℕ) (t : Text) {u : Text} {b : Bool} {r : Stage} → u ≡ puts t (heading_text k) → b ≡ eqb k 0
      → r ≡ forever_at (stmt_at name s ds k 64) 2 (stage p 0 b b u) → r ≡ point_at name s ds k p t
  unfolding point_at
  point-path k p t u b r = r ∙ (λ j. forever_at (stmt_at name s ds k 64) 2 (stage p 0 (b j) (b j) (u j)))

  pub points-turn : (n k p : ℕ) (t : Text) {w : Stage} → k < n → w ≡ point_at name s ds (k + 1) p t
      → points_at name s ds (n - (k + 1)) (k + 1 + 1) p w.text ≡ points_at name s ds (n - k) (k + 1) p t
  unfolding points_at
  points-turn n k p t {w} h e =
      let x : n - k ≡ suc (n - (k + 1)) = omega arith in
      rw (x, e) refl

  pub points-end : (n k j p : ℕ) (t : Text) → n ≤ k → t ≡ points_at name s ds (n - k) j p t
  unfolding points_at
  points-end n k j p t h = let x : n - k ≡ 0 = omega arith in rw x refl

  pub thread-path : (i p : ℕ) (t : Text) {a b c u : Text} {w : Stage} → a ≡ puts t (ascii "thread ") → b ≡ puts a (decimal i)
      → c ≡ puts b (ascii "\n") → w ≡ point_at name s ds 0 p c → u ≡ points_at name s ds w.waits 1 p w.text
      → u ≡ thread_at name s ds i p t
  unfolding thread_at
  thread-path i p t a b c w u =
      let x = both _ _ _ _ _ a (both _ _ _ _ _ b c) in
      u ∙ ap (λ (y : Stage). points_at name s ds y.waits 1 p y.text) (w ∙ ap (point_at name s ds 0 p) x)

-- ---- body_at

pub body-turn : (s ds : List ℕ) (n i p : ℕ) {w : Waiting} → i < n → w ≡ walk_at 64 s ds p
    → body_at s ds (n - (i + 1)) w.next ≡ body_at s ds (n - i) p
unfolding body_at
body-turn s ds n i p h e = let x : n - i ≡ suc (n - (i + 1)) = omega arith in rw (x, e) refl

pub body_end : (s ds : List ℕ) (n i p : ℕ) → n ≤ i → p ≡ body_at s ds (n - i) p
unfolding body_at
body_end s ds n i p h = let x : n - i ≡ 0 = omega arith in rw x refl
