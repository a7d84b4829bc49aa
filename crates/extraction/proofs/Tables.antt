-- The ways through specs/Filling. Assumes nothing.
use mathlib.Core.Path.{◌≡◌, refl, ap, ◌∙◌}
use mathlib.Core.Bool.{Bool, true, false}
use mathlib.Core.List.{List, [], ◌∷◌}
use Prim.Native.Nat.{ℕ, ◌+◌, ◌*◌, ◌≤◌, ◌<◌}
use native.Mathlib.Numerals.{add-one}
use borrow.Author.Tests.{lt-ltb, le-ltb}
use lib.ListN.{get_or, set}
use Rattle.pseudocode.specs.declared.Instruction.{Instruction}
use Rattle.pseudocode.specs.Filling.{after}
use Rattle.pseudocode.specs.Fetching.{fetch_at}
use Rattle.masks.specs.Masks.{bits, mask, either}
use Rattle.extraction.specs.declared.Thread.{Thread}
use Rattle.extraction.specs.declared.Walked.{Walked}
use Rattle.extraction.specs.declared.Extent.{Extent}
use Rattle.extraction.specs.Emitting.{emit_words}
use Rattle.extraction.specs.Walking.{own_at, walk_at, walking}
use Rattle.extraction.specs.Filling.{variables_below, row_below, put_row, Filling, filling, extent}
use Rattle.extraction.specs.Filling.{waits, walk_row, walk_from_at, walks_below_at, thread_at, threads_below_at}

-- ---- variables_below

pub variables-none : (l : List ℕ) → l ≡ variables_below 0 l
unfolding variables_below
variables-none l = refl

pub variables-turn : (v : ℕ) (l : List ℕ) {la lb : List ℕ} → la ≡ variables_below v l → lb ≡ emit_words v 0 v 0 0 la → lb ≡ variables_below (v + 1) l
unfolding variables_below
variables-turn v l e f = rw (add-one v) (f ∙ ap (emit_words v 0 v 0 0) e)

-- ---- row_below, put_row

module _ (r : ℕ) (row l : List ℕ) where
  pub row-none : l ≡ row_below r row 0 l
  unfolding row_below
  row-none = refl

  pub row-turn : (k : ℕ) {la : List ℕ} {i : ℕ} → i ≡ 33 * r → la ≡ row_below r row k l → set la (i + k) (get_or row k 0) ≡ row_below r row (k + 1) l
  unfolding row_below
  row-turn k e f = rw (add-one k) (λ j. set (f j) (e j + k) (get_or row k 0))

pub put-row-path : (r : ℕ) (w : Walked) (l : List ℕ) {la : List ℕ} {i : ℕ} → i ≡ 33 * r → la ≡ row_below r w.registers 32 l
    → set la (i + 32) w.place ≡ put_row r w l
unfolding put_row
put-row-path r w l e f = λ j. set (f j) (e j + 32) w.place

-- ---- the walk from a wait

module _ (s code : List ℕ) (t : Thread) (size p : ℕ) (e : Extent) (l rs : List ℕ) where
  pub walk-row-path : {own : List ℕ} {q : ℕ} {w : Walked} {lw ss : List ℕ} → own ≡ own_at t.inputs t.registers → q ≡ after p
      → walking w lw ≡ walk_at s code t size q (own ∷ own ∷ []) e.nodes l → ss ≡ put_row e.rows w rs
      → filling (extent w.count (e.rows + 1)) lw ss ≡ walk_row s code t size p (filling e l rs)
  unfolding walk_row
  walk-row-path {w = w} {lw} own_is q-is w-is ss-is =
      let w-is = w-is ∙ (λ i. walk_at s code t size (q-is i) (own_is i ∷ own_is i ∷ []) e.nodes l) in
      (λ i. filling (extent w.count (e.rows + 1)) lw (ss-is i))
      ∙ (λ i. let w = w-is i in filling (extent w.answer.count (e.rows + 1)) w.words (put_row e.rows w.answer rs))

  pub walk-from-no : {i : Instruction} {b : Bool} → i ≡ fetch_at s code t.number p → b ≡ waits i → b ≡ false
      → filling e l rs ≡ walk_from_at s code t size p (filling e l rs)
  unfolding walk_from_at
  walk-from-no f g h = rw (← f, ← g, h) refl

  module _ {i : Instruction} {b : Bool} (f : i ≡ fetch_at s code t.number p) (g : b ≡ waits i) (h : b ≡ true) where
    pub walk-from-past : 32 ≤ e.rows → filling e l rs ≡ walk_from_at s code t size p (filling e l rs)
    unfolding walk_from_at
    walk-from-past m = rw (← f, ← g, h, le-ltb e.rows 32 m) refl

    pub walk-from-row : {x : Filling} → e.rows < 32 → x ≡ walk_row s code t size p (filling e l rs) → x ≡ walk_from_at s code t size p (filling e l rs)
    unfolding walk_from_at
    walk-from-row m y = rw (← f, ← g, h, lt-ltb e.rows 32 m) y

-- ---- walks_below_at, threads_below_at

module _ (s code : List ℕ) (t : Thread) (size : ℕ) (x : Filling) where
  pub walks-none : x ≡ walks_below_at s code t size 0 x
  unfolding walks_below_at
  walks-none = refl

  pub walks_turn : (p : ℕ) {y z : Filling} → y ≡ walks_below_at s code t size p x → z ≡ walk_from_at s code t size p y
      → z ≡ walks_below_at s code t size (p + 1) x
  unfolding walks_below_at
  walks_turn p e f = rw (add-one p) (f ∙ ap (walk_from_at s code t size p) e)

module _ (s code sizes : List ℕ) (inputs registers : ℕ) (plain later : List ℕ) (x : Filling) where
  pub threads-none : x ≡ threads_below_at s code sizes inputs registers plain later 0 x
  unfolding threads_below_at
  threads-none = refl

  pub threads-turn : (i : ℕ) {y z : Filling} {w : ℕ} → y ≡ threads_below_at s code sizes inputs registers plain later i x
      → w ≡ mask (either (bits (get_or plain i 0)) (bits (get_or later i 0)))
      → z ≡ walks_below_at s code
      (record { number = i; inputs = inputs; registers = registers; written = w; deferred = get_or later i 0 })
      (get_or sizes i 0) (get_or sizes i 0) y
      → z ≡ threads_below_at s code sizes inputs registers plain later (i + 1) x
  unfolding threads_below_at thread_at
  threads-turn i {y} e g f =
      rw (add-one i)
      (f
      ∙ (λ j. walks_below_at s code (record { number = i; inputs = inputs; registers = registers; written = g j; deferred = get_or later i 0 })
      (get_or sizes i 0) (get_or sizes i 0) y)
      ∙ ap (walks_below_at s code (thread_at inputs registers plain later i) (get_or sizes i 0) (get_or sizes i 0)) e)
