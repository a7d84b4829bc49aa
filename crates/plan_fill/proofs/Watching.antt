-- The watchers' table holds for each thread the marks of the variables that its waits name, and no other. Assumes nothing.
use mathlib.Core.Path.{◌≡◌, refl, sym, ap, ◌∙◌}
use mathlib.Core.Bool.{Bool, true, ◌||◌, or-true}
use mathlib.Core.List.{List}
use Prim.Native.Nat.{ℕ, zero, suc, ◌≤◌, ◌<◌}
use native.Mathlib.Nat.{not-suc-le-zero, le_refl}
use native.Mathlib.Omega.{arith}
use borrow.Author.Tests.{eq-eqb}
use lib.Dec.{eqb}
use lib.ListN.{length, get_or, replicate}
use Rattle.sheet.specs.declared.EdgeTerm.{EdgeTerm}
use Rattle.sheet.specs.Expression.{Expr, Scope}
use Rattle.pseudocode.specs.Translation.{Instr, wait!, go}
use Rattle.pseudocode.specs.Instruction.{no_term, terms_of}
use Rattle.pseudocode.specs.Fetching.{fetch_at}
use Rattle.pseudocode.specs.declared.Instruction as fetched
use Rattle.pseudocode.proofs.Fetching.{term_of}
use Rattle.tables.specs.Readers.{at_most}
use Rattle.tables.proofs.Readers.{at_most-same}
use Rattle.tables.proofs.Marking.{Marks, marks-none, marks_then, marks-variable, Below, below_none, below_more}
use Rattle.tables.proofs.Placing.{Coded, codes-wait, codes-set, codes-later, codes-go, codes-ifnot}
use Rattle.plan_fill.specs.Filling.{up_to, watch_term, watch_instr, watch_place, watch_thread}
use Rattle.plan_fill.specs.Holding.{any_below, named_by, names}
use Rattle.plan_fill.proofs.Kept.{up-to}

-- ---- what a wait names

pub any-true : (f : ℕ → Bool) (k n : ℕ) → k < n → f k ≡ true → any_below f n ≡ true
unfolding any_below
any-true f k zero h e = absurd (not-suc-le-zero h)
any-true f k (suc n) h e =
    up-to k n h (λ l. rw (any-true f k n l e)) (λ q. ap (λ (b : Bool). any_below f n || b) (ap f (sym q) ∙ e) ∙ or-true (any_below f n))

-- A wait that stands in the code names its terms' variables.
pub names-term : (is : List (Instr Expr)) (p : ℕ) (ts : List EdgeTerm) (k : ℕ) → p < length is → get_or is p (go 0) ≡ wait! ts
    → k < length ts → names is (get_or ts k no_term).variable ≡ true
unfolding names named_by
names-term is p ts k h e l =
    let v = (get_or ts k no_term).variable in
    any-true (λ q. named_by (get_or is q (go 0)) v) p (length is) h
    (ap (λ (i : Instr Expr). named_by i v) e ∙ any-true (λ j. eqb (get_or ts j no_term).variable v) k (length ts) l (eq-eqb v v refl))

-- ---- one thread

module _ (i : ℕ) (hi : i < 32) where
  terms-marked : (ts : List EdgeTerm) → length ts ≤ 8 → ((k : ℕ) → k < length ts → (get_or ts k no_term).variable < 80)
      → (n : ℕ) → n ≤ length ts → (rs : List ℕ) → length rs ≡ 80
      → Marks i rs (up_to (watch_term i (terms_of ts)) n rs) (λ v. any_below (λ k. eqb (get_or ts k no_term).variable v) n)
  unfolding up_to watch_term any_below
  terms-marked ts h s zero l rs long = marks-none i rs long
  terms-marked ts h s (suc n) l rs long =
      let x = terms-marked ts h s n (omega arith) rs long in
      rw (term_of ts n h)
      (marks_then x (marks-variable i (get_or ts n no_term).variable (up_to (watch_term i (terms_of ts)) n rs) hi (s n l) x.long))

  module _ (c : Scope) (s : List ℕ) (few : length c.widths ≤ 80) where
    instr-marked : {j : Instr Expr} {x : fetched.Instruction} → Coded c s j x → (rs : List ℕ) → length rs ≡ 80
        → Marks i rs (watch_instr i x rs) (named_by j)
    unfolding watch_instr named_by terms_of
    instr-marked (codes-wait {ts = ts} h n) rs long =
        rw (at_most-same 8 (length ts) h)
        (terms-marked ts h (λ k l. omega (arith, n k no_term l)) (length ts) (le_refl (length ts)) rs long)
    instr-marked (codes-set h z) rs long = marks-none i rs long
    instr-marked (codes-later h z) rs long = marks-none i rs long
    instr-marked (codes-go h) rs long = marks-none i rs long
    instr-marked (codes-ifnot h z) rs long = marks-none i rs long

    module _ (code : List ℕ) (is : List (Instr Expr))
        (coded : (p : ℕ) → p < length is → Coded c s (get_or is p (go 0)) (fetch_at s code i p)) where
      places-marked : (n : ℕ) → n ≤ length is → (rs : List ℕ) → length rs ≡ 80
          → Marks i rs (up_to (watch_place s code i) n rs) (λ v. any_below (λ p. named_by (get_or is p (go 0)) v) n)
      unfolding up_to watch_place any_below
      places-marked zero l rs long = marks-none i rs long
      places-marked (suc n) l rs long =
          let x = places-marked n (omega arith) rs long in
          marks_then x (instr-marked (coded n l) (up_to (watch_place s code i) n rs) x.long)

      pub thread-marked : (sizes : List ℕ) → at_most 256 (get_or sizes i 0) ≡ length is → (rs : List ℕ) → length rs ≡ 80
          → Marks i rs (watch_thread s code sizes i rs) (names is)
      unfolding watch_thread names
      thread-marked sizes e rs long = rw e (places-marked (length is) (le_refl (length is)) rs long)

-- ---- all threads

module _ (c : Scope) (s : List ℕ) (few : length c.widths ≤ 80) (code sizes : List ℕ) (is : ℕ → List (Instr Expr)) (N : ℕ)
    (most : N ≤ 32) (coded : (i p : ℕ) → i < N → p < length (is i) → Coded c s (get_or (is i) p (go 0)) (fetch_at s code i p))
    (sized : (i : ℕ) → i < N → at_most 256 (get_or sizes i 0) ≡ length (is i)) where
  pub watched-below : (n : ℕ) → n ≤ N → Below (λ i. names (is i)) n (up_to (watch_thread s code sizes) n (replicate 80 0))
  unfolding up_to
  watched-below zero h = below_none (λ i. names (is i))
  watched-below (suc n) h =
      let b = watched-below n (omega arith) in
      below_more (λ i. names (is i)) n b
      (thread-marked n (omega arith) c s few code (is n) (λ p. coded n p h) sizes (sized n h)
      (up_to (watch_thread s code sizes) n (replicate 80 0)) b.long)
