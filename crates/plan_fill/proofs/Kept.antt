-- Words that stay while a stage fills its section and nodes, and stages of steps, one after the other. Assumes nothing.
use mathlib.Core.Path.{◌≡◌, refl, ap, ◌∙◌}
use mathlib.Core.Bool.{Bool, true, false}
use mathlib.Core.List.{List, [], ◌∷◌}
use Prim.Native.Nat.{ℕ, zero, suc, ◌+◌, ◌*◌, ◌≤◌, ◌<◌}
use native.Mathlib.Nat.{not-suc-le-zero}
use native.Mathlib.Omega.{arith}
use borrow.Author.Tests.{eqb-true, eqb-false}
use lib.Dec.{eqb}
use lib.ListN.{length, get_or}
use Rattle.plan_fill.specs.Filling.{up_to, Filling}

-- One of the numbers up to n is below n, or n.
pub up-to : {Q : Type 0} (k n : ℕ) → k < suc n → (k < n → Q) → (k ≡ n → Q) → Q
up-to {Q} k n l f g = by (eqb k n) refl
  where
    by : (t : Bool) → eqb k n ≡ t → Q
    by true e = g (eqb-true k n e)
    by false e = let q = eqb-false k n e in f (omega arith)

-- ---- Kept: the nodes below n stay, and the words after the nodes but those from a up to b

pub record Kept (n a b : ℕ) (ws us : List ℕ) : Type 0 where
  pub below : (i : ℕ) → i < 4 * n → get_or us i 0 ≡ get_or ws i 0
  pub before : (i : ℕ) → 16704 ≤ i → i < a → get_or us i 0 ≡ get_or ws i 0
  pub after : (i : ℕ) → b ≤ i → get_or us i 0 ≡ get_or ws i 0
  pub long : length us ≡ length ws

pub kept-none : (n a b : ℕ) (ws : List ℕ) → Kept n a b ws ws
kept-none n a b ws = record { below = λ i u. refl; before = λ i u v. refl; after = λ i u. refl; long = refl }

pub kept_then : {n m a b c d : ℕ} {ws us vs : List ℕ} → Kept n a b ws us → Kept m c d us vs → n ≤ m → a ≤ c → b ≤ d → Kept n a d ws vs
kept_then x y p q r =
    record {
      below = λ i u. y.below i (omega arith) ∙ x.below i u;
      before = λ i u v. y.before i u (omega arith) ∙ x.before i u v;
      after = λ i u. y.after i u ∙ x.after i (omega arith);
      long = y.long ∙ x.long;
    }

pub kept-wider : {n m a b c d : ℕ} {ws us : List ℕ} → Kept n a b ws us → m ≤ n → c ≤ a → b ≤ d → Kept m c d ws us
kept-wider x p q r =
    record {
      below = λ i u. x.below i (omega arith);
      before = λ i u v. x.before i u (omega arith);
      after = λ i u. x.after i (omega arith);
      long = x.long;
    }

-- ---- sums: of the steps below n, and over a list

unfoldable pub sum_below : (ℕ → ℕ) → ℕ → ℕ
sum_below f zero = 0
sum_below f (suc n) = sum_below f n + f n

unfoldable pub sum_over : {A : Type 0} → (A → ℕ) → List A → ℕ
sum_over f [] = 0
sum_over f (x ∷ xs) = f x + sum_over f xs

sum_first : (f : ℕ → ℕ) (n : ℕ) → sum_below f (suc n) ≡ f 0 + sum_below (λ k. f (suc k)) n
unfolding sum_below
sum_first f zero = omega arith
sum_first f (suc n) = let e = sum_first f n in omega arith

pub sum-list : {A : Type 0} (f : A → ℕ) (d : A) (xs : List A) → sum_below (λ k. f (get_or xs k d)) (length xs) ≡ sum_over f xs
unfolding sum_below sum_over
sum-list f d [] = refl
sum-list f d (x ∷ xs) = sum_first (λ k. f (get_or (x ∷ xs) k d)) (length xs) ∙ ap (λ (n : ℕ). f x + n) (sum-list f d xs)

pub sum_less : (f : ℕ → ℕ) (k n : ℕ) → k < n → sum_below f k + f k ≤ sum_below f n
unfolding sum_below
sum_less f k zero h = absurd (not-suc-le-zero h)
sum_less f k (suc n) h = up-to k n h (λ l. let e = sum_less f k n l in omega arith) (λ e. rw e (omega arith))

-- ---- a stage: step k fills its own words, those from place k up to place (k + 1), and so many nodes as it costs

module _ (Made : ℕ → ℕ → List ℕ → Type 0) (Ready : List ℕ → Type 0) (step : ℕ → Filling → Filling) (cost place : ℕ → ℕ) where
  pub record Stepped (k : ℕ) (f g : Filling) : Type 0 where
    pub free : g.free ≡ f.free + cost k
    pub kept : Kept f.free (place k) (place (suc k)) f.words g.words
    pub made : Made k g.free g.words
    pub ready : Ready g.words

  pub record Ran (n : ℕ) (f g : Filling) : Type 0 where
    pub free : g.free ≡ f.free + sum_below cost n
    pub kept : Kept f.free (place 0) (place n) f.words g.words
    pub made : (k : ℕ) → k < n → Made k g.free g.words
    pub ready : Ready g.words

  module _ (N : ℕ) (rises : (k n : ℕ) → k ≤ n → place k ≤ place n)
      (stays : (k m n a b : ℕ) (ws us : List ℕ) → m ≤ n → place (suc k) ≤ a → Kept m a b ws us → Made k m ws → Made k n us)
      (stepped : (k : ℕ) → k < N → (f : Filling) → 80 ≤ f.free → Ready f.words → f.free + cost k ≤ 4175
      → Stepped k f (step k f)) where
    pub run : (n : ℕ) → n ≤ N → (f : Filling) → 80 ≤ f.free → Ready f.words → f.free + sum_below cost n ≤ 4175
        → Ran n f (up_to step n f)
    unfolding up_to sum_below
    run zero h f l x r =
        record {
          free = omega arith;
          kept = kept-none f.free (place 0) (place 0) f.words;
          made = λ k u. absurd (not-suc-le-zero u);
          ready = x;
        }
    run (suc n) h f l x r =
        let g = up_to step n f in
        let y = run n (omega arith) f l x (omega arith) in
        let e = y.free in
        let z = stepped n h g (omega arith) y.ready (omega arith) in
        let d = z.free in
        record {
          free = omega arith;
          kept = kept_then y.kept z.kept (omega arith) (rises 0 n (omega arith)) (rises n (suc n) (omega arith));
          made = λ k u. up-to k n u
              (λ j. stays k g.free (step n g).free (place n) (place (suc n)) g.words (step n g).words
              (omega arith) (rises (suc k) n j) z.kept (y.made k j))
              (λ j. rw j z.made);
          ready = z.ready;
        }
