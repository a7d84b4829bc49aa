-- Operators by their numbers.
-- Assumes nothing.
use mathlib.Core.Path.{◌≡◌, refl}
use mathlib.Core.Bool.{Bool, true, false}
use Prim.Native.Nat.{ℕ, ◌+◌, ◌≤◌}
use native.Mathlib.Omega.{arith}
use lib.Dec.{ltb}
use borrow.Author.Tests.{ltb-true, ltb-false}
use Rattle.verilog_grammar.specs.Meaning.{unary_number, binary_number}
use Rattle.verilog_back.specs.Tree.{unary_of, binary_of}

-- The number k, or one above it.
least : (P : ℕ → Type 0) (o k : ℕ) → k ≤ o → P k → (k + 1 ≤ o → P o) → P o
least P o k h a f = by (ltb k o) refl
  where
    by : (t : Bool) → ltb k o ≡ t → P o
    by true q = f (let z = ltb-true k o q in omega arith)
    by false q = let z = ltb-false k o q in let e : o ≡ k = omega arith in rw e a

pub one-or-two : (P : ℕ → Type 0) (o : ℕ) → 1 ≤ o → o ≤ 2 → P 1 → P 2 → P o
one-or-two P o l h a b = least P o 1 l a (λ x. let e : o ≡ 2 = omega arith in rw e b)

pub three-to-nine : (P : ℕ → Type 0) (o : ℕ) → 3 ≤ o → o ≤ 9 → P 3 → P 4 → P 5 → P 6 → P 7 → P 8 → P 9 → P o
three-to-nine P o l h a b c d e f g =
    least P o 3 l a (λ x. least P o 4 x b (λ x. least P o 5 x c (λ x. least P o 6 x d (λ x. least P o 7 x e (λ x. least P o 8 x f
    (λ y. let i : o ≡ 9 = omega arith in rw i g))))))

pub unary-number : (o : ℕ) → 1 ≤ o → o ≤ 2 → unary_number (unary_of o) ≡ o
unfolding unary_number unary_of
unary-number o l h = one-or-two (λ n. unary_number (unary_of n) ≡ n) o l h refl refl

pub binary-number : (o : ℕ) → 3 ≤ o → o ≤ 9 → binary_number (binary_of o) ≡ o
unfolding binary_number binary_of
binary-number o l h = three-to-nine (λ n. binary_number (binary_of n) ≡ n) o l h refl refl refl refl refl refl refl
