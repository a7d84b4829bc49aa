-- Laws of the signs: what stands in front of each operand of an operator of one, two and three operands.
use mathlib.Core.Path.{◌≡◌}
use Prim.Native.Nat.{ℕ, ◌≤◌, ◌<◌}
use mathlib.Core.List.{[]}
use borrow.Author.Tests.{lt-ltb, le-ltb, ne_eqb}
use Rattle.writing.specs.Ascii.{ascii}
use Rattle.signs.specs.Signs.{sign, operands, lead}

module _ (o : ℕ) where
  -- ---- operands

  pub operands-one : o < 3 → operands o ≡ 1
  unfolding operands
  operands-one h = simp (lt-ltb o 3 h)

  pub operands-two : 3 ≤ o → o < 10 → operands o ≡ 2
  unfolding operands
  operands-two h l = simp (le-ltb o 3 h, lt-ltb o 10 l)

  pub operands-three : 3 ≤ o → 10 ≤ o → operands o ≡ 3
  unfolding operands
  operands-three h l = simp (le-ltb o 3 h, le-ltb o 10 l)

  -- ---- lead

  pub lead-first : (o ≡ 10 → ⊥) → lead o 2 ≡ []
  unfolding lead
  lead-first h = simp (ne_eqb o 10 h)

  pub lead-last : (o ≡ 10 → ⊥) → lead o 1 ≡ sign o
  unfolding lead
  lead-last h = simp (ne_eqb o 10 h)

module _ (o n : ℕ) where
  pub lead-colon : (n ≡ 3 → ⊥) → (n ≡ 2 → ⊥) → o ≡ 10 → lead o n ≡ ascii " : "
  unfolding lead
  lead-colon h l e = rw e (simp (ne_eqb n 3 h, ne_eqb n 2 l))

  pub lead-sign : (n ≡ 3 → ⊥) → (n ≡ 2 → ⊥) → (o ≡ 10 → ⊥) → lead o n ≡ sign o
  unfolding lead
  lead-sign h l e = simp (ne_eqb n 3 h, ne_eqb n 2 l, ne_eqb o 10 e)

-- ---- sign

pub sign-none : (o : ℕ) → (o ≡ 1 → ⊥) → (o ≡ 2 → ⊥) → (o ≡ 3 → ⊥) → (o ≡ 4 → ⊥) → (o ≡ 5 → ⊥) → (o ≡ 6 → ⊥) → (o ≡ 7 → ⊥)
    → (o ≡ 8 → ⊥) → (o ≡ 9 → ⊥) → sign o ≡ []
unfolding sign
sign-none o a b c d e f g h i =
    simp (ne_eqb _ _ a, ne_eqb _ _ b, ne_eqb _ _ c, ne_eqb _ _ d, ne_eqb _ _ e, ne_eqb _ _ f, ne_eqb _ _ g, ne_eqb _ _ h, ne_eqb _ _ i)
