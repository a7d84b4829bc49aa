-- Laws of the text: an operand by its number. Assumes nothing.
use mathlib.Core.Path.{◌≡◌, refl, ap, ◌∙◌}
use mathlib.Core.Bool.{Bool, true, false}
use mathlib.Core.List.{List}
use Prim.Native.Nat.{ℕ, zero, suc, ◌≤◌, ◌<◌}
use native.Mathlib.Nat.{not-suc-le-zero}
use native.Mathlib.Omega.{arith}
use lib.Dec.{eqb}
use borrow.Author.Tests.{ne_eqb, eqb-true, eqb-false}
use Rattle.values.specs.Values.{pick}
use Rattle.writing.specs.Buffer.{Text, puts}
use Rattle.naming.specs.Naming.{name_of}
use Rattle.signs.specs.Signs.{constant_text, unknown_text}
use Rattle.netlist.specs.Uses.{named}
use Rattle.netlist.specs.Infix.{node_name, operand_below, own_text}

-- ---- operand_below

module _ (names ws us : List ℕ) where
  pub operand-late : (n m : ℕ) → n ≤ m → operand_below names ws us n m ≡ node_name m
  unfolding operand_below
  operand-late zero m h = refl
  operand-late (suc n) m h = rw (ne_eqb m n (omega arith)) (operand-late n m (omega arith))

  operand-early : (n m : ℕ) → m < n
      → operand_below names ws us n m ≡ pick (named ws us m) (node_name m) (own_text names ws us m)
  unfolding operand_below own_text
  operand-early zero m h = absurd (not-suc-le-zero h)
  operand-early (suc n) m h = by (eqb m n) refl (λ l. operand-early n m l)
    where
      by : (t : Bool) → eqb m n ≡ t
          → (m < n → operand_below names ws us n m ≡ pick (named ws us m) (node_name m) (own_text names ws us m))
          → operand_below names ws us (suc n) m ≡ pick (named ws us m) (node_name m) (own_text names ws us m)
      by true e rest = rw (e, eqb-true m n e)
      by false e rest = rw e (rest (omega (arith, eqb-false m n e)))

  module _ (n m : ℕ) (h : m < n) {t : Bool} (e : t ≡ named ws us m) where
    pub operand-named : t ≡ true → operand_below names ws us n m ≡ node_name m
    operand-named f = operand-early n m h ∙ rw (← e, f)

    pub operand-inline : t ≡ false → operand_below names ws us n m ≡ own_text names ws us m
    operand-inline f = operand-early n m h ∙ rw (← e, f)

-- ---- a text of a number that is known by another name

module _ (t u : Text) where
  pub name_by : (names : List ℕ) (v k : ℕ) → u ≡ puts t (name_of names k) → k ≡ v → u ≡ puts t (name_of names v)
  name_by names v k p e = p ∙ ap (λ x. puts t (name_of names x)) e

  pub constant_by : (w k n : ℕ) → u ≡ puts t (constant_text k n) → k ≡ w → u ≡ puts t (constant_text w n)
  constant_by w k n p e = p ∙ ap (λ x. puts t (constant_text x n)) e

  pub unknown-by : (w k : ℕ) → u ≡ puts t (unknown_text k) → k ≡ w → u ≡ puts t (unknown_text w)
  unknown-by w k p e = p ∙ ap (λ x. puts t (unknown_text x)) e
