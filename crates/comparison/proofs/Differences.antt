-- Where two rows differ, case by case, and how the search goes along the orders. Assumes nothing.
use mathlib.Core.Path.{◌≡◌}
use mathlib.Core.Bool.{Bool, true, false, not}
use mathlib.Core.List.{List, [], ◌∷◌}
use Prim.Native.Nat.{ℕ, ◌+◌, ◌<◌, ◌≤◌}
use borrow.Author.Tests.{lt-ltb, le-ltb, eq-eqb, ne_eqb}
use lib.Dec.{eqb}
use Rattle.values.specs.declared.Value.{Value}
use Rattle.values.specs.Values.{same}
use Rattle.stimulus.specs.Counting.{first_from}
use Rattle.values.specs.Cells.{cell_at}
use Rattle.comparison.specs.declared.Counts.{Counts}
use Rattle.comparison.specs.declared.Difference.{Difference}
use Rattle.comparison.specs.declared.Difference.TheVariants.{Nowhere, Variable, Place}
use Rattle.comparison.specs.declared.Finding.TheVariants.{Same, Apart}
use Rattle.comparison.specs.Comparison.{values_differ, places_differ, difference, differs, finding_from, finding}

-- ---- difference, case by case

module _ (m : Counts) (a b : List ℕ) (v : ℕ) (e : v ≡ first_from (values_differ a b) (m.registers + m.wires) m.inputs) where
  pub difference-variable :
      v < m.inputs + (m.registers + m.wires) → Variable v (cell_at a v) (cell_at b v) ≡ difference m a b
  unfolding difference
  difference-variable l = rw (← e, lt-ltb v (m.inputs + (m.registers + m.wires)) l)

  module _ (l : m.inputs + (m.registers + m.wires) ≤ v) (i : ℕ) (h : i ≡ first_from (places_differ a b) m.threads 0) where
    pub difference-place : i < m.threads → Place i ≡ difference m a b
    unfolding difference
    difference-place k = rw (← e, le-ltb v (m.inputs + (m.registers + m.wires)) l, ← h, lt-ltb i m.threads k)

    pub difference-none : m.threads ≤ i → Nowhere ≡ difference m a b
    unfolding difference
    difference-none k = rw (← e, le-ltb v (m.inputs + (m.registers + m.wires)) l, ← h, le-ltb i m.threads k)

-- ---- finding, order by order

module _ (m : Counts) (p a b expressed : List ℕ) {d : Difference} (e : d ≡ difference m p expressed) where
  pub finding-1 : differs d ≡ true → Apart 0 d ≡ finding m (p ∷ a ∷ b ∷ []) expressed
  unfolding finding finding_from
  finding-1 h = rw (← e, h)

  module _ (h : differs d ≡ false) {f : Difference} (g : f ≡ difference m a expressed) where
    pub finding-2 : differs f ≡ true → Apart 1 f ≡ finding m (p ∷ a ∷ b ∷ []) expressed
    unfolding finding finding_from
    finding-2 k = rw (← e, h, ← g, k)

    module _ (k : differs f ≡ false) {o : Difference} (q : o ≡ difference m b expressed) where
      pub finding-3 : differs o ≡ true → Apart 2 o ≡ finding m (p ∷ a ∷ b ∷ []) expressed
      unfolding finding finding_from
      finding-3 l = rw (← e, h, ← g, k, ← q, l)

      pub finding-4 : differs o ≡ false → Same ≡ finding m (p ∷ a ∷ b ∷ []) expressed
      unfolding finding finding_from
      finding-4 l = rw (← e, h, ← g, k, ← q, l)

-- ---- what a turn of a search has found, from what its calls answered

pub value_found :
    {a b u v : Value} {x t : Bool} → a ≡ u → b ≡ v → x ≡ same a b → not x ≡ t → not (same u v) ≡ t
value_found p q e h = rw (← p, ← q, ← e) h

module _ {x y a b : ℕ} (p : x ≡ a) (q : y ≡ b) where
  pub place-apart : (x ≡ y → ⊥) → not (eqb a b) ≡ true
  place-apart h = rw (← p, ← q, ne_eqb x y h)

  pub place_same : x ≡ y → not (eqb a b) ≡ false
  place_same h = rw (← p, ← q, eq-eqb x y h)

-- ---- the code's numbers for the definition's: where a search starts, and over how many numbers it goes

pub found_from :
    (f : ℕ → Bool) {from k n m : ℕ} → from ≡ k → m ≡ n → first_from f m from ≡ first_from f n k
found_from f p q = rw (p, q)

pub variable-same :
    {v : ℕ} {a b x y : Value} → a ≡ x → b ≡ y → Variable v a b ≡ Variable v x y
variable-same p q = rw (p, q)
