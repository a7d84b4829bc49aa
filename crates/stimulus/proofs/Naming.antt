-- The rows of the tables that a line of the names file goes by. Assumes nothing.
use native.Mathlib.Omega.{arith}
use Rattle.std.specs.Prelude.{Some, None}
use mathlib.Core.Path.{◌≡◌, refl, sym, ap, ◌∙◌}
use mathlib.Core.Bool.{Bool, true, false}
use mathlib.Core.List.{List}
use Prim.Native.Nat.{ℕ, ◌+◌, ◌-◌, ◌<◌, ◌≤◌}
use borrow.Author.Tests.{ltb-false, lt-ltb, le-ltb, le-leb, lt-leb, eq-eqb, ne_eqb}
use lib.Dec.{ltb}
use lib.ListN.{length, get_or, drop}
use Rattle.stimulus.specs.declared.Class.TheVariants.{Blank, Word, Name}
use Rattle.stimulus.specs.declared.Number.{Number}
use Rattle.stimulus.specs.Words.{run_end, ended}
use Rattle.stimulus.specs.Numbers.{number_of}
use Rattle.stimulus.specs.Lines.{word_at}
use Rattle.stimulus.specs.Names.{below, variable_of, variable_in, number_in, name_line, name_error, name_after, name_of}

-- ---- variable_of

module _ (word : List ℕ) (inputs registers wires : ℕ) where
  pub variable-short : length word < 2 → 256 ≡ variable_of word inputs registers wires
  unfolding variable_of
  variable-short h = rw (lt-leb 2 (length word) h)

  module _ (a : Number) (e : a ≡ number_of false (drop 1 word)) (h : 2 ≤ length word) where
    pub variable-bad : a.good ≡ false → 256 ≡ variable_of word inputs registers wires
    unfolding variable_of
    variable-bad g = rw (le-leb 2 (length word) h, ← e, g)

    module _ (g : a.good ≡ true) where
      pub variable-input : get_or word 0 0 ≡ 105 → below 0 inputs a.n ≡ variable_of word inputs registers wires
      unfolding variable_of
      variable-input i = rw (le-leb 2 (length word) h, ← e, g, eq-eqb (get_or word 0 0) 105 i)

      pub variable-register :
          (get_or word 0 0 ≡ 105 → ⊥) → get_or word 0 0 ≡ 114 → below inputs registers a.n ≡ variable_of word inputs registers wires
      unfolding variable_of
      variable-register i j = rw (le-leb 2 (length word) h, ← e, g, ne_eqb (get_or word 0 0) 105 i, eq-eqb (get_or word 0 0) 114 j)

      pub variable-wire :
          (get_or word 0 0 ≡ 105 → ⊥) → (get_or word 0 0 ≡ 114 → ⊥) → get_or word 0 0 ≡ 119 →
          below (inputs + registers) wires a.n ≡ variable_of word inputs registers wires
      unfolding variable_of
      variable-wire i j k =
          rw (
            le-leb 2 (length word) h,
            ← e,
            g,
            ne_eqb (get_or word 0 0) 105 i,
            ne_eqb (get_or word 0 0) 114 j,
            eq-eqb (get_or word 0 0) 119 k,
          )

      pub variable-none :
          (get_or word 0 0 ≡ 105 → ⊥) → (get_or word 0 0 ≡ 114 → ⊥) → (get_or word 0 0 ≡ 119 → ⊥) →
          256 ≡ variable_of word inputs registers wires
      unfolding variable_of
      variable-none i j k =
          rw (
            le-leb 2 (length word) h,
            ← e,
            g,
            ne_eqb (get_or word 0 0) 105 i,
            ne_eqb (get_or word 0 0) 114 j,
            ne_eqb (get_or word 0 0) 119 k,
          )

-- ---- name_error

module _ (line : List ℕ) (from to : ℕ) where
  pub name-none : to ≤ from → 3 ≡ name_error line from to
  unfolding name_error
  name-none h = rw (le-ltb from to h)

  module _ (h : from < to) where
    pub name-long : 31 < to - from → 3 ≡ name_error line from to
    unfolding name_error
    name-long l = rw (lt-ltb from to h, lt-leb (to - from) 31 l)

    module _ (l : to - from ≤ 31) where
      pub name-digit : get_or line from 0 < 58 → 3 ≡ name_error line from to
      unfolding name_error
      name-digit d = rw (lt-ltb from to h, le-leb (to - from) 31 l, lt-leb 58 (get_or line from 0) d)

      pub name-alone : 58 ≤ get_or line from 0 → ended line (run_end Blank line to) ≡ true → 0 ≡ name_error line from to
      unfolding name_error
      name-alone d e = rw (lt-ltb from to h, le-leb (to - from) 31 l, le-leb 58 (get_or line from 0) d, e)

      pub name-followed : 58 ≤ get_or line from 0 → ended line (run_end Blank line to) ≡ false → 3 ≡ name_error line from to
      unfolding name_error
      name-followed d e = rw (lt-ltb from to h, le-leb (to - from) 31 l, le-leb 58 (get_or line from 0) d, e)

-- ---- name_after, name_of

module _ (line : List ℕ) (p to v from end : ℕ) (r : from ≡ run_end Blank line to) (s : end ≡ run_end Name line from) where
  pub after_none : 256 ≤ v → name_line 2 (p + 1) 0 from end ≡ name_after line p to v
  unfolding name_after
  after_none h = rw (le-ltb v 256 h, ← r, ← s)

  pub after-name : (x : ℕ) → v < 256 → x ≡ name_error line from end → name_line x (from + 1) v from end ≡ name_after line p to v
  unfolding name_after
  after-name x h e = rw (lt-ltb v 256 h, ← r, ← s, e)

-- A number above 255 is no variable, whichever it is.
variable-some : (v : ℕ) → ltb v 256 ≡ true → variable_in v ≡ Some v
variable-some v e = rw e refl

variable-empty : (v : ℕ) → ltb v 256 ≡ false → variable_in v ≡ None
variable-empty v e = rw e refl

pub after-in : (line : List ℕ) (p to v : ℕ) → name_after line p to (number_in (variable_in v)) ≡ name_after line p to v
after-in line p to v = by (ltb v 256) refl
  where
    by : (t : Bool) → ltb v 256 ≡ t → name_after line p to (number_in (variable_in v)) ≡ name_after line p to v
    by true e = ap (λ o. name_after line p to (number_in o)) (variable-some v e)
    by false e =
        ap (λ o. name_after line p to (number_in o)) (variable-empty v e)
        ∙ sym (after_none line p to 256 _ _ refl refl (omega arith))
        ∙ after_none line p to v _ _ refl refl (ltb-false v 256 e)

module _ (line : List ℕ) (inputs registers wires p : ℕ) (r : p ≡ run_end Blank line 0) where
  pub line-blank : ended line p ≡ true → name_line 1 (p + 1) 0 p p ≡ name_of line inputs registers wires
  unfolding name_of
  line-blank e = rw (← r, e)

  pub line-named :
      (to : ℕ) → to ≡ run_end Word line p → ended line p ≡ false →
      name_after line p to (variable_of (word_at line p to) inputs registers wires) ≡ name_of line inputs registers wires
  unfolding name_of
  line-named to s e = rw (s, ← r, e)
