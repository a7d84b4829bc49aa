-- Laws of one node of lent tables, by its kind and its number, and of the count of the nodes. Assumes nothing.
use mathlib.Core.Path.{◌≡◌, refl}
use mathlib.Core.Bool.{Bool, true, false}
use mathlib.Core.List.{List}
use Prim.Native.Nat.{ℕ, zero, suc, ◌+◌, ◌*◌, ◌-◌, ◌≤◌, ◌<◌}
use native.Mathlib.Numerals.{sub-one}
use native.Mathlib.Omega.{arith}
use lib.ListN.{get_or}
use lib.Dec.{eqb}
use borrow.Author.Tests.{lt-ltb, le-ltb, eq-eqb, ne_eqb}
use Rattle.values.specs.Values.{pick}
use Rattle.nextstate.specs.Nodes.{an_unknown, node_at}
use Rattle.netlist.specs.Cells.{node_in, blank, count_below}

module _ (ws : List ℕ) where
  -- ---- node_in

  pub node-past : (n : ℕ) → 4096 ≤ n → an_unknown 0 ≡ node_in ws n
  unfolding node_in
  node-past n h = rw (le-ltb n 4096 h)

  pub node-in : (n : ℕ) → n < 4096 → node_at ws n ≡ node_in ws n
  unfolding node_in
  node-in n h = rw (lt-ltb n 4096 h)

  -- ---- blank: by the first word that isn't 0

  module _ (n : ℕ) where
    pub blank-kind : (get_or ws (4 * n) 0 ≡ 0 → ⊥) → false ≡ blank ws n
    unfolding blank
    blank-kind p = rw (ne_eqb (get_or ws (4 * n) 0) 0 p)

    module _ (z : get_or ws (4 * n) 0 ≡ 0) where
      pub blank-first : (get_or ws (4 * n + 1) 0 ≡ 0 → ⊥) → false ≡ blank ws n
      unfolding blank
      blank-first p = rw (eq-eqb (get_or ws (4 * n) 0) 0 z, ne_eqb (get_or ws (4 * n + 1) 0) 0 p)

      module _ (y : get_or ws (4 * n + 1) 0 ≡ 0) where
        pub blank-second : (get_or ws (4 * n + 2) 0 ≡ 0 → ⊥) → false ≡ blank ws n
        unfolding blank
        blank-second p =
            rw (eq-eqb (get_or ws (4 * n) 0) 0 z, eq-eqb (get_or ws (4 * n + 1) 0) 0 y, ne_eqb (get_or ws (4 * n + 2) 0) 0 p)

        pub blank-third : get_or ws (4 * n + 2) 0 ≡ 0 → eqb (get_or ws (4 * n + 3) 0) 0 ≡ blank ws n
        unfolding blank
        blank-third p =
            rw (eq-eqb (get_or ws (4 * n) 0) 0 z, eq-eqb (get_or ws (4 * n + 1) 0) 0 y, eq-eqb (get_or ws (4 * n + 2) 0) 0 p)

  -- ---- count_below

  pub count-filled : (n : ℕ) → 0 < n → blank ws (n - 1) ≡ false → n ≡ count_below ws n
  unfolding count_below
  count-filled zero l e = omega arith
  count-filled (suc n) l e = let f = rw sub-one at e in rw f

  pub count-blank : (n : ℕ) → 0 < n → blank ws (n - 1) ≡ true → count_below ws (n - 1) ≡ count_below ws n
  unfolding count_below
  count-blank zero l e = omega arith
  count-blank (suc n) l e = let f = rw sub-one at e in rw (sub-one, f)

  pub count-one : (n : ℕ) → n ≤ 1 → 1 ≡ count_below ws n
  unfolding count_below
  count-one zero l = refl
  count-one (suc zero) l = by (blank ws 0)
    where
      by : (t : Bool) → ◌≡◌ {A = ℕ} 1 (pick t 1 1)
      by true = refl
      by false = refl
  count-one (suc (suc n)) l = omega arith
