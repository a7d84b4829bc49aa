-- The entries of a wait's row, on lent tables that fit: they are nodes, of those that are copied. Assumes nothing.
use mathlib.Core.Path.{◌≡◌, refl, ◌∙◌}
use mathlib.Core.Bool.{Bool, true, false, not, ◌||◌}
use mathlib.Core.List.{List, [], ◌∷◌, ◌++◌}
use Prim.Native.Nat.{ℕ, ◌+◌, ◌*◌, ◌<◌}
use native.Mathlib.Omega.{arith}
use borrow.Author.Tests.{ltb-true, ltb-false}
use lib.Dec.{ltb, eqb}
use lib.ListN.{length, get_or, length-append, get_or-eq_default}
use Rattle.sheet.specs.Expression.{Expr}
use Rattle.sheet.specs.Module.{Module}
use Rattle.masks.specs.Masks.{bits}
use Rattle.state.specs.Rows.{list_of}
use Rattle.state.proofs.Rows.{length-list_of}
use Rattle.events.specs.Cycle.{code_of, instr_at, is_wait, all_below}
use Rattle.events.specs.Calls.{width_of}
use Rattle.events.proofs.Cycle.{absurd-bool, and_left, and_right, all-below}
use Rattle.nextstate.specs.Rules.{writes}
use Rattle.nextstate.specs.Nodes.{Node, node_at}
use Rattle.nextstate.specs.Extraction.{Tables}
use Rattle.nextstate.specs.Book.{row_of, entry}
use Rattle.nextstate.specs.CycleRun.{nodes_fit, widths_from, lands, landings, register_fits, row_fits, rows_fit, tables_fit, tables_in}
use Rattle.clock_nodes.specs.Rows.{entry_at}
use Rattle.clock_nodes.specs.Reach.{Counted}
use Rattle.clock_steps.specs.Claims.{Lent}
use Rattle.clock_steps.proofs.RowNumbers.{wait-inside}

landings-length : (m : Module Expr) (i : ℕ) (ds : List Node) (ls : List Bool) → length (landings m i ds ls) ≡ length ls + length ds
unfolding landings
landings-length m i [] ls = omega arith
landings-length m i (d ∷ ds) ls = landings-length m i ds (ls ++ (lands m i ls d ∷ [])) ∙ simp length-append (omega arith)

marked-below : (xs : List Bool) (n : ℕ) → get_or xs n false ≡ true → n < length xs
marked-below xs n h = by (ltb n (length xs)) refl
  where
    by : (t : Bool) → ltb n (length xs) ≡ t → n < length xs
    by true e = ltb-true n (length xs) e
    by false e = absurd-bool h (get_or-eq_default xs false (ltb-false n (length xs) e))

module _ (m : Module Expr) (ns us rs written : List ℕ) (l : Lent m ns us rs written) where
  abbrev T : Tables
  T = tables_in ns rs

  pub nodes-fit : nodes_fit m (list_of 4096 (node_at ns)) [] ≡ true
  unfolding tables_fit tables_in
  nodes-fit = and_left (nodes_fit m (list_of 4096 (node_at ns)) []) (rows_fit m T) l.fit

  rows-fit : rows_fit m T ≡ true
  unfolding tables_fit tables_in
  rows-fit = and_right (nodes_fit m (list_of 4096 (node_at ns)) []) (rows_fit m T) l.fit

  module _ (i p : ℕ) (o : i < length m.threads) (h : is_wait (instr_at (code_of m i) p) ≡ true) where
    row-fits : row_fits m T i p ≡ true
    unfolding rows_fit
    row-fits =
        let t =
        all-below (λ p. not (is_wait (instr_at (code_of m i) p)) || row_fits m T i p) (length (code_of m i))
        (all-below
        (λ i. all_below (length (code_of m i)) (λ p. not (is_wait (instr_at (code_of m i) p)) || row_fits m T i p))
        (length m.threads) rows-fit i o) p (wait-inside (code_of m i) p h) in
        rw h at t

    abbrev registers_in : Bool
    registers_in = all_below m.scope.registers (λ r. not (writes m i (m.scope.inputs + r)) || register_fits m T i p r)

    abbrev lands_in : Bool
    lands_in = get_or (landings m i (list_of 4096 (node_at ns)) []) (entry m T i p 32) false

    pub place-lands : lands_in ≡ true
    unfolding row_fits tables_in
    place-lands = and_right registers_in lands_in row-fits

    pub register-fits : (r : ℕ) → r < m.scope.registers → writes m i (m.scope.inputs + r) ≡ true → register_fits m T i p r ≡ true
    unfolding row_fits tables_in
    register-fits r u e =
        let t =
        all-below (λ r. not (writes m i (m.scope.inputs + r)) || register_fits m T i p r) m.scope.registers
        (and_left registers_in lands_in row-fits) r u in
        rw e at t

    pub entry-is : (c : ℕ) → entry m T i p c ≡ entry_at rs (row_of m T i p) c
    unfolding entry entry_at tables_in
    entry-is c = refl

    register-node : (r : ℕ) → r < m.scope.registers → writes m i (m.scope.inputs + r) ≡ true → entry m T i p r < 4096
    unfolding register_fits tables_in
    register-node r u e =
        let n = entry m T i p r in
        let t =
        and_left (ltb n (length (list_of 4096 (node_at ns))))
        (eqb (get_or (widths_from m (list_of 4096 (node_at ns)) []) n 0) (width_of m (m.scope.inputs + r))) (register-fits r u e) in
        omega (arith, ltb-true n (length (list_of 4096 (node_at ns))) t, length-list_of (node_at ns) 4096)

    place-node : entry m T i p 32 < 4096
    place-node =
        omega (
          arith,
          marked-below (landings m i (list_of 4096 (node_at ns)) []) (entry m T i p 32) place-lands,
          landings-length m i (list_of 4096 (node_at ns)) [],
          length-list_of (node_at ns) 4096,
        )

    module _ (count : ℕ) (k : Counted rs count) where
      counted : (c : ℕ) → entry_at rs (row_of m T i p) c < 4096 → entry_at rs (row_of m T i p) c < count
      unfolding entry_at
      counted c u = k.entry (33 * row_of m T i p + c) u

      pub place_in : entry_at rs (row_of m T i p) 32 < count
      place_in = counted 32 (rw (entry-is 32) at place-node)

      pub register-in : (r : ℕ) → get_or (bits (get_or written i 0)) r false ≡ true → entry_at rs (row_of m T i p) r < count
      register-in r u =
          let x : writes m i (m.scope.inputs + r) ≡ true = rw (l.writers i r o) at u in
          let y = l.only i (m.scope.inputs + r) o x in
          let z : r < m.scope.registers = omega (arith, y.1) in
          counted r (rw (entry-is r) at (register-node r z x))
