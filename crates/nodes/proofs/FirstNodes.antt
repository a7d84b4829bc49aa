-- The first n nodes of lent tables: their widths, whether they fit and where they land, and what one node more adds. Assumes
-- nothing.
use mathlib.Core.Path.{◌≡◌, refl, sym, ap, ◌∙◌}
use mathlib.Core.Bool.{Bool, true, false, ◌&&◌}
use mathlib.Core.List.{List, [], ◌∷◌, ◌++◌}
use Prim.Native.Nat.{ℕ, zero, suc, ◌+◌, ◌≤◌, ◌<◌}
use native.Mathlib.Numerals.{add-one}
use native.Mathlib.Decide.{ℕ_discrete}
use native.Mathlib.Omega.{arith}
use lib.ListN.{length, length-append}
use Rattle.sheet.specs.Expression.{Expr}
use Rattle.sheet.specs.Module.{Module}
use Rattle.state.specs.Rows.{list_of}
use Rattle.events.proofs.Cycle.{and_left, and_right}
use Rattle.nextstate.specs.Nodes.{Node, node_width}
use Rattle.nextstate.specs.CycleRun.{node_fits, nodes_fit, widths_from, lands, landings}

and_both : (t p q r : Bool) → p ≡ (q && r) → (t && p) ≡ ((t && q) && r)
and_both true p q r h = h
and_both false p q r h = refl

module _ (m : Module Expr) where
  -- ---- one node more at the end

  pub widths-snoc :
      (xs : List Node) (d : Node) (us : List ℕ) →
      widths_from m (xs ++ (d ∷ [])) us ≡ widths_from m xs us ++ (node_width m.scope.widths (widths_from m xs us) d ∷ [])
  unfolding widths_from
  widths-snoc [] d us = refl
  widths-snoc (x ∷ xs) d us = widths-snoc xs d (us ++ (node_width m.scope.widths us x ∷ []))

  pub fit-snoc :
      (xs : List Node) (d : Node) (us : List ℕ) →
      nodes_fit m (xs ++ (d ∷ [])) us ≡ (nodes_fit m xs us && node_fits m (widths_from m xs us) d)
  unfolding nodes_fit widths_from
  fit-snoc [] d us = and-true (node_fits m us d)
    where
      and-true : (t : Bool) → (t && true) ≡ t
      and-true true = refl
      and-true false = refl
  fit-snoc (x ∷ xs) d us =
      let more = us ++ (node_width m.scope.widths us x ∷ []) in
      and_both (node_fits m us x) _ (nodes_fit m xs more) (node_fits m (widths_from m xs more) d) (fit-snoc xs d more)

  pub landings-snoc :
      (i : ℕ) (xs : List Node) (d : Node) (ls : List Bool) →
      landings m i (xs ++ (d ∷ [])) ls ≡ landings m i xs ls ++ (lands m i (landings m i xs ls) d ∷ [])
  unfolding landings
  landings-snoc i [] d ls = refl
  landings-snoc i (x ∷ xs) d ls = landings-snoc i xs d (ls ++ (lands m i ls x ∷ []))

  -- ---- the first n nodes of f

  module _ (f : ℕ → Node) where
    abbrev pub widths_to : ℕ → List ℕ
    widths_to n = widths_from m (list_of n f) []

    pub widths-next : (n : ℕ) → widths_to (suc n) ≡ widths_to n ++ (node_width m.scope.widths (widths_to n) (f n) ∷ [])
    unfolding list_of
    widths-next n = widths-snoc (list_of n f) (f n) []

    pub fit_next : (n : ℕ) → nodes_fit m (list_of (suc n) f) [] ≡ (nodes_fit m (list_of n f) [] && node_fits m (widths_to n) (f n))
    unfolding list_of
    fit_next n = fit-snoc (list_of n f) (f n) []

    pub length-widths : (n : ℕ) → length (widths_to n) ≡ n
    unfolding list_of widths_from
    length-widths zero = refl
    length-widths (suc n) =
        ap length (widths-next n) ∙ length-append (widths_to n) _ ∙ rw (length-widths n) (add-one n)

    -- Where all fit, each does, and so do the first ones.
    pub fit-first : (k n : ℕ) → n ≤ k → nodes_fit m (list_of k f) [] ≡ true → nodes_fit m (list_of n f) [] ≡ true
    fit-first zero n l h = let e : n ≡ 0 = omega arith in rw e h
    fit-first (suc k) n l h =
        by (λ o. fit-first k n o (and_left (nodes_fit m (list_of k f) []) _ (sym (fit_next k) ∙ h))) (ℕ_discrete n (suc k))
      where
        by : (n ≤ k → nodes_fit m (list_of n f) [] ≡ true) → Dec (n ≡ suc k) → nodes_fit m (list_of n f) [] ≡ true
        by g (yes e) = rw e h
        by g (no d) = g (omega arith)

    pub fit-node : (k n : ℕ) → n < k → nodes_fit m (list_of k f) [] ≡ true → node_fits m (widths_to n) (f n) ≡ true
    fit-node k n l h = and_right (nodes_fit m (list_of n f) []) _ (sym (fit_next n) ∙ fit-first k (suc n) l h)

    pub landings-next :
        (i n : ℕ) → landings m i (list_of (suc n) f) [] ≡ landings m i (list_of n f) [] ++ (lands m i (landings m i (list_of n f) []) (f n) ∷ [])
    unfolding list_of
    landings-next i n = landings-snoc i (list_of n f) (f n) []

    pub length-landings : (i n : ℕ) → length (landings m i (list_of n f) []) ≡ n
    unfolding list_of landings
    length-landings i zero = refl
    length-landings i (suc n) =
        ap length (landings-next i n) ∙ length-append (landings m i (list_of n f) []) _ ∙ rw (length-landings i n) (add-one n)
