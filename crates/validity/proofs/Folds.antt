-- Nodes are judged and worked out in order, each from those before it: what is found of a list of nodes stays found when nodes are
-- added behind it. Of the widths (widths_from), the check (nodes_fit), the landings and the values (worked).
use mathlib.Core.Path.{◌≡◌, refl, ap, ◌∙◌}
use mathlib.Core.Bool.{Bool, true, false, ◌&&◌}
use mathlib.Core.List.{List, [], ◌∷◌, ◌++◌}
use Prim.Native.Nat.{ℕ, suc, ◌+◌, ◌<◌}
use native.Mathlib.Omega.{arith}
use lib.ListN.{length, get_or, length-append, get_or-append}
use lib.Seq.{get_or-append_seam}
use Rattle.values.specs.declared.Value.{Value}
use Rattle.values.specs.Values.{nowhere}
use Rattle.sheet.specs.Expression.{Expr}
use Rattle.sheet.specs.Module.{Module}
use Rattle.nextstate.specs.Nodes.{Node, node_width, node_value, Worked, work_out, worked}
use Rattle.nextstate.specs.CycleRun.{node_fits, nodes_fit, widths_from, lands, landings}

snoc_old : {A : Type 0} (l : List A) (a d : A) (n : ℕ) → n < length l → get_or (l ++ (a ∷ [])) n d ≡ get_or l n d
snoc_old l a d n h = get_or-append l (a ∷ []) d n h

both : (a b : Bool) → (a && b) ≡ true → (a ≡ true) × (b ≡ true)
both true b h = (refl, h)
both false b h = let z : ◌≡◌ {A = ℕ} 0 1 = cc in absurd (omega arith)

snoc-length : {A : Type 0} (l : List A) (a : A) → length (l ++ (a ∷ [])) ≡ suc (length l)
snoc-length l a = omega (arith, length-append l (a ∷ []))

module _ (m : Module Expr) where
  -- ---- widths

  pub widths-append : (t u : List Node) (us : List ℕ) → widths_from m (t ++ u) us ≡ widths_from m u (widths_from m t us)
  unfolding widths_from
  widths-append [] u us = refl
  widths-append (n ∷ t) u us = widths-append t u (us ++ (node_width m.scope.widths us n ∷ []))

  pub widths-length : (t : List Node) (us : List ℕ) → length (widths_from m t us) ≡ length us + length t
  unfolding widths_from
  widths-length [] us = omega arith
  widths-length (n ∷ t) us =
      let w = node_width m.scope.widths us n in
      omega (arith, widths-length t (us ++ (w ∷ [])), snoc-length us w)

  widths-old : (t : List Node) (us : List ℕ) (n : ℕ) → n < length us → get_or (widths_from m t us) n 0 ≡ get_or us n 0
  unfolding widths_from
  widths-old [] us n h = refl
  widths-old (k ∷ t) us n h =
      let w = node_width m.scope.widths us k in
      widths-old t (us ++ (w ∷ [])) n (omega (arith, snoc-length us w)) ∙ snoc_old us w 0 n h

  -- The width of a node of t, also with nodes behind t.
  pub widths-grow : (t u : List Node) (n : ℕ) → n < length t → get_or (widths_from m (t ++ u) []) n 0 ≡ get_or (widths_from m t []) n 0
  widths-grow t u n h =
      ap (λ (l : List ℕ). get_or l n 0) (widths-append t u []) ∙ widths-old u (widths_from m t []) n (omega (arith, widths-length t []))

  pub widths-new : (t : List Node) (n : Node) → get_or (widths_from m (t ++ (n ∷ [])) []) (length t) 0 ≡ node_width m.scope.widths (widths_from m t []) n
  unfolding widths_from
  widths-new t n =
      let us = widths_from m t [] in
      let e : length t ≡ length us = omega (arith, widths-length t []) in
      ap (λ (l : List ℕ). get_or l (length t) 0) (widths-append t (n ∷ []) [])
      ∙ ap (λ k. get_or (us ++ (node_width m.scope.widths us n ∷ [])) k 0) e
      ∙ get_or-append_seam us (node_width m.scope.widths us n) [] 0

  -- ---- the check

  pub fit_append : (t u : List Node) (us : List ℕ) → nodes_fit m t us ≡ true → nodes_fit m u (widths_from m t us) ≡ true → nodes_fit m (t ++ u) us ≡ true
  unfolding nodes_fit widths_from
  fit_append [] u us h k = k
  fit_append (n ∷ t) u us h k =
      let l = both (node_fits m us n) _ h in
      rw l.0 (fit_append t u (us ++ (node_width m.scope.widths us n ∷ [])) l.1 k)

  pub fit-prefix : (t u : List Node) (us : List ℕ) → nodes_fit m (t ++ u) us ≡ true → nodes_fit m t us ≡ true
  unfolding nodes_fit
  fit-prefix [] u us h = refl
  fit-prefix (n ∷ t) u us h =
      let l = both (node_fits m us n) _ h in
      rw l.0 (fit-prefix t u (us ++ (node_width m.scope.widths us n ∷ [])) l.1)

  pub fit-snoc : (t : List Node) (n : Node) → nodes_fit m t [] ≡ true → node_fits m (widths_from m t []) n ≡ true → nodes_fit m (t ++ (n ∷ [])) [] ≡ true
  unfolding nodes_fit
  fit-snoc t n h k = fit_append t (n ∷ []) [] h (rw k refl)

  -- ---- landings

  module _ (i : ℕ) where
    landings-append : (t u : List Node) (ls : List Bool) → landings m i (t ++ u) ls ≡ landings m i u (landings m i t ls)
    unfolding landings
    landings-append [] u ls = refl
    landings-append (n ∷ t) u ls = landings-append t u (ls ++ (lands m i ls n ∷ []))

    pub landings-length : (t : List Node) (ls : List Bool) → length (landings m i t ls) ≡ length ls + length t
    unfolding landings
    landings-length [] ls = omega arith
    landings-length (n ∷ t) ls =
        let b = lands m i ls n in
        omega (arith, landings-length t (ls ++ (b ∷ [])), snoc-length ls b)

    landings-old : (t : List Node) (ls : List Bool) (n : ℕ) → n < length ls → get_or (landings m i t ls) n false ≡ get_or ls n false
    unfolding landings
    landings-old [] ls n h = refl
    landings-old (k ∷ t) ls n h =
        let b = lands m i ls k in
        landings-old t (ls ++ (b ∷ [])) n (omega (arith, snoc-length ls b)) ∙ snoc_old ls b false n h

    pub landings-grow : (t u : List Node) (n : ℕ) → n < length t → get_or (landings m i (t ++ u) []) n false ≡ get_or (landings m i t []) n false
    landings-grow t u n h =
        ap (λ (l : List Bool). get_or l n false) (landings-append t u [])
        ∙ landings-old u (landings m i t []) n (omega (arith, landings-length t []))

    pub landings-new : (t : List Node) (n : Node) → get_or (landings m i (t ++ (n ∷ [])) []) (length t) false ≡ lands m i (landings m i t []) n
    unfolding landings
    landings-new t n =
        let ls = landings m i t [] in
        let e : length t ≡ length ls = omega (arith, landings-length t []) in
        ap (λ (l : List Bool). get_or l (length t) false) (landings-append t (n ∷ []) [])
        ∙ ap (λ k. get_or (ls ++ (lands m i ls n ∷ [])) k false) e
        ∙ get_or-append_seam ls (lands m i ls n) [] false

-- ---- values

module _ (ws : List ℕ) (f : ℕ → Value) where
  -- One node more.
  abbrev onward : Worked → Node → Worked
  onward w n =
      record {
        widths = w.widths ++ (node_width ws w.widths n ∷ []);
        values = w.values ++ (node_value w.widths f w.values n ∷ []);
      }

  work-append : (t u : List Node) (w : Worked) → work_out ws f (t ++ u) w ≡ work_out ws f u (work_out ws f t w)
  unfolding work_out
  work-append [] u w = refl
  work-append (n ∷ t) u w = work-append t u (onward w n)

  work-length : (t : List Node) (w : Worked) → length (work_out ws f t w).values ≡ length w.values + length t
  unfolding work_out
  work-length [] w = omega arith
  work-length (n ∷ t) w = omega (arith, work-length t (onward w n), snoc-length w.values (node_value w.widths f w.values n))

  work-old : (t : List Node) (w : Worked) (n : ℕ) → n < length w.values → get_or (work_out ws f t w).values n nowhere ≡ get_or w.values n nowhere
  unfolding work_out
  work-old [] w n h = refl
  work-old (k ∷ t) w n h =
      let a = node_value w.widths f w.values k in
      work-old t (onward w k) n (omega (arith, snoc-length w.values a)) ∙ snoc_old w.values a nowhere n h

  pub worked-length : (t : List Node) → length (worked ws f t).values ≡ length t
  unfolding worked
  worked-length t = omega (arith, work-length t (record { widths = []; values = [] }))

  pub worked-grow : (t u : List Node) (n : ℕ) → n < length t → get_or (worked ws f (t ++ u)).values n nowhere ≡ get_or (worked ws f t).values n nowhere
  unfolding worked
  worked-grow t u n h =
      let w : Worked = record { widths = []; values = [] } in
      ap (λ (l : Worked). get_or l.values n nowhere) (work-append t u w)
      ∙ work-old u (work_out ws f t w) n (omega (arith, work-length t w))
