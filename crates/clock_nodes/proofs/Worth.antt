-- What the nodes of lent tables are worth, where all are in order: a node's operands are earlier, so that its width and its worth follow
-- from those of the whole table. Assumes nothing.
use mathlib.Core.Path.{◌≡◌, refl, ◌∙◌}
use mathlib.Core.Bool.{Bool, true, false, ◌&&◌}
use mathlib.Core.List.{List, [], ◌∷◌, ◌++◌}
use Prim.Native.Nat.{ℕ, zero, suc, ◌+◌, ◌*◌, ◌^◌, ◌≤◌, ◌<◌}
use native.Mathlib.Nat.{not-suc-le-zero}
use native.Mathlib.Omega.{arith}
use borrow.Author.Tests.{ltb-true, leb-true}
use lib.Dec.{ltb, leb, eqb}
use lib.ListN.{length, get_or, length-append, get_or-append}
use lib.Seq.{get_or_at}
use Rattle.values.specs.declared.Value.{Value}
use Rattle.values.specs.Values.{pick, known, all_unknown, nowhere, holds}
use Rattle.values.specs.Operators.{unary_width, binary_width}
use Rattle.values.specs.Cells.{small}
use Rattle.values.proofs.Values.{fits-known, fits-unknown}
use Rattle.values.proofs.Operators.{fits-small, unary-small, binary-small, choice-small, pick_small}
use Rattle.sheet.specs.Expression.{Expr}
use Rattle.sheet.specs.Module.{Module}
use Rattle.state.specs.Rows.{list_of}
use Rattle.state.proofs.Rows.{length-list_of, get_d-list_of}
use Rattle.events.specs.Cycle.{variables}
use Rattle.events.proofs.Cycle.{and_left, and_right, Below, at-end, before, below_suc}
use Rattle.nextstate.specs.Nodes.{Node, a_variable, a_constant, an_unknown, a_unary, a_binary, a_conditional, a_branch, node_from, node_at}
use Rattle.nextstate.specs.Nodes.{node_width, node_value, Worked, work_out, worked}
use Rattle.nextstate.specs.CycleRun.{width?, node_fits, nodes_fit, widths_from}

-- ---- the operands of a node that fits

abbrev pub arms : List ℕ → ℕ → ℕ → Bool
arms us a b = ltb a (length us) && (ltb b (length us) && eqb (get_or us a 0) (get_or us b 0))

module _ (us : List ℕ) (a b : ℕ) (h : arms us a b ≡ true) where
  pub arm-left : a < length us
  arm-left = ltb-true a (length us) (and_left (ltb a (length us)) (ltb b (length us) && eqb (get_or us a 0) (get_or us b 0)) h)

  pub arm-right : b < length us
  arm-right =
      ltb-true b (length us)
      (and_left (ltb b (length us)) (eqb (get_or us a 0) (get_or us b 0))
      (and_right (ltb a (length us)) (ltb b (length us) && eqb (get_or us a 0) (get_or us b 0)) h))

module _ (us : List ℕ) (c a b : ℕ) (h : (ltb c (length us) && arms us a b) ≡ true) where
  pub condition : c < length us
  condition = ltb-true c (length us) (and_left (ltb c (length us)) (arms us a b) h)

  pub both : arms us a b ≡ true
  both = and_right (ltb c (length us)) (arms us a b) h

-- ---- width and worth by longer lists

module _ (m : Module Expr) (us uu : List ℕ) (keep : (a : ℕ) → a < length us → get_or uu a 0 ≡ get_or us a 0) where
  width-longer : (ws : List ℕ) (d : Node) → node_fits m us d ≡ true → node_width ws us d ≡ node_width ws uu d
  unfolding node_fits node_width
  width-longer ws (a_variable v) h = refl
  width-longer ws (a_constant w n) h = refl
  width-longer ws (an_unknown w) h = refl
  width-longer ws (a_unary o a) h = rw (keep a (ltb-true a (length us) h))
  width-longer ws (a_binary o a b) h = rw (keep a (arm-left us a b h))
  width-longer ws (a_conditional c a b) h = rw (keep a (arm-left us a b (both us c a b h)))
  width-longer ws (a_branch c a b) h = rw (keep a (arm-left us a b (both us c a b h)))

  module _ (f : ℕ → Value) (vs vv : List Value) (kept : (a : ℕ) → a < length us → get_or vv a nowhere ≡ get_or vs a nowhere) where
    worth-longer : (d : Node) → node_fits m us d ≡ true → node_value us f vs d ≡ node_value uu f vv d
    unfolding node_fits node_value
    worth-longer (a_variable v) h = refl
    worth-longer (a_constant w n) h = refl
    worth-longer (an_unknown w) h = refl
    worth-longer (a_unary o a) h = let l = ltb-true a (length us) h in rw (keep a l, kept a l)
    worth-longer (a_binary o a b) h =
        let l = arm-left us a b h in
        rw (keep a l, kept a l, kept b (arm-right us a b h))
    worth-longer (a_conditional c a b) h =
        let x = both us c a b h in
        rw (kept c (condition us c a b h), kept a (arm-left us a b x), kept b (arm-right us a b x))
    worth-longer (a_branch c a b) h =
        let x = both us c a b h in
        rw (kept c (condition us c a b h), kept a (arm-left us a b x), kept b (arm-right us a b x))

-- ---- what was worked out before stays

module _ (ws : List ℕ) (f : ℕ → Value) where
  abbrev more : Worked → Node → Worked
  more w d =
      record {
        widths = w.widths ++ (node_width ws w.widths d ∷ []);
        values = w.values ++ (node_value w.widths f w.values d ∷ []);
      }

  width-kept : (ns : List Node) (w : Worked) (a : ℕ) → a < length w.widths → get_or (work_out ws f ns w).widths a 0 ≡ get_or w.widths a 0
  unfolding work_out
  width-kept [] w a h = refl
  width-kept (n ∷ ns) w a h =
      width-kept ns (more w n) a (simp length-append (omega arith)) ∙ get_or-append w.widths _ 0 a h

  value-kept : (ns : List Node) (w : Worked) (a : ℕ) → a < length w.values →
      get_or (work_out ws f ns w).values a nowhere ≡ get_or w.values a nowhere
  unfolding work_out
  value-kept [] w a h = refl
  value-kept (n ∷ ns) w a h =
      value-kept ns (more w n) a (simp length-append (omega arith)) ∙ get_or-append w.values _ nowhere a h

pub widths-worked : (m : Module Expr) (f : ℕ → Value) (ns : List Node) (w : Worked) →
    (work_out m.scope.widths f ns w).widths ≡ widths_from m ns w.widths
unfolding work_out widths_from
widths-worked m f [] w = refl
widths-worked m f (d ∷ ns) w = widths-worked m f ns (more m.scope.widths f w d)

pub table-widths : (m : Module Expr) (f : ℕ → Value) (ns : List Node) → (worked m.scope.widths f ns).widths ≡ widths_from m ns []
unfolding worked
table-widths m f ns = widths-worked m f ns (record { widths = []; values = [] })

-- ---- one node of a table whose widths and values are uu and vv

pub record Ordered (m : Module Expr) (f : ℕ → Value) (uu : List ℕ) (vv : List Value) (n : ℕ) (d : Node) : Type 0 where
  pub before : List ℕ
  pub long : length before ≡ n
  pub fit : node_fits m before d ≡ true
  pub width : get_or uu n 0 ≡ node_width m.scope.widths uu d
  pub worth : get_or vv n nowhere ≡ node_value uu f vv d

module _ (m : Module Expr) (f : ℕ → Value) where
  abbrev over : List Node → Worked → Worked
  over ns w = work_out m.scope.widths f ns w

  first-ordered :
      (d : Node) (ns : List Node) (w : Worked) → length w.values ≡ length w.widths → node_fits m w.widths d ≡ true →
      Ordered m f (over (d ∷ ns) w).widths (over (d ∷ ns) w).values (length w.widths) d
  unfolding work_out
  first-ordered d ns w l h =
      let ws = m.scope.widths in
      let u = more ws f w d in
      record {
        before = w.widths;
        long = refl;
        fit = h;
        width =
            width-kept ws f ns u (length w.widths) (simp length-append (omega arith))
            ∙ get_or_at w.widths _ [] 0 (length w.widths) refl
            ∙ width-longer m w.widths (over (d ∷ ns) w).widths (λ a o. width-kept ws f (d ∷ ns) w a o) ws d h;
        worth =
            value-kept ws f ns u (length w.widths) (simp length-append (omega arith))
            ∙ get_or_at w.values _ [] nowhere (length w.widths) l
            ∙ worth-longer m w.widths (over (d ∷ ns) w).widths (λ a o. width-kept ws f (d ∷ ns) w a o) f w.values
            (over (d ∷ ns) w).values (λ a o. value-kept ws f (d ∷ ns) w a (omega arith)) d h;
      }

  all-ordered :
      (ns : List Node) (w : Worked) → length w.values ≡ length w.widths → nodes_fit m ns w.widths ≡ true → (i : ℕ) → i < length ns →
      Ordered m f (over ns w).widths (over ns w).values (length w.widths + i) (get_or ns i (an_unknown 0))
  unfolding nodes_fit work_out
  all-ordered [] w l h i o = absurd (not-suc-le-zero o)
  all-ordered (d ∷ ns) w l h zero o =
      let e : length w.widths + 0 ≡ length w.widths = omega arith in
      rw e (first-ordered d ns w l (and_left (node_fits m w.widths d) _ h))
  all-ordered (d ∷ ns) w l h (suc i) o =
      let u = more m.scope.widths f w d in
      let k : length u.widths ≡ length w.widths + 1 = simp length-append in
      let e : length w.widths + suc i ≡ length u.widths + i = omega arith in
      rw e (all-ordered ns u (simp length-append (rw l refl)) (and_right (node_fits m w.widths d) _ h) i (omega arith))

  table-ordered :
      (ns : List Node) → nodes_fit m ns [] ≡ true → (i : ℕ) → i < length ns →
      Ordered m f (worked m.scope.widths f ns).widths (worked m.scope.widths f ns).values i (get_or ns i (an_unknown 0))
  unfolding worked
  table-ordered ns h i o =
      let e : 0 + i ≡ i = omega arith in
      rw e at (all-ordered ns (record { widths = []; values = [] }) refl h i o)

-- ---- widths and values stay within 32 bits

module _ (m : Module Expr) (narrow : (v : ℕ) → v < variables m → get_or m.scope.widths v 0 ≤ 32) (us uu : List ℕ) where
  operator-narrow : (t : Bool) (w : ℕ) → w ≤ 32 → pick t 1 w ≤ 32
  operator-narrow true w h = omega arith
  operator-narrow false w h = h

  binary-narrow : (s t : Bool) (w : ℕ) → w ≤ 32 → pick s 1 (pick t 1 w) ≤ 32
  binary-narrow true t w h = omega arith
  binary-narrow false t w h = operator-narrow t w h

  width_narrow : ((a : ℕ) → a < length us → get_or uu a 0 ≤ 32) → (d : Node) → node_fits m us d ≡ true → node_width m.scope.widths uu d ≤ 32
  unfolding node_fits node_width width? unary_width binary_width
  width_narrow r (a_variable v) h = narrow v (ltb-true v (variables m) h)
  width_narrow r (a_constant w n) h = leb-true w 32 (and_right (leb 1 w) (leb w 32) (and_left (width? m w) (ltb n (2 ^ w)) h))
  width_narrow r (an_unknown w) h = leb-true w 32 (and_right (leb 1 w) (leb w 32) h)
  width_narrow r (a_unary o a) h = operator-narrow (eqb o 2) (get_or uu a 0) (r a (ltb-true a (length us) h))
  width_narrow r (a_binary o a b) h = binary-narrow (eqb o 8) (eqb o 9) (get_or uu a 0) (r a (arm-left us a b h))
  width_narrow r (a_conditional c a b) h = r a (arm-left us a b (both us c a b h))
  width_narrow r (a_branch c a b) h = r a (arm-left us a b (both us c a b h))

  module _ (f : ℕ → Value) (each : (v : ℕ) → v < variables m → small (f v) ≡ true) (vv : List Value) where
    worth-small :
        ((a : ℕ) → a < length us → get_or uu a 0 ≤ 32) → ((a : ℕ) → a < length us → small (get_or vv a nowhere) ≡ true) → (d : Node) →
        node_fits m us d ≡ true → small (node_value uu f vv d) ≡ true
    unfolding node_fits node_value width?
    worth-small r s (a_variable v) h = each v (ltb-true v (variables m) h)
    worth-small r s (a_constant w n) h =
        fits-small w (known n) (leb-true w 32 (and_right (leb 1 w) (leb w 32) (and_left (width? m w) (ltb n (2 ^ w)) h)))
        (fits-known w n (ltb-true n (2 ^ w) (and_right (width? m w) (ltb n (2 ^ w)) h)))
    worth-small r s (an_unknown w) h =
        fits-small w (all_unknown w) (leb-true w 32 (and_right (leb 1 w) (leb w 32) h)) (fits-unknown w)
    worth-small r s (a_unary o a) h =
        let l = ltb-true a (length us) h in
        unary-small o (get_or uu a 0) (get_or vv a nowhere) (r a l) (s a l)
    worth-small r s (a_binary o a b) h =
        let l = arm-left us a b h in
        binary-small o (get_or uu a 0) (get_or vv a nowhere) (get_or vv b nowhere) (r a l) (s a l) (s b (arm-right us a b h))
    worth-small r s (a_conditional c a b) h =
        let x = both us c a b h in
        choice-small (get_or vv c nowhere) (get_or vv a nowhere) (get_or vv b nowhere) (s a (arm-left us a b x)) (s b (arm-right us a b x))
    worth-small r s (a_branch c a b) h =
        let x = both us c a b h in
        pick_small (holds (get_or vv c nowhere)) (get_or vv a nowhere) (get_or vv b nowhere) (s a (arm-left us a b x))
        (s b (arm-right us a b x))

-- ---- the 4,096 nodes of the lent words

-- What is known of a module's lent nodes: they passed number 24's test, and widths are 32 at most.
pub record Fit (m : Module Expr) (ns : List ℕ) : Type 0 where
  pub nodes : nodes_fit m (list_of 4096 (node_at ns)) [] ≡ true
  pub narrow : (v : ℕ) → v < variables m → get_or m.scope.widths v 0 ≤ 32

node-words : (ns : List ℕ) (n : ℕ) →
    node_at ns n ≡ node_from (get_or ns (4 * n) 0) (get_or ns (4 * n + 1) 0) (get_or ns (4 * n + 2) 0) (get_or ns (4 * n + 3) 0)
unfolding node_at
node-words ns n = refl

module _ (m : Module Expr) (ns : List ℕ) (t : Fit m ns) (f : ℕ → Value) where
  abbrev pub table : Worked
  table = worked m.scope.widths f (list_of 4096 (node_at ns))

  pub ordered : (n : ℕ) → n < 4096 → Ordered m f table.widths table.values n (node_at ns n)
  ordered n h =
      let k : n < length (list_of 4096 (node_at ns)) = rw (length-list_of (node_at ns) 4096) h in
      rw (get_d-list_of (node_at ns) 4096 n (an_unknown 0) h) at (table-ordered m f (list_of 4096 (node_at ns)) t.nodes n k)

  -- By its four words.
  pub ordered_words :
      (n : ℕ) → n < 4096 →
      Ordered m f table.widths table.values n
      (node_from (get_or ns (4 * n) 0) (get_or ns (4 * n + 1) 0) (get_or ns (4 * n + 2) 0) (get_or ns (4 * n + 3) 0))
  ordered_words n h = rw (node-words ns n) at (ordered n h)

  abbrev Narrow : ℕ → Type 0
  Narrow n = (a : ℕ) → a < n → get_or table.widths a 0 ≤ 32

  one-narrow : (n : ℕ) → n < 4096 → Narrow n → get_or table.widths n 0 ≤ 32
  one-narrow n h r =
      let o = ordered n h in
      rw o.width
      (width_narrow m t.narrow o.before table.widths (λ a l. r a (omega (arith, o.long))) (node_at ns n) o.fit)

  all-narrow : (n : ℕ) → n ≤ 4096 → Narrow n
  all-narrow zero h a l = absurd (not-suc-le-zero l)
  all-narrow (suc n) h a l = by (all-narrow n (omega arith)) (below_suc n a l)
    where
      by : Narrow n → Below n a → get_or table.widths a 0 ≤ 32
      by r (at-end e) = rw e (one-narrow n (omega arith) r)
      by r (before o) = r a o

  pub narrow-node : (n : ℕ) → n < 4096 → get_or table.widths n 0 ≤ 32
  narrow-node n h = all-narrow 4096 (omega arith) n h

  module _ (each : (v : ℕ) → v < variables m → small (f v) ≡ true) where
    abbrev Small : ℕ → Type 0
    Small n = (a : ℕ) → a < n → small (get_or table.values a nowhere) ≡ true

    one-small : (n : ℕ) → n < 4096 → Small n → small (get_or table.values n nowhere) ≡ true
    one-small n h r =
        let o = ordered n h in
        rw o.worth
        (worth-small m t.narrow o.before table.widths f each table.values (λ a l. narrow-node a (omega (arith, o.long)))
        (λ a l. r a (omega (arith, o.long))) (node_at ns n) o.fit)

    all_small : (n : ℕ) → n ≤ 4096 → Small n
    all_small zero h a l = absurd (not-suc-le-zero l)
    all_small (suc n) h a l = by (all_small n (omega arith)) (below_suc n a l)
      where
        by : Small n → Below n a → small (get_or table.values a nowhere) ≡ true
        by r (at-end e) = rw e (one-small n (omega arith) r)
        by r (before o) = r a o

    pub small-node : (n : ℕ) → n < 4096 → small (get_or table.values n nowhere) ≡ true
    small-node n h = all_small 4096 (omega arith) n h
