-- A range of copied nodes, worked out on a plane whose first cells hold the variables' values: a node whose lowest needed one lies in
-- the range is worth what the cycle book says, whatever stood in the other cells before. Assumes nothing.
use mathlib.Core.Path.{◌≡◌, refl, sym, ap, ◌∙◌}
use mathlib.Core.Logic.{◌≢◌}
use mathlib.Core.Bool.{Bool, true, false}
use mathlib.Core.List.{List, []}
use Prim.Native.Nat.{ℕ, zero, suc, ◌+◌, ◌-◌, ◌≤◌, ◌<◌}
use native.Mathlib.Decide.{ℕ_discrete, dec_lt}
use native.Mathlib.Omega.{arith}
use borrow.Author.Tests.{lt-ltb, le-ltb, eq-eqb, ne_eqb}
use lib.ListN.{length, get_or, set, length-set}
use lib.Seq.{get_or-set_other}
use Rattle.values.specs.declared.Value.{Value}
use Rattle.values.specs.Values.{pick, nowhere}
use Rattle.sheet.specs.Expression.{Expr}
use Rattle.sheet.specs.Module.{Module}
use Rattle.state.specs.Rows.{list_of}
use Rattle.events.specs.Cycle.{variables}
use Rattle.values.specs.Cells.{small, cell_of, cell_at}
use Rattle.values.proofs.Cells.{at_small, at_set_same, at_set_other, at_same}
use Rattle.plan.specs.Sections.{slot_of}
use Rattle.plan.specs.Plan as plan
use Rattle.plan.proofs.Sections.{slot_same}
use Rattle.plan_nodes.specs.Nodes.{worth_of, work_node, work_from, work}
use Rattle.plan_nodes.proofs.Nodes.{work-last, work-within}
use Rattle.nextstate.specs.Nodes.{node_at, node_from, node_value}
use Rattle.nextstate.specs.Book.{worth}
use Rattle.nextstate.specs.CycleRun.{widths_from, tables_in}
use Rattle.clock_nodes.specs.Copying.{cell_in, low_in, lower}
use Rattle.clock_nodes.specs.Rows.{entry_at, low_by, low_to, higher, high_by, high_to}
use Rattle.clock_nodes.proofs.Worth.{Fit, table, table-widths, ordered_words, narrow-node, small-node}
use Rattle.clock_nodes.proofs.Copied.{fit-variable, fit-first, fit-second, fit-third, copied-worth}
use Rattle.clock_nodes.proofs.Lows.{kind_at, first_at, second_at, third_at, copy_of, Low, lower-self, lower-node, low-self, low_first}
use Rattle.clock_nodes.proofs.Lows.{low_second, low-third}

-- ---- cell_in

pub cell-variable : (ns : List ℕ) (n : ℕ) → kind_at ns n ≡ 0 → cell_in ns n ≡ first_at ns n
unfolding cell_in
cell-variable ns n e = rw (eq-eqb (kind_at ns n) 0 e)

pub cell-node : (ns : List ℕ) (n : ℕ) → kind_at ns n ≢ 0 → cell_in ns n ≡ 80 + n
unfolding cell_in
cell-node ns n d = rw (ne_eqb (kind_at ns n) 0 d)

variable-value : (uu : List ℕ) (f : ℕ → Value) (vv : List Value) (k a b c : ℕ) → k ≡ 0 → node_value uu f vv (node_from k a b c) ≡ f a
unfolding node_from node_value
variable-value uu f vv k a b c e = rw e

-- ---- what is known of the lent nodes and of the plan P that has their first `count` copied

pub record Copies (m : Module Expr) (ns us ls : List ℕ) (P : ℕ → plan.Node) (count : ℕ) : Type 0 where
  pub fit : Fit m ns
  pub few : variables m ≤ 80
  pub most : count ≤ 4096
  pub sizes : us ≡ widths_from m (list_of 4096 (node_at ns)) []
  pub lows : length ls ≡ 4096
  pub laid : (n : ℕ) → n < count → P (80 + n) ≡ copy_of ns us n

module _ (m : Module Expr) (ns us ls : List ℕ) (P : ℕ → plan.Node) (count : ℕ) (t : Copies m ns us ls P count) (f : ℕ → Value) where
  abbrev value : ℕ → Value
  value n = get_or (table m ns t.fit f).values n nowhere

  abbrev low : ℕ → ℕ
  low n = Low ns ls t.lows count t.most n

  -- ---- one node, on a plane ds that has the variables' values and those of the nodes from lo to n

  module _ (ds : List ℕ) (lo n : ℕ) (here : n < count) (needs : lo ≤ low n) (vars : (v : ℕ) → v < variables m → cell_at ds v ≡ f v)
      (right : (x : ℕ) → x < n → lo ≤ low x → cell_at ds (80 + x) ≡ value x) where
    operand : (x : ℕ) → x < n → (kind_at ns x ≢ 0 → lo ≤ low x) → cell_at ds (slot_of (cell_in ns x)) ≡ value x
    operand x o h = by (ℕ_discrete (kind_at ns x) 0)
      where
        by : Dec (kind_at ns x ≡ 0) → cell_at ds (slot_of (cell_in ns x)) ≡ value x
        by (yes e) =
            let w = ordered_words m ns t.fit f x (omega (arith, t.most)) in
            let v = fit-variable m w.before (kind_at ns x) (first_at ns x) (second_at ns x) (third_at ns x) w.fit e in
            let s = slot_same (first_at ns x) (omega (arith, t.few)) in
            rw (cell-variable ns x e, s, vars (first_at ns x) v)
            (sym (w.worth ∙ variable-value _ f _ (kind_at ns x) (first_at ns x) (second_at ns x) (third_at ns x) e))
        by (no d) =
            let s = slot_same (80 + x) (omega (arith, t.most)) in
            rw (cell-node ns x d, s) (right x o (h d))

    node-right : worth_of (cell_at ds) (P (80 + n)) ≡ value n
    node-right =
        let k = kind_at ns n in
        let a = first_at ns n in
        let b = second_at ns n in
        let c = third_at ns n in
        let w = ordered_words m ns t.fit f n (omega (arith, t.most)) in
        let e : us ≡ (table m ns t.fit f).widths = t.sizes ∙ sym (table-widths m f (list_of 4096 (node_at ns))) in
        ap (worth_of (cell_at ds)) (t.laid n here ∙ rw e)
        ∙ copied-worth ns (table m ns t.fit f).widths f (cell_at ds) (table m ns t.fit f).values k a b c _ _ _ refl refl refl m
        w.before w.fit
        (λ z. let v = fit-variable m w.before k a b c w.fit z in rw (slot_same a (omega (arith, t.few))) (vars a v))
        (λ g. narrow-node m ns t.fit f a
        (omega (arith, fit-first m w.before k a b c w.fit g, w.long, t.most)))
        (λ g. let o : a < n = omega (arith, fit-first m w.before k a b c w.fit g, w.long) in
        operand a o (λ d. omega (arith, low_first ns ls t.lows count t.most n here g o d)))
        (λ g. let o : b < n = omega (arith, fit-second m w.before k a b c w.fit g, w.long) in
        operand b o (λ d. omega (arith, low_second ns ls t.lows count t.most n here g o d)))
        (λ g. let o : c < n = omega (arith, fit-third m w.before k a b c w.fit g, w.long) in
        operand c o (λ d. omega (arith, low-third ns ls t.lows count t.most n here g o d)))
        ∙ sym w.worth

  -- ---- the plane ds after the nodes from lo to hi were worked out on cs

  pub record Range (cs ds : List ℕ) (lo hi : ℕ) : Type 0 where
    pub long : length ds ≡ 4176
    pub kept : (i : ℕ) → i < 80 + lo → get_or ds i 0 ≡ get_or cs i 0
    pub right : (n : ℕ) → n < hi → lo ≤ low n → cell_at ds (80 + n) ≡ value n

  module _ (cs : List ℕ) (size : length cs ≡ 4176) (vars : (v : ℕ) → v < variables m → cell_at cs v ≡ f v) (lo : ℕ) where
    each : (v : ℕ) → v < variables m → small (f v) ≡ true
    each v o = rw (vars v o) at (at_small cs v)

    range_none : lo ≤ count → Range cs cs lo lo
    range_none h =
        record {
          long = size;
          kept = λ i o. refl;
          right = λ n o g. absurd (omega (arith, low-self ns ls t.lows count t.most n (omega arith)));
        }

    range-more : (ds : List ℕ) (hi : ℕ) → lo ≤ hi → hi < count → Range cs ds lo hi → Range cs (work_node P (80 + hi) ds) lo (suc hi)
    unfolding work_node
    range-more ds hi l h r =
        let w = worth_of (cell_at ds) (P (80 + hi)) in
        record {
          long = length-set ds (80 + hi) (cell_of w) ∙ r.long;
          kept = λ i o. get_or-set_other ds (80 + hi) i (cell_of w) 0 (λ q. omega arith) ∙ r.kept i o;
          right = λ n o g. by n o g (ℕ_discrete n hi);
        }
      where
        by : (n : ℕ) → n < suc hi → lo ≤ low n → Dec (n ≡ hi) →
            cell_at (set ds (80 + hi) (cell_of (worth_of (cell_at ds) (P (80 + hi))))) (80 + n) ≡ value n
        by n o g (yes e) =
            let p = node-right ds lo hi h (rw e at g)
            (λ v u. at_same ds cs v (r.kept v (omega (arith, t.few))) ∙ vars v u)
            (λ x u k. r.right x u k) in
            rw (e, p) (at_set_same ds (80 + hi) (value hi) (omega (arith, r.long, t.most))
            (small-node m ns t.fit f each hi (omega (arith, t.most))))
        by n o g (no d) = at_set_other ds (80 + hi) (80 + n) _ (λ q. omega arith) ∙ r.right n (omega arith) g

    range-from : (j : ℕ) → lo + j ≤ count → Range cs (work_from P (80 + lo) j cs) lo (lo + j)
    unfolding work_from
    range-from zero h = let e : lo + 0 ≡ lo = omega arith in rw e (range_none (omega arith))
    range-from (suc j) h =
        let e : lo + suc j ≡ suc (lo + j) = omega arith in
        let u : 80 + lo + j ≡ 80 + (lo + j) = omega arith in
        rw (e, work-last P (80 + lo) j cs, u)
        (range-more (work_from P (80 + lo) j cs) (lo + j) (omega arith) (omega arith) (range-from j (omega arith)))

    -- The nodes from lo to hi, worked out.
    pub range-worked : (hi : ℕ) → lo ≤ hi → hi ≤ count → Range cs (work P (80 + lo) (80 + hi) cs) lo hi
    range-worked hi l h =
        let e : 80 + hi - (80 + lo) ≡ hi - lo = omega arith in
        let u : lo + (hi - lo) ≡ hi = omega arith in
        rw (work-within P (80 + lo) (80 + hi) cs (omega (arith, t.most)), e) (rw u at (range-from (hi - lo) (omega arith)))

    -- ---- any range: hi is a cell, and an entry's node is one of the range's

    pub record Done (ds : List ℕ) (hi : ℕ) : Type 0 where
      pub long : length ds ≡ 4176
      pub kept : (i : ℕ) → i < 80 → get_or ds i 0 ≡ get_or cs i 0
      pub right : (e : ℕ) → e < count → (kind_at ns e ≢ 0 → (lo ≤ low e) × (81 + e ≤ hi)) → cell_at ds (slot_of (cell_in ns e)) ≡ value e

    entry-right : (ds : List ℕ) (hi : ℕ) → ((i : ℕ) → i < 80 → get_or ds i 0 ≡ get_or cs i 0)
        → ((n : ℕ) → n < count → lo ≤ low n → 81 + n ≤ hi → cell_at ds (80 + n) ≡ value n)
        → (e : ℕ) → e < count → (kind_at ns e ≢ 0 → (lo ≤ low e) × (81 + e ≤ hi)) → cell_at ds (slot_of (cell_in ns e)) ≡ value e
    entry-right ds hi keep r e o h = by (ℕ_discrete (kind_at ns e) 0)
      where
        by : Dec (kind_at ns e ≡ 0) → cell_at ds (slot_of (cell_in ns e)) ≡ value e
        by (yes z) =
            let w = ordered_words m ns t.fit f e (omega (arith, t.most)) in
            let v = fit-variable m w.before (kind_at ns e) (first_at ns e) (second_at ns e) (third_at ns e) w.fit z in
            let s = slot_same (first_at ns e) (omega (arith, t.few)) in
            rw (cell-variable ns e z, s)
            (at_same ds cs (first_at ns e) (keep (first_at ns e) (omega (arith, t.few)))
            ∙ vars (first_at ns e) v
            ∙ sym (w.worth ∙ variable-value _ f _ (kind_at ns e) (first_at ns e) (second_at ns e) (third_at ns e) z))
        by (no d) =
            let s = slot_same (80 + e) (omega (arith, t.most)) in
            rw (cell-node ns e d, s) (r e o (h d).0 (h d).1)

    work-empty : (hi : ℕ) → hi ≤ 80 + lo → hi ≤ 4176 → work P (80 + lo) hi cs ≡ cs
    unfolding work_from
    work-empty hi h l =
        let e : hi - (80 + lo) ≡ 0 = omega arith in
        work-within P (80 + lo) hi cs l ∙ rw e

    -- After `work` over a range the cell of each such entry has the value that the cycle book gives its node.
    pub range-done : (hi : ℕ) → hi ≤ 80 + count → Done (work P (80 + lo) hi cs) hi
    range-done hi h = by (dec_lt (80 + lo) hi)
      where
        some : (k : ℕ) → hi ≡ 80 + k → lo ≤ k → k ≤ count → Done (work P (80 + lo) hi cs) hi
        some k e l o =
            let r = range-worked k l o in
            rw (e) (record {
              long = r.long;
              kept = λ i u. r.kept i (omega arith);
              right = entry-right (work P (80 + lo) (80 + k) cs) (80 + k) (λ i u. r.kept i (omega arith))
                  (λ n u g b. r.right n (omega arith) g);
            })

        by : Dec (80 + lo < hi) → Done (work P (80 + lo) hi cs) hi
        by (yes l) = some (hi - 80) (omega arith) (omega arith) (omega arith)
        by (no d) =
            let u : hi ≤ 80 + lo = omega arith in
            rw (work-empty hi u (omega (arith, t.most))) (record {
              long = size;
              kept = λ i o. refl;
              right = entry-right cs hi (λ i o. refl) (λ n o g b. absurd (omega (arith, low-self ns ls t.lows count t.most n o)));
            })

-- ---- as the cycle book says it

pub book-worth : (m : Module Expr) (ns rs : List ℕ) (t : Fit m ns) (f : ℕ → Value) (n : ℕ)
    → get_or (table m ns t f).values n nowhere ≡ worth m (tables_in ns rs) f n
unfolding worth tables_in
book-worth m ns rs t f n = refl

-- ---- a row's range: each entry that counts is in it

module _ (ns ls rs : List ℕ) (row : ℕ) (written : List Bool) where
  low-down : (r : ℕ) → low_to ns ls rs row written (suc r) ≤ low_to ns ls rs row written r
  unfolding low_to low_by
  low-down r = by (get_or written r false)
    where
      by : (t : Bool) →
          pick t (lower ns ls (entry_at rs row r) (low_to ns ls rs row written r)) (low_to ns ls rs row written r)
          ≤ low_to ns ls rs row written r
      by true = lower-self ns ls (entry_at rs row r) (low_to ns ls rs row written r)
      by false = omega arith

  low-downs : (r j : ℕ) → low_to ns ls rs row written (r + j) ≤ low_to ns ls rs row written r
  low-downs r zero = let e : r + 0 ≡ r = omega arith in rw e (omega arith)
  low-downs r (suc j) =
      let e : r + suc j ≡ suc (r + j) = omega arith in
      rw e (omega (arith, low-down (r + j), low-downs r j))

  low-entry : (r : ℕ) → get_or written r false ≡ true → kind_at ns (entry_at rs row r) ≢ 0 →
      low_to ns ls rs row written (suc r) ≤ low_in ls (entry_at rs row r)
  unfolding low_to low_by
  low-entry r w d = rw w (lower-node ns ls (entry_at rs row r) (low_to ns ls rs row written r) d)

  low-zero : low_to ns ls rs row written 0 ≡ lower ns ls (entry_at rs row 32) 4096
  unfolding low_to
  low-zero = refl

  pub row-low-place : kind_at ns (entry_at rs row 32) ≢ 0 → low_to ns ls rs row written 32 ≤ low_in ls (entry_at rs row 32)
  row-low-place d =
      let e : 0 + 32 ≡ 32 = omega arith in
      let k = rw e at (low-downs 0 32) in
      omega (arith, k, low-zero, lower-node ns ls (entry_at rs row 32) 4096 d)

  pub row_low : (r : ℕ) → r < 32 → get_or written r false ≡ true → kind_at ns (entry_at rs row r) ≢ 0
      → low_to ns ls rs row written 32 ≤ low_in ls (entry_at rs row r)
  row_low r h w d =
      let e : suc r + (31 - r) ≡ 32 = omega arith in
      let k = rw e at (low-downs (suc r) (31 - r)) in
      omega (arith, k, low-entry r w d)

module _ (ns rs : List ℕ) (row : ℕ) (written : List Bool) where
  higher-self : (n x : ℕ) → x ≤ higher ns n x
  unfolding higher
  higher-self n x = by (ℕ_discrete (kind_at ns n) 0) (dec_lt x (81 + n))
    where
      by : Dec (kind_at ns n ≡ 0) → Dec (x < 81 + n) → x ≤ higher ns n x
      by (yes e) y = rw (eq-eqb (kind_at ns n) 0 e) (omega arith)
      by (no d) (yes h) = rw (ne_eqb (kind_at ns n) 0 d, lt-ltb x (81 + n) h) (omega arith)
      by (no d) (no h) = let l : 81 + n ≤ x = omega arith in rw (ne_eqb (kind_at ns n) 0 d, le-ltb x (81 + n) l) (omega arith)

  higher-node : (n x : ℕ) → kind_at ns n ≢ 0 → 81 + n ≤ higher ns n x
  unfolding higher
  higher-node n x d = by (dec_lt x (81 + n))
    where
      by : Dec (x < 81 + n) → 81 + n ≤ higher ns n x
      by (yes h) = rw (ne_eqb (kind_at ns n) 0 d, lt-ltb x (81 + n) h) (omega arith)
      by (no h) = let l : 81 + n ≤ x = omega arith in rw (ne_eqb (kind_at ns n) 0 d, le-ltb x (81 + n) l) l

  higher-most : (n x most : ℕ) → x ≤ most → 81 + n ≤ most → higher ns n x ≤ most
  unfolding higher
  higher-most n x most h l = by (ℕ_discrete (kind_at ns n) 0) (dec_lt x (81 + n))
    where
      by : Dec (kind_at ns n ≡ 0) → Dec (x < 81 + n) → higher ns n x ≤ most
      by (yes e) y = rw (eq-eqb (kind_at ns n) 0 e) h
      by (no d) (yes o) = rw (ne_eqb (kind_at ns n) 0 d, lt-ltb x (81 + n) o) l
      by (no d) (no o) = let u : 81 + n ≤ x = omega arith in rw (ne_eqb (kind_at ns n) 0 d, le-ltb x (81 + n) u) h

  high-up : (r : ℕ) → high_to ns rs row written r ≤ high_to ns rs row written (suc r)
  unfolding high_to high_by
  high-up r = by (get_or written r false)
    where
      by : (t : Bool) →
          high_to ns rs row written r ≤ pick t (higher ns (entry_at rs row r) (high_to ns rs row written r)) (high_to ns rs row written r)
      by true = higher-self (entry_at rs row r) (high_to ns rs row written r)
      by false = omega arith

  high-ups : (r j : ℕ) → high_to ns rs row written r ≤ high_to ns rs row written (r + j)
  high-ups r zero = let e : r + 0 ≡ r = omega arith in rw e (omega arith)
  high-ups r (suc j) =
      let e : r + suc j ≡ suc (r + j) = omega arith in
      rw e (omega (arith, high-up (r + j), high-ups r j))

  high-entry : (r : ℕ) → get_or written r false ≡ true → kind_at ns (entry_at rs row r) ≢ 0 →
      81 + entry_at rs row r ≤ high_to ns rs row written (suc r)
  unfolding high_to high_by
  high-entry r w d = rw w (higher-node (entry_at rs row r) (high_to ns rs row written r) d)

  high_zero : high_to ns rs row written 0 ≡ higher ns (entry_at rs row 32) 0
  unfolding high_to
  high_zero = refl

  pub row-high-place : kind_at ns (entry_at rs row 32) ≢ 0 → 81 + entry_at rs row 32 ≤ high_to ns rs row written 32
  row-high-place d =
      let e : 0 + 32 ≡ 32 = omega arith in
      let k = rw e at (high-ups 0 32) in
      omega (arith, k, high_zero, higher-node (entry_at rs row 32) 0 d)

  pub row-high : (r : ℕ) → r < 32 → get_or written r false ≡ true → kind_at ns (entry_at rs row r) ≢ 0
      → 81 + entry_at rs row r ≤ high_to ns rs row written 32
  row-high r h w d =
      let e : suc r + (31 - r) ≡ 32 = omega arith in
      let k = rw e at (high-ups (suc r) (31 - r)) in
      omega (arith, k, high-entry r w d)

  -- Where the entries that count are of the first `count` nodes, so is the range.
  pub row-most : (count : ℕ) → entry_at rs row 32 < count → ((r : ℕ) → r < 32 → get_or written r false ≡ true → entry_at rs row r < count)
      → (r : ℕ) → r ≤ 32 → high_to ns rs row written r ≤ 80 + count
  unfolding high_to high_by
  row-most count p w zero h = higher-most (entry_at rs row 32) 0 (80 + count) (omega arith) (omega arith)
  row-most count p w (suc r) h = by (get_or written r false) refl (row-most count p w r (omega arith))
    where
      by : (t : Bool) → get_or written r false ≡ t → high_to ns rs row written r ≤ 80 + count
          → pick t (higher ns (entry_at rs row r) (high_to ns rs row written r)) (high_to ns rs row written r) ≤ 80 + count
      by true e k = higher-most (entry_at rs row r) (high_to ns rs row written r) (80 + count) k (omega (arith, w r (omega arith) e))
      by false e k = k
