-- The loops over the nodes: their widths and landings so far, stored in front of a table. Assumes nothing.
use mathlib.Core.Path.{◌≡◌, refl, sym, ◌∙◌}
use mathlib.Core.Bool.{Bool, true, false, ◌&&◌}
use mathlib.Core.List.{List, [], ◌∷◌, ◌++◌, append_assoc, append-nil}
use Prim.Native.Nat.{ℕ, zero, suc, ◌+◌, ◌-◌, ◌≤◌, ◌<◌}
use native.Mathlib.Nat.{le_refl}
use native.Mathlib.Decide.{dec_lt}
use native.Mathlib.Numerals.{add-one}
use native.Mathlib.Omega.{arith}
use borrow.Author.Tests.{lt-ltb}
use lib.Dec.{ltb}
use lib.ListN.{length, get_or, set, drop, replicate}
use lib.ListN.{length-append, length-drop, length-replicate, get_or-replicate, replicate-append-replicate, drop_of_length-le, get_or-append}
use lib.Seq.{drop-cons, set_at, take_at, sets, sets-eq}
use Rattle.state.proofs.Rows.{sets-append}
use Rattle.plan.specs.Plan.{Plan}
use Rattle.nextstate.specs.Nodes.{Node, a_variable, a_constant, an_unknown, a_unary, a_binary, a_conditional, a_branch, node_at, node_width}
use Rattle.nodes.specs.Cells.{size_in, marks_in, fits_at, width_at, lands_at}
use Rattle.nodes.proofs.Cells.{below-and, fits-same, width_same}
use Rattle.clock_check.specs.Judging.{variables_in, width_on, widths_below, nodes_fit_below}
use Rattle.clock_check.specs.Judging.{ordered_below, width_table, lands_below, rows_fit_on, tables_fit_on, Rest}

-- ---- one element more in front of a table

pub front-more : {A : Type 0} (p l : List A) (n : ℕ) (a d : A) → length p ≡ n → n < length l →
    set (p ++ drop n l) n a ≡ (p ++ (a ∷ [])) ++ drop (suc n) l
front-more p l n a d e h =
    rw (drop-cons l n d h) (set_at p (get_or l n d) (drop (suc n) l) a n e ∙ sym (append_assoc p (a ∷ []) (drop (suc n) l)))

-- ---- a run of one value

-- Stored to the end of a table, behind what stands in front.
run-behind : (p l : List ℕ) (n k w : ℕ) → length p ≡ n → n + k ≡ length l → sets (p ++ drop n l) n (replicate k w) ≡ p ++ replicate k w
run-behind p l n k w e h =
    let long : length (p ++ drop n l) ≡ length l = length-append p (drop n l) ∙ omega (arith, length-drop n l) in
    sets-eq (replicate k w) (p ++ drop n l) n (omega (arith, length-replicate k w))
    ∙ rw (
      take_at p (drop n l) n e,
      drop_of_length-le (p ++ drop n l) {i = n + length (replicate k w)} (omega (arith, length-replicate k w)),
    )
    (append-nil (p ++ replicate k w))

pub run_none : (us : List ℕ) (w from : ℕ) → us ≡ sets us from (replicate (from - from) w)
run_none us w from = let e : from - from ≡ 0 = omega arith in rw e refl

pub run_more :
    (us vs : List ℕ) (w from n : ℕ) → from ≤ n → vs ≡ sets us from (replicate (n - from) w) →
    set vs n w ≡ sets us from (replicate (n + 1 - from) w)
run_more us vs w from n l o =
    let k = n - from in
    let e : n + 1 - from ≡ k + 1 = omega arith in
    let at : from + length (replicate k w) ≡ n = omega (arith, length-replicate k w) in
    rw (o, e, ← replicate-append-replicate k 1 w) (sym (sets-append us from (replicate k w) (w ∷ []) ∙ rw at))

-- ---- a node's width and landing depend only on the nodes before it

module _ (q : Plan) (us : List ℕ) (v n : ℕ) (s : ℕ → ℕ) (h : (a : ℕ) → a < n → s a ≡ get_or us a 0) where
  pub width-on-same : (d : Node) → fits_at v n s d ≡ true → width_on q s d ≡ width_on q (λ a. get_or us a 0) d
  unfolding width_on width_at node_width
  width-on-same (a_variable u) f = refl
  width-on-same (a_constant w k) f = refl
  width-on-same (an_unknown w) f = refl
  width-on-same (a_unary o a) f = width_same [] us v n s h (a_unary o a) f
  width-on-same (a_binary o a b) f = width_same [] us v n s h (a_binary o a b) f
  width-on-same (a_conditional c a b) f = width_same [] us v n s h (a_conditional c a b) f
  width-on-same (a_branch c a b) f = width_same [] us v n s h (a_branch c a b) f

module _ (waits : ℕ → Bool) (n : ℕ) (g f : ℕ → Bool) (h : (a : ℕ) → a < n → g a ≡ f a) where
  pub lands-on-same : (d : Node) → lands_at waits n g d ≡ lands_at waits n f d
  unfolding lands_at
  lands-on-same (a_variable v) = refl
  lands-on-same (a_constant w p) = refl
  lands-on-same (an_unknown w) = refl
  lands-on-same (a_unary o a) = refl
  lands-on-same (a_binary o a b) = refl
  lands-on-same (a_conditional c a b) = refl
  lands-on-same (a_branch c a b) = rw (below-and a n (g a) (f a) (h a), below-and b n (g b) (f b) (h b))

-- ---- widths

module _ (q : Plan) (ns : List ℕ) where
  pub length-widths : (n : ℕ) → length (widths_below q ns n) ≡ n
  unfolding widths_below
  length-widths zero = refl
  length-widths (suc n) = length-append (widths_below q ns n) _ ∙ rw (length-widths n) (add-one n)

  -- A node that isn't in order stops what follows.
  off-more : (n : ℕ) → nodes_fit_below q ns n ≡ false → nodes_fit_below q ns (suc n) ≡ false
  unfolding nodes_fit_below
  off-more n e = rw e refl

  fit-off : (n t : ℕ) → nodes_fit_below q ns n ≡ false → n ≤ t → nodes_fit_below q ns t ≡ false
  fit-off n zero e l = let z : n ≡ 0 = omega arith in rw (← z) e
  fit-off n (suc t) e l = by (dec_lt n (suc t)) (fit-off n t e)
    where
      by : Dec (n < suc t) → (n ≤ t → nodes_fit_below q ns t ≡ false) → nodes_fit_below q ns (suc t) ≡ false
      by (yes k) rest = off-more t (rest (omega arith))
      by (no k) rest = let z : n ≡ suc t = omega arith in rw (← z) e

  ordered-all : (n : ℕ) → nodes_fit_below q ns n ≡ true → ordered_below q ns n ≡ n
  unfolding ordered_below
  ordered-all zero e = refl
  ordered-all (suc n) e = rw e

  ordered-stop : (n t : ℕ) → nodes_fit_below q ns (suc n) ≡ false → suc n ≤ t → ordered_below q ns t ≡ ordered_below q ns n
  unfolding ordered_below
  ordered-stop n zero e l = absurd (omega arith)
  ordered-stop n (suc t) e l = by (dec_lt n t) (ordered-stop n t e)
    where
      by : Dec (n < t) → (suc n ≤ t → ordered_below q ns t ≡ ordered_below q ns n) → ordered_below q ns (suc t) ≡ ordered_below q ns n
      by (yes k) rest = rw (fit-off (suc n) (suc t) e l) (rest (omega arith))
      by (no k) rest = let z : t ≡ n = omega arith in rw (fit-off (suc n) (suc t) e l, z)

  abbrev zeros : List ℕ
  zeros = replicate 4096 0

  -- The nodes below n are in order, and their widths stand in front of zeros.
  pub record Passing (us : List ℕ) (n : ℕ) : Type 0 where
    pub most : n ≤ 4096
    pub fit : nodes_fit_below q ns n ≡ true
    pub filled : us ≡ widths_below q ns n ++ drop n zeros

  pub passing-none : Passing zeros 0
  unfolding nodes_fit_below widths_below
  passing-none = record { most = omega arith; fit = refl; filled = refl }

  module _ (us : List ℕ) (n : ℕ) (p : Passing us n) where
    size-front : (a : ℕ) → a < n → size_in us a ≡ get_or (widths_below q ns n) a 0
    unfolding size_in
    size-front a h =
        rw (lt-ltb a 4096 (omega (arith, p.most)), p.filled)
        (get_or-append (widths_below q ns n) (drop n zeros) 0 a (omega (arith, length-widths n)))

    pub passed : n ≡ 4096 → (true ≡ nodes_fit_below q ns 4096) × (us ≡ width_table q ns)
    unfolding width_table
    passed e =
        let f = rw e at p.fit in
        (sym f, rw (ordered-all 4096 f) (rw e at p.filled))

    module _ (b : n < 4096) (d : Node) (e : d ≡ node_at ns n) (v : ℕ) (o : v ≡ variables_in q) (r : Bool)
        (t : r ≡ fits_at v n (size_in us) d) where
      turn : nodes_fit_below q ns (suc n) ≡ r
      unfolding nodes_fit_below
      turn =
          rw p.fit
          (rw (← e, ← o) (sym (fits-same v n (size_in us) (λ a. get_or (widths_below q ns n) a 0) size-front d)) ∙ sym t)

      pub stopped : r ≡ false → (false ≡ nodes_fit_below q ns 4096) × (us ≡ width_table q ns)
      unfolding width_table
      stopped z =
          let f = turn ∙ z in (
            sym (fit-off (suc n) 4096 f b),
            rw (ordered-stop n 4096 f b, ordered-all n p.fit) p.filled,
          )

      pub passing-more : r ≡ true → (w : ℕ) → w ≡ width_on q (size_in us) d → Passing (set us n w) (n + 1)
      unfolding widths_below
      passing-more z w k =
          let same = width-on-same q (widths_below q ns n) v n (size_in us) size-front d (sym t ∙ z) in
          rw (add-one n)
          (record {
            most = b;
            fit = turn ∙ z;
            filled =
                rw (p.filled, ← e, ← (k ∙ same))
                (front-more (widths_below q ns n) zeros n w 0 (length-widths n) (omega (arith, length-replicate {A = ℕ} 4096 0)));
          })

  -- Where all are in order, the table is full.
  pub table-full : nodes_fit_below q ns 4096 ≡ true → width_table q ns ≡ widths_below q ns 4096
  unfolding width_table
  table-full f =
      rw (ordered-all 4096 f, drop_of_length-le zeros {i = 4096} (omega (arith, length-replicate {A = ℕ} 4096 0)))
      (append-nil (widths_below q ns 4096))

  -- ---- nodes past the last in use are variable 0

  module _ (used : ℕ) (rest : Rest ns used) where
    rest-width : (n : ℕ) → used ≤ n → n < 4096 → widths_below q ns (suc n) ≡ widths_below q ns n ++ (q.width 0 ∷ [])
    unfolding widths_below width_on
    rest-width n l b = rw (rest.zeros n l b)

    rest-fit : (n : ℕ) → used ≤ n → n < 4096 → nodes_fit_below q ns (suc n) ≡ (nodes_fit_below q ns n && ltb 0 (variables_in q))
    unfolding nodes_fit_below fits_at
    rest-fit n l b = rw (rest.zeros n l b)

    rest-widths : (k : ℕ) → used + k ≤ 4096 → widths_below q ns (used + k) ≡ widths_below q ns used ++ replicate k (q.width 0)
    rest-widths zero l =
        let e : used + 0 ≡ used = omega arith in
        rw e (sym (append-nil (widths_below q ns used)))
    rest-widths (suc k) l =
        let e : used + suc k ≡ suc (used + k) = omega arith in
        let w = q.width 0 in
        let more : replicate k w ++ (w ∷ []) ≡ replicate (suc k) w = replicate-append-replicate k 1 w ∙ rw (add-one k) in
        rw e
        (rest-width (used + k) (omega arith) (omega arith)
        ∙ rw (rest-widths k (omega arith), append_assoc (widths_below q ns used) (replicate k w) (w ∷ []), more))

    rest-fits : 0 < variables_in q → nodes_fit_below q ns used ≡ true → (k : ℕ) → used + k ≤ 4096 → nodes_fit_below q ns (used + k) ≡ true
    rest-fits some f zero l = let e : used + 0 ≡ used = omega arith in rw e f
    rest-fits some f (suc k) l =
        let e : used + suc k ≡ suc (used + k) = omega arith in
        rw e
        (rest-fit (used + k) (omega arith) (omega arith)
        ∙ rw (rest-fits some f k (omega arith), lt-ltb 0 (variables_in q) some))

    module _ (us : List ℕ) (p : Passing us used) where
      pub rest-off : used < 4096 → 0 ≡ variables_in q → (false ≡ nodes_fit_below q ns 4096) × (us ≡ width_table q ns)
      unfolding width_table
      rest-off b e =
          let f : nodes_fit_below q ns (suc used) ≡ false = rest-fit used (le_refl used) b ∙ rw (p.fit, ← e) in (
            sym (fit-off (suc used) 4096 f b),
            rw (ordered-stop used 4096 f b, ordered-all used p.fit) p.filled,
          )

      pub rest-on :
          (w : ℕ) (vs : List ℕ) → 0 < variables_in q → w ≡ q.width 0 → vs ≡ sets us used (replicate (4096 - used) w) →
          (true ≡ nodes_fit_below q ns 4096) × (vs ≡ width_table q ns)
      rest-on w vs some e o =
          let all : used + (4096 - used) ≡ 4096 = omega (arith, p.most) in
          let f = rw all at (rest-fits some p.fit (4096 - used) (omega (arith, p.most))) in
          let ws = rw all at (rest-widths (4096 - used) (omega (arith, p.most))) in
          let run =
          run-behind (widths_below q ns used) zeros used (4096 - used) w (length-widths used)
          (omega (arith, p.most, length-replicate {A = ℕ} 4096 0)) in
          let stored : sets us used (replicate (4096 - used) w) ≡ widths_below q ns used ++ replicate (4096 - used) w = rw p.filled run in
          let full : widths_below q ns 4096 ≡ widths_below q ns used ++ replicate (4096 - used) w = rw e ws in
          (sym f, o ∙ stored ∙ sym full ∙ sym (table-full f))

  -- ---- 24

  module _ (written rs : List ℕ) where
    pub tables-off : nodes_fit_below q ns 4096 ≡ false → false ≡ tables_fit_on q written ns rs
    unfolding tables_fit_on
    tables-off f = rw f

    pub tables-on :
        {us : List ℕ} {r : Bool} → nodes_fit_below q ns 4096 ≡ true → us ≡ width_table q ns → r ≡ rows_fit_on q us rs written ns →
        r ≡ tables_fit_on q written ns rs
    unfolding tables_fit_on
    tables-on f e h = rw (f, ← (e ∙ table-full f)) h

-- ---- landings

module _ (waits : ℕ → Bool) (ns : List ℕ) where
  pub length-lands : (n : ℕ) → length (lands_below waits ns n) ≡ n
  unfolding lands_below
  length-lands zero = refl
  length-lands (suc n) = length-append (lands_below waits ns n) _ ∙ rw (length-lands n) (add-one n)

  abbrev none : List Bool
  none = replicate 4096 false

  -- The landings of the nodes below n stand in front of a table of marks.
  abbrev pub lands_over : ℕ → List Bool
  lands_over n = lands_below waits ns n ++ drop n none

  pub lands-none : none ≡ lands_over 0
  unfolding lands_below
  lands-none = refl

  pub lands-more :
      (n : ℕ) (xs : List Bool) (d : Node) (r : Bool) → n < 4096 → xs ≡ lands_over n → d ≡ node_at ns n →
      r ≡ lands_at waits n (marks_in xs) d → set xs n r ≡ lands_over (n + 1)
  unfolding lands_below marks_in
  lands-more n xs d r b o e h =
      rw (add-one n, ← e, ← (h ∙ lands-on-same waits n (marks_in xs) (λ a. get_or (lands_below waits ns n) a false) front d), o)
      (front-more (lands_below waits ns n) none n r false (length-lands n) (omega (arith, length-replicate {A = Bool} 4096 false)))
    where
      front : (a : ℕ) → a < n → marks_in xs a ≡ get_or (lands_below waits ns n) a false
      front a l =
          rw (lt-ltb a 4096 (omega arith), o)
          (get_or-append (lands_below waits ns n) (drop n none) false a (omega (arith, length-lands n)))

  -- Past the last node in use there are none.
  module _ (k : ℕ) (rest : Rest ns k) where
    past : (n : ℕ) → k ≤ n → n ≤ 4096 → lands_over k ≡ lands_over n
    unfolding lands_below lands_at
    past zero l b = let z : k ≡ 0 = omega arith in rw z
    past (suc n) l b = by (dec_lt k (suc n)) (past n)
      where
        by : Dec (k < suc n) → (k ≤ n → n ≤ 4096 → lands_over k ≡ lands_over n) → lands_over k ≡ lands_over (suc n)
        by (yes s) on =
            on (omega arith) (omega arith)
            ∙ rw (
              drop-cons none n false (omega (arith, length-replicate {A = Bool} 4096 false)),
              get_or-replicate 4096 n false false b,
              rest.zeros n (omega arith) b,
            )
            (sym (append_assoc (lands_below waits ns n) (false ∷ []) (drop (suc n) none)))
        by (no s) on = let z : k ≡ suc n = omega arith in rw z

    pub lands-all : lands_over k ≡ lands_below waits ns 4096
    lands-all =
        past 4096 rest.most (omega arith)
        ∙ rw (drop_of_length-le none {i = 4096} (omega (arith, length-replicate {A = Bool} 4096 false))) (append-nil _)
