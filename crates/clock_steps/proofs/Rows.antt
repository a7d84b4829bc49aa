-- The rows of lent tables, filled: each wait's row has the cells of its entries, its range of nodes and the registers that its thread
-- writes.
-- Assumes nothing.
use mathlib.Core.Path.{◌≡◌, refl, ap, ◌∙◌}
use mathlib.Core.Logic.{◌≢◌}
use mathlib.Core.List.{List}
use Prim.Native.Nat.{ℕ, zero, suc, ◌+◌, ◌-◌, ◌≤◌, ◌<◌}
use native.Mathlib.Decide.{ℕ_discrete, dec_lt}
use native.Mathlib.Omega.{arith}
use borrow.Author.Tests.{lt-ltb, le-ltb}
use lib.ListN.{length, get_or, set, length-set}
use lib.Seq.{get_or-set_same, get_or-set_other}
use Rattle.masks.specs.Masks.{bits}
use Rattle.events.proofs.Cycle.{Below, at-end, before, below_suc}
use Rattle.plan.specs.Plan.{Plan}
use Rattle.clock_nodes.specs.Copying.{cell_in}
use Rattle.clock_nodes.specs.Rows.{entry_at, row_place, put_entries, low_to, high_to, fill_row}
use Rattle.clock_steps.specs.Numbers.{waits_in, rows_to, fill_from, fill_below}

module _ (ns ls rs : List ℕ) where
  -- ---- what a filled row holds

  pub record RowIs (ts : List ℕ) (row mask : ℕ) : Type 0 where
    pub entry : (c : ℕ) → c < 33 → get_or ts (row_place row + c) 0 ≡ cell_in ns (entry_at rs row c)
    pub low : get_or ts (row_place row + 33) 0 ≡ 80 + low_to ns ls rs row (bits mask) 32
    pub high : get_or ts (row_place row + 34) 0 ≡ high_to ns rs row (bits mask) 32
    pub marks : get_or ts (row_place row + 35) 0 ≡ mask

  row_kept : (ts us : List ℕ) (row mask : ℕ) → ((c : ℕ) → c < 36 → get_or us (row_place row + c) 0 ≡ get_or ts (row_place row + c) 0)
      → RowIs ts row mask → RowIs us row mask
  row_kept ts us row mask k x =
      record {
        entry = λ c h. k c (omega arith) ∙ x.entry c h;
        low = k 33 (omega arith) ∙ x.low;
        high = k 34 (omega arith) ∙ x.high;
        marks = k 35 (omega arith) ∙ x.marks;
      }

  -- ---- the entries

  entries-length : (row c : ℕ) (ts : List ℕ) → length (put_entries ns rs row c ts) ≡ length ts
  unfolding put_entries
  entries-length row zero ts = refl
  entries-length row (suc c) ts = length-set (put_entries ns rs row c ts) _ _ ∙ entries-length row c ts

  entries-other : (row c : ℕ) (ts : List ℕ) (j : ℕ) → ((k : ℕ) → k < c → j ≢ row_place row + k) →
      get_or (put_entries ns rs row c ts) j 0 ≡ get_or ts j 0
  unfolding put_entries
  entries-other row zero ts j d = refl
  entries-other row (suc c) ts j d =
      get_or-set_other (put_entries ns rs row c ts) (row_place row + c) j _ 0 (d c (omega arith))
      ∙ entries-other row c ts j (λ k h. d k (omega arith))

  entries-same : (row c : ℕ) (ts : List ℕ) → row_place row + c ≤ length ts → (k : ℕ) → k < c →
      get_or (put_entries ns rs row c ts) (row_place row + k) 0 ≡ cell_in ns (entry_at rs row k)
  unfolding put_entries
  entries-same row zero ts l k h = absurd (omega arith)
  entries-same row (suc c) ts l k h = by (entries-same row c ts (omega arith)) (below_suc c k h)
    where
      us : List ℕ
      us = put_entries ns rs row c ts

      by : ((j : ℕ) → j < c → get_or us (row_place row + j) 0 ≡ cell_in ns (entry_at rs row j)) → Below c k →
          get_or (set us (row_place row + c) (cell_in ns (entry_at rs row c))) (row_place row + k) 0 ≡ cell_in ns (entry_at rs row k)
      by r (at-end e) = rw e (get_or-set_same us (row_place row + c) _ 0 (omega (arith, entries-length row c ts)))
      by r (before o) = get_or-set_other us (row_place row + c) (row_place row + k) _ 0 (λ e. omega arith) ∙ r k o

  -- ---- one row

  abbrev put_row : ℕ → ℕ → ℕ → ℕ → List ℕ → List ℕ
  put_row row lo hi mask us = set (set (set us (row_place row + 33) lo) (row_place row + 34) hi) (row_place row + 35) mask

  fill_is : (row mask : ℕ) (ts : List ℕ) → row < 32 →
      fill_row ns ls rs row mask ts
      ≡ put_row row (80 + low_to ns ls rs row (bits mask) 32) (high_to ns rs row (bits mask) 32) mask (put_entries ns rs row 33 ts)
  unfolding fill_row
  fill_is row mask ts h = rw (lt-ltb row 32 h)

  fill-past : (row mask : ℕ) (ts : List ℕ) → 32 ≤ row → fill_row ns ls rs row mask ts ≡ ts
  unfolding fill_row
  fill-past row mask ts h = rw (le-ltb row 32 h)

  put-length : (row lo hi mask : ℕ) (us : List ℕ) → length (put_row row lo hi mask us) ≡ length us
  put-length row lo hi mask us = simp length-set

  put_other : (row lo hi mask : ℕ) (us : List ℕ) (j : ℕ) → ((k : ℕ) → k < 36 → j ≢ row_place row + k) →
      get_or (put_row row lo hi mask us) j 0 ≡ get_or us j 0
  put_other row lo hi mask us j d =
      get_or-set_other (set (set us (row_place row + 33) lo) (row_place row + 34) hi) (row_place row + 35) j mask 0 (d 35 (omega arith))
      ∙ get_or-set_other (set us (row_place row + 33) lo) (row_place row + 34) j hi 0 (d 34 (omega arith))
      ∙ get_or-set_other us (row_place row + 33) j lo 0 (d 33 (omega arith))

  put-entry : (row lo hi mask : ℕ) (us : List ℕ) (c : ℕ) → c < 33 →
      get_or (put_row row lo hi mask us) (row_place row + c) 0 ≡ get_or us (row_place row + c) 0
  put-entry row lo hi mask us c h =
      get_or-set_other (set (set us (row_place row + 33) lo) (row_place row + 34) hi) (row_place row + 35) (row_place row + c) mask 0
      (λ e. omega arith)
      ∙ get_or-set_other (set us (row_place row + 33) lo) (row_place row + 34) (row_place row + c) hi 0 (λ e. omega arith)
      ∙ get_or-set_other us (row_place row + 33) (row_place row + c) lo 0 (λ e. omega arith)

  module _ (row lo hi mask : ℕ) (us : List ℕ) (room : row_place row + 36 ≤ length us) where
    put_low : get_or (put_row row lo hi mask us) (row_place row + 33) 0 ≡ lo
    put_low =
        get_or-set_other (set (set us (row_place row + 33) lo) (row_place row + 34) hi) (row_place row + 35) (row_place row + 33) mask 0
        (λ e. omega arith)
        ∙ get_or-set_other (set us (row_place row + 33) lo) (row_place row + 34) (row_place row + 33) hi 0 (λ e. omega arith)
        ∙ get_or-set_same us (row_place row + 33) lo 0 (omega arith)

    put-high : get_or (put_row row lo hi mask us) (row_place row + 34) 0 ≡ hi
    put-high =
        get_or-set_other (set (set us (row_place row + 33) lo) (row_place row + 34) hi) (row_place row + 35) (row_place row + 34) mask 0
        (λ e. omega arith)
        ∙ get_or-set_same (set us (row_place row + 33) lo) (row_place row + 34) hi 0 (omega (arith, length-set us (row_place row + 33) lo))

    put-mask : get_or (put_row row lo hi mask us) (row_place row + 35) 0 ≡ mask
    put-mask =
        let x = set us (row_place row + 33) lo in
        get_or-set_same (set x (row_place row + 34) hi) (row_place row + 35) mask 0
        (omega (arith, length-set x (row_place row + 34) hi, length-set us (row_place row + 33) lo))

  fill-length : (row mask : ℕ) (ts : List ℕ) → length (fill_row ns ls rs row mask ts) ≡ length ts
  fill-length row mask ts = by (dec_lt row 32)
    where
      by : Dec (row < 32) → length (fill_row ns ls rs row mask ts) ≡ length ts
      by (yes h) = ap length (fill_is row mask ts h) ∙ put-length row _ _ mask (put_entries ns rs row 33 ts) ∙ entries-length row 33 ts
      by (no d) = ap length (fill-past row mask ts (omega arith))

  fill-other : (row mask : ℕ) (ts : List ℕ) (j : ℕ) → ((k : ℕ) → k < 36 → j ≢ row_place row + k) →
      get_or (fill_row ns ls rs row mask ts) j 0 ≡ get_or ts j 0
  fill-other row mask ts j d = by (dec_lt row 32)
    where
      by : Dec (row < 32) → get_or (fill_row ns ls rs row mask ts) j 0 ≡ get_or ts j 0
      by (yes h) =
          ap (λ (l : List ℕ). get_or l j 0) (fill_is row mask ts h)
          ∙ put_other row _ _ mask (put_entries ns rs row 33 ts) j d
          ∙ entries-other row 33 ts j (λ k l. d k (omega arith))
      by (no d) = ap (λ (l : List ℕ). get_or l j 0) (fill-past row mask ts (omega arith))

  fill_here : (row mask : ℕ) (ts : List ℕ) → length ts ≡ 1152 → row < 32 → RowIs (fill_row ns ls rs row mask ts) row mask
  fill_here row mask ts l h =
      let us = put_entries ns rs row 33 ts in
      let room : row_place row + 36 ≤ length us = omega (arith, entries-length row 33 ts) in
      let lo = 80 + low_to ns ls rs row (bits mask) 32 in
      let hi = high_to ns rs row (bits mask) 32 in
      rw (fill_is row mask ts h)
      (record {
        entry = λ c o. put-entry row lo hi mask us c o ∙ entries-same row 33 ts (omega arith) c o;
        low = put_low row lo hi mask us room;
        high = put-high row lo hi mask us room;
        marks = put-mask row lo hi mask us room;
      })

  -- A row filled leaves the others.
  fill-apart : (k mask : ℕ) (ts : List ℕ) (row old : ℕ) → row ≢ k → RowIs ts row old → RowIs (fill_row ns ls rs k mask ts) row old
  fill-apart k mask ts row old d x =
      row_kept ts (fill_row ns ls rs k mask ts) row old
      (λ c h. fill-other k mask ts (row_place row + c) (λ j o e. d (omega arith))) x

  -- ---- the rows of a thread

  from-length : (mask first n : ℕ) (ts : List ℕ) → length (fill_from ns ls rs mask first n ts) ≡ length ts
  unfolding fill_from
  from-length mask first zero ts = refl
  from-length mask first (suc n) ts = fill-length (first + n) mask (fill_from ns ls rs mask first n ts) ∙ from-length mask first n ts

  from-below : (mask first n : ℕ) (ts : List ℕ) (row old : ℕ) → row < first → RowIs ts row old →
      RowIs (fill_from ns ls rs mask first n ts) row old
  unfolding fill_from
  from-below mask first zero ts row old h x = x
  from-below mask first (suc n) ts row old h x =
      fill-apart (first + n) mask (fill_from ns ls rs mask first n ts) row old (λ e. omega arith) (from-below mask first n ts row old h x)

  from-here : (mask first n : ℕ) (ts : List ℕ) → length ts ≡ 1152 → (row : ℕ) → first ≤ row → row < first + n → row < 32 →
      RowIs (fill_from ns ls rs mask first n ts) row mask
  unfolding fill_from
  from-here mask first zero ts l row h o r = absurd (omega arith)
  from-here mask first (suc n) ts l row h o r = by (λ o. from-here mask first n ts l row h o r) (ℕ_discrete row (first + n))
    where
      us : List ℕ
      us = fill_from ns ls rs mask first n ts

      by : (row < first + n → RowIs us row mask) → Dec (row ≡ first + n) → RowIs (fill_row ns ls rs (first + n) mask us) row mask
      by x (yes e) = rw e (fill_here (first + n) mask us (from-length mask first n ts ∙ l) (omega arith))
      by x (no d) = fill-apart (first + n) mask us row mask d (x (omega arith))

  -- ---- the rows of all threads

  module _ (q : Plan) (written : List ℕ) where
    below_length : (i : ℕ) (ts : List ℕ) → length (fill_below ns ls rs q written i ts) ≡ length ts
    unfolding fill_below
    below_length zero ts = refl
    below_length (suc i) ts =
        from-length (get_or written i 0) (rows_to q i) (waits_in q i) (fill_below ns ls rs q written i ts) ∙ below_length i ts

    rows-up : (j k : ℕ) → rows_to q j + waits_in q j ≤ rows_to q (suc j + k)
    unfolding rows_to
    rows-up j zero =
        let e : suc j + 0 ≡ suc j = omega arith in
        rw e (omega arith)
    rows-up j (suc k) =
        let e : suc j + suc k ≡ suc (suc j + k) = omega arith in
        rw e (omega (arith, rows-up j k))

    pub row-filled : (i : ℕ) (ts : List ℕ) → length ts ≡ 1152 → (j row : ℕ) → j < i → rows_to q j ≤ row → row < rows_to q j + waits_in q j →
        row < 32 → RowIs (fill_below ns ls rs q written i ts) row (get_or written j 0)
    unfolding fill_below
    row-filled zero ts l j row h a b r = absurd (omega arith)
    row-filled (suc i) ts l j row h a b r = by (λ o. row-filled i ts l j row o a b r) (below_suc i j h)
      where
        us : List ℕ
        us = fill_below ns ls rs q written i ts

        by : (j < i → RowIs us row (get_or written j 0)) → Below i j →
            RowIs (fill_from ns ls rs (get_or written i 0) (rows_to q i) (waits_in q i) us) row (get_or written j 0)
        by x (at-end e) =
            rw e
            (from-here (get_or written i 0) (rows_to q i) (waits_in q i) us (below_length i ts ∙ l) row (rw e at a) (rw e at b) r)
        by x (before o) =
            let n : suc j + (i - suc j) ≡ i = omega arith in
            let u = rw n at (rows-up j (i - suc j)) in
            from-below (get_or written i 0) (rows_to q i) (waits_in q i) us row (get_or written j 0) (omega arith) (x o)
