-- What each branch and each turn of a loop owes, on plain values. Assumes nothing.
use mathlib.Core.Path.{◌≡◌, refl, sym, ◌∙◌}
use mathlib.Core.Bool.{Bool, false}
use mathlib.Core.List.{List}
use Prim.Native.Nat.{ℕ, ◌+◌, ◌*◌, ◌<◌, ◌≤◌}
use native.Mathlib.Decide.{dec_lt}
use native.Mathlib.Numerals.{add-one}
use native.Mathlib.Omega.{arith}
use borrow.Author.Tests.{lt-ltb, le-ltb, eq-eqb, ne_eqb, le-leb, lt-leb}
use lib.Dec.{ltb}
use lib.ListN.{length, get_or, set, get_or-eq_default}
use Rattle.std.specs.Prelude.{min, max}
use Rattle.std.proofs.Math.Nat.{min-eq_left, min-eq_right, max-eq_left, max-eq_right}
use Rattle.values.specs.Values.{pick}
use Rattle.masks.specs.Masks.{bits}
use Rattle.clock_nodes.specs.Copying.{cell_in, copy_node, copy_to, copy_all, low_in, least, lower, low_node, lows_to, low_all}
use Rattle.clock_nodes.specs.Rows.{entry_at, put_entries, low_by, low_to, higher, high_by, high_to, fill_row}

-- ---- node n of the words; w is its kind

module _ (ns : List ℕ) (n : ℕ) {w : ℕ} (k : w ≡ get_or ns (4 * n) 0) where
  pub cell-variable : {x : ℕ} → w ≡ 0 → x ≡ get_or ns (4 * n + 1) 0 → x ≡ cell_in ns n
  unfolding cell_in
  cell-variable z h = rw (eq-eqb (get_or ns (4 * n) 0) 0 (sym k ∙ z)) h

  pub cell-node : (w ≡ 0 → ⊥) → 80 + n ≡ cell_in ns n
  unfolding cell_in
  cell-node z = rw (ne_eqb (get_or ns (4 * n) 0) 0 (λ q. z (k ∙ q)))

-- ---- copy_to, copy_all

module _ (ns us : List ℕ) where
  pub copy-none : (ws : List ℕ) → ws ≡ copy_to ns us 0 ws
  unfolding copy_to
  copy-none ws = refl

  pub copy_more : (n : ℕ) (ws : List ℕ) {ps qs : List ℕ} → ps ≡ copy_to ns us n ws → qs ≡ copy_node ns us n ps → qs ≡ copy_to ns us (n + 1) ws
  unfolding copy_to
  copy_more n ws p q = rw (add-one n, ← p) q

  pub copy-past : (count : ℕ) (ws : List ℕ) → 4096 < count → ws ≡ copy_all ns us count ws
  unfolding copy_all
  copy-past count ws h = rw (lt-leb count 4096 h)

  pub copy_within : (n count : ℕ) (ws : List ℕ) {ps : List ℕ} → n ≡ count → count ≤ 4096 → ps ≡ copy_to ns us n ws →
      ps ≡ copy_all ns us count ws
  unfolding copy_all
  copy_within n count ws e h p = rw (le-leb count 4096 h, ← e) p

-- ---- low_in

module _ (ls : List ℕ) (n : ℕ) (h : length ls ≡ 4096) where
  pub low-or : get_or ls n 0 ≡ low_in ls n
  unfolding low_in
  low-or = by (dec_lt n 4096)
    where
      by : Dec (n < 4096) → get_or ls n 0 ≡ pick (ltb n 4096) (get_or ls n 0) 0
      by (yes l) = rw (lt-ltb n 4096 l)
      by (no l) = rw (le-ltb n 4096 (omega arith)) (get_or-eq_default ls 0 {n = n} (omega arith))

-- ---- lower

least-min : (a b : ℕ) → min a b ≡ least a b
unfolding least
least-min a b = by (dec_lt a b)
  where
    by : Dec (a < b) → min a b ≡ pick (ltb a b) a b
    by (yes l) = rw (lt-ltb a b l) (min-eq_left (omega arith))
    by (no l) = rw (le-ltb a b (omega arith)) (min-eq_right (omega arith))

module _ (ns ls : List ℕ) (n x : ℕ) {w : ℕ} (k : w ≡ get_or ns (4 * n) 0) where
  pub lower-variable : w ≡ 0 → x ≡ lower ns ls n x
  unfolding lower
  lower-variable z = rw (eq-eqb (get_or ns (4 * n) 0) 0 (sym k ∙ z))

  pub lower-node : {l y : ℕ} → (w ≡ 0 → ⊥) → l ≡ low_in ls n → y ≡ min l x → y ≡ lower ns ls n x
  unfolding lower
  lower-node z m h = rw (ne_eqb (get_or ns (4 * n) 0) 0 (λ q. z (k ∙ q)), ← m, ← least-min _ x) h

-- ---- lows_to, low_all

module _ (ns : List ℕ) where
  pub lows-none : (ls : List ℕ) → ls ≡ lows_to ns 0 ls
  unfolding lows_to
  lows-none ls = refl

  pub lows-more : (n : ℕ) (ls : List ℕ) {ps qs : List ℕ} → ps ≡ lows_to ns n ls → qs ≡ low_node ns n ps → qs ≡ lows_to ns (n + 1) ls
  unfolding lows_to
  lows-more n ls p q = rw (add-one n, ← p) q

  pub lows-past : (count : ℕ) (ls : List ℕ) → 4096 < count → ls ≡ low_all ns count ls
  unfolding low_all
  lows-past count ls h = rw (lt-leb count 4096 h)

  pub lows-within : (n count : ℕ) (ls : List ℕ) {ps : List ℕ} → n ≡ count → count ≤ 4096 → ps ≡ lows_to ns n ls → ps ≡ low_all ns count ls
  unfolding low_all
  lows-within n count ls e h p = rw (le-leb count 4096 h, ← e) p

-- ---- a row's entries

module _ (ns rs : List ℕ) (row : ℕ) where
  pub entries_none : (ts : List ℕ) → ts ≡ put_entries ns rs row 0 ts
  unfolding put_entries
  entries_none ts = refl

  pub entries-more :
      (c : ℕ) (us : List ℕ) {ts : List ℕ} {e v : ℕ} → ts ≡ put_entries ns rs row c us → e ≡ entry_at rs row c → v ≡ cell_in ns e →
      set ts (36 * row + c) v ≡ put_entries ns rs row (c + 1) us
  unfolding put_entries
  entries-more c us p q r = rw (add-one c, ← p, ← q, ← r)

-- ---- a row's range

module _ (ns ls rs : List ℕ) (row : ℕ) (written : List Bool) where
  pub low-none : {e x : ℕ} → e ≡ entry_at rs row 32 → x ≡ lower ns ls e 4096 → x ≡ low_to ns ls rs row written 0
  unfolding low_to
  low-none p q = rw (← p) q

  pub low-more :
      (r : ℕ) {e x y : ℕ} {t : Bool} → x ≡ low_to ns ls rs row written r → t ≡ get_or written r false → e ≡ entry_at rs row r →
      y ≡ low_by ns ls t e x → y ≡ low_to ns ls rs row written (r + 1)
  unfolding low_to
  low-more r p q m h = rw (add-one r, ← p, ← q, ← m) h

higher-of : (x u : ℕ) → max x u ≡ pick (ltb x u) u x
higher-of x u = by (dec_lt x u)
  where
    by : Dec (x < u) → max x u ≡ pick (ltb x u) u x
    by (yes l) = rw (lt-ltb x u l) (max-eq_right (omega arith))
    by (no l) = rw (le-ltb x u (omega arith)) (max-eq_left (omega arith))

module _ (ns : List ℕ) (n x : ℕ) {w : ℕ} (k : w ≡ get_or ns (4 * n) 0) where
  pub higher-variable : w ≡ 0 → x ≡ higher ns n x
  unfolding higher
  higher-variable z = rw (eq-eqb (get_or ns (4 * n) 0) 0 (sym k ∙ z))

  pub higher-node : {y : ℕ} → (w ≡ 0 → ⊥) → y ≡ max x (81 + n) → y ≡ higher ns n x
  unfolding higher
  higher-node z h = rw (ne_eqb (get_or ns (4 * n) 0) 0 (λ q. z (k ∙ q)), ← higher-of x (81 + n)) h

module _ (ns rs : List ℕ) (row : ℕ) (written : List Bool) where
  pub high-none : {e x : ℕ} → e ≡ entry_at rs row 32 → x ≡ higher ns e 0 → x ≡ high_to ns rs row written 0
  unfolding high_to
  high-none p q = rw (← p) q

  pub high-next :
      (r : ℕ) {e x y : ℕ} {t : Bool} → x ≡ high_to ns rs row written r → t ≡ get_or written r false → e ≡ entry_at rs row r →
      y ≡ high_by ns t e x → y ≡ high_to ns rs row written (r + 1)
  unfolding high_to
  high-next r p q m h = rw (add-one r, ← p, ← q, ← m) h

module _ (ns ls rs : List ℕ) (row mask : ℕ) (us : List ℕ) where
  pub row-past : 32 ≤ row → us ≡ fill_row ns ls rs row mask us
  unfolding fill_row
  row-past h = rw (le-ltb row 32 h)

  pub row_here :
      {ts : List ℕ} {x y : ℕ} → row < 32 → ts ≡ put_entries ns rs row 33 us → x ≡ low_to ns ls rs row (bits mask) 32 →
      y ≡ high_to ns rs row (bits mask) 32 →
      set (set (set ts (36 * row + 33) (80 + x)) (36 * row + 34) y) (36 * row + 35) mask ≡ fill_row ns ls rs row mask us
  unfolding fill_row
  row_here h p q r = rw (lt-ltb row 32 h, ← p, ← q, ← r)
