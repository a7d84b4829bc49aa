-- The copied nodes and the lowest nodes that they need, as they lie when all are copied. Assumes nothing.
use mathlib.Core.Path.{◌≡◌, refl, sym, ◌∙◌}
use mathlib.Core.Logic.{◌≢◌}
use mathlib.Core.List.{List}
use Prim.Native.Nat.{ℕ, zero, suc, ◌+◌, ◌-◌, ◌*◌, ◌≤◌, ◌<◌}
use native.Mathlib.Decide.{ℕ_discrete, dec_lt}
use native.Mathlib.Omega.{arith}
use borrow.Author.Tests.{lt-ltb, le-ltb, eq-eqb, ne_eqb}
use lib.ListN.{length, get_or, length-set}
use lib.Seq.{get_or-set_same, get_or-set_other}
use Rattle.plan.specs.Plan.{Node, node, node_at}
use Rattle.plan_exprs.proofs.Flatten.{put-length, put_same, put-below, node_kept}
use Rattle.clock_nodes.specs.Copying.{first_of, second_of, third_of, put_words, copy_node, copy_to, low_in, least, lower, lowest, low_node}
use Rattle.clock_nodes.specs.Copying.{lows_to}

-- ---- the words of node n

module _ (ns : List ℕ) (n : ℕ) where
  abbrev pub kind_at : ℕ
  kind_at = get_or ns (4 * n) 0

  abbrev pub first_at : ℕ
  first_at = get_or ns (4 * n + 1) 0

  abbrev pub second_at : ℕ
  second_at = get_or ns (4 * n + 2) 0

  abbrev pub third_at : ℕ
  third_at = get_or ns (4 * n + 3) 0

-- ---- copy_to

module _ (ns us : List ℕ) where
  abbrev pub copy_of : ℕ → Node
  copy_of n =
      node (kind_at ns n) (first_of ns (kind_at ns n) (first_at ns n)) (second_of ns (kind_at ns n) (second_at ns n) (third_at ns n))
      (third_of ns us (kind_at ns n) (first_at ns n) (third_at ns n))

  copy-length : (n : ℕ) (ws : List ℕ) → n < 4096 → length (copy_node ns us n ws) ≡ length ws
  unfolding copy_node put_words
  copy-length n ws h = put-length (80 + n) _ _ _ _ ws (omega arith)

  copy-same : (n : ℕ) (ws : List ℕ) → n < 4096 → 16704 ≤ length ws → node_at (copy_node ns us n ws) (80 + n) ≡ copy_of n
  unfolding copy_node put_words
  copy-same n ws h l = put_same (80 + n) _ _ _ _ ws (omega arith) l

  copy-below : (n : ℕ) (ws : List ℕ) → n < 4096 → (i : ℕ) → i < 80 + n → node_at (copy_node ns us n ws) i ≡ node_at ws i
  unfolding copy_node put_words
  copy-below n ws h i o =
      sym (node_kept ws (copy_node ns us n ws) (80 + n) (λ j u. put-below (80 + n) _ _ _ _ ws (omega arith) j u) i o)

  pub length-copied : (n : ℕ) (ws : List ℕ) → n ≤ 4096 → length (copy_to ns us n ws) ≡ length ws
  unfolding copy_to
  length-copied zero ws h = refl
  length-copied (suc n) ws h = copy-length n (copy_to ns us n ws) (omega arith) ∙ length-copied n ws (omega arith)

  copied_more : (ws : List ℕ) (n j : ℕ) → n + suc j ≤ 4096 → 16704 ≤ length ws → node_at (copy_to ns us (n + suc j) ws) (80 + n) ≡ copy_of n
  unfolding copy_to
  copied_more ws n zero h l =
      let e : n + 1 ≡ suc n = omega arith in
      rw e (copy-same n (copy_to ns us n ws) (omega arith) (omega (arith, length-copied n ws (omega arith))))
  copied_more ws n (suc j) h l =
      let e : n + suc (suc j) ≡ suc (n + suc j) = omega arith in
      rw e
      (copy-below (n + suc j) (copy_to ns us (n + suc j) ws) (omega arith) (80 + n) (omega arith)
      ∙ copied_more ws n j (omega arith) l)

  -- Node n lies in cell 80 + n.
  pub copied_at : (ws : List ℕ) (count n : ℕ) → count ≤ 4096 → n < count → 16704 ≤ length ws →
      node_at (copy_to ns us count ws) (80 + n) ≡ copy_of n
  copied_at ws count n h o l =
      let e : n + suc (count - suc n) ≡ count = omega arith in
      rw e at (copied_more ws n (count - suc n) (omega arith) l)

-- ---- lower, lowest

module _ (ns ls : List ℕ) where
  least-left : (a b : ℕ) → least a b ≤ a
  unfolding least
  least-left a b = by (dec_lt a b)
    where
      by : Dec (a < b) → least a b ≤ a
      by (yes h) = rw (lt-ltb a b h) (omega arith)
      by (no h) = let l : b ≤ a = omega arith in rw (le-ltb a b l) l

  least-right : (a b : ℕ) → least a b ≤ b
  unfolding least
  least-right a b = by (dec_lt a b)
    where
      by : Dec (a < b) → least a b ≤ b
      by (yes h) = rw (lt-ltb a b h) (omega arith)
      by (no h) = let l : b ≤ a = omega arith in rw (le-ltb a b l) (omega arith)

  pub lower-self : (n x : ℕ) → lower ns ls n x ≤ x
  unfolding lower
  lower-self n x = by (ℕ_discrete (kind_at ns n) 0)
    where
      by : Dec (kind_at ns n ≡ 0) → lower ns ls n x ≤ x
      by (yes e) = rw (eq-eqb (kind_at ns n) 0 e) (omega arith)
      by (no d) = rw (ne_eqb (kind_at ns n) 0 d) (least-right (low_in ls n) x)

  pub lower-node : (n x : ℕ) → kind_at ns n ≢ 0 → lower ns ls n x ≤ low_in ls n
  unfolding lower
  lower-node n x d = rw (ne_eqb (kind_at ns n) 0 d) (least-left (low_in ls n) x)

  module _ (x k a b c : ℕ) where
    abbrev one : ℕ
    one = lower ns ls a x

    abbrev two : ℕ
    two = lower ns ls b one

    abbrev three : ℕ
    three = lower ns ls c two

    pub data Lowest : ℕ → Type 0 where
      of_none : k < 11 → Lowest x
      of_one : 11 ≤ k → k < 13 → Lowest one
      of_two : 13 ≤ k → k < 20 → Lowest two
      of_three : 20 ≤ k → Lowest three

    lowest-is : Lowest (lowest ns ls x k a b c)
    unfolding lowest
    lowest-is = by (dec_lt k 11) (dec_lt k 13) (dec_lt k 20)
      where
        by : Dec (k < 11) → Dec (k < 13) → Dec (k < 20) → Lowest (lowest ns ls x k a b c)
        by (yes h) y z = rw (lt-ltb k 11 h) (of_none h)
        by (no h) (yes y) z = let l : 11 ≤ k = omega arith in rw (le-ltb k 11 l, lt-ltb k 13 y) (of_one l y)
        by (no h) (no y) (yes z) =
            let l : 11 ≤ k = omega arith in
            let m : 13 ≤ k = omega arith in
            rw (le-ltb k 11 l, le-ltb k 13 m, lt-ltb k 20 z) (of_two m z)
        by (no h) (no y) (no z) =
            let l : 11 ≤ k = omega arith in
            let m : 13 ≤ k = omega arith in
            let o : 20 ≤ k = omega arith in
            rw (le-ltb k 11 l, le-ltb k 13 m, le-ltb k 20 o) (of_three o)

    self-by : (y : ℕ) → Lowest y → y ≤ x
    self-by y (of_none h) = omega arith
    self-by y (of_one h l) = lower-self a x
    self-by y (of_two h l) = omega (arith, lower-self b one, lower-self a x)
    self-by y (of_three h) = omega (arith, lower-self c two, lower-self b one, lower-self a x)

    first_by : (y : ℕ) → 11 ≤ k → kind_at ns a ≢ 0 → Lowest y → y ≤ low_in ls a
    first_by y g d (of_none h) = absurd (omega arith)
    first_by y g d (of_one h l) = lower-node a x d
    first_by y g d (of_two h l) = omega (arith, lower-self b one, lower-node a x d)
    first_by y g d (of_three h) = omega (arith, lower-self c two, lower-self b one, lower-node a x d)

    second-by : (y : ℕ) → 13 ≤ k → kind_at ns b ≢ 0 → Lowest y → y ≤ low_in ls b
    second-by y g d (of_none h) = absurd (omega arith)
    second-by y g d (of_one h l) = absurd (omega arith)
    second-by y g d (of_two h l) = lower-node b one d
    second-by y g d (of_three h) = omega (arith, lower-self c two, lower-node b one d)

    third-by : (y : ℕ) → 20 ≤ k → kind_at ns c ≢ 0 → Lowest y → y ≤ low_in ls c
    third-by y g d (of_none h) = absurd (omega arith)
    third-by y g d (of_one h l) = absurd (omega arith)
    third-by y g d (of_two h l) = absurd (omega arith)
    third-by y g d (of_three h) = lower-node c two d

-- ---- lows_to

module _ (ns : List ℕ) (ls : List ℕ) (l : length ls ≡ 4096) where
  length-lows : (n : ℕ) → length (lows_to ns n ls) ≡ 4096
  unfolding lows_to low_node
  length-lows zero = l
  length-lows (suc n) = length-set (lows_to ns n ls) n _ ∙ length-lows n

  -- One more leaves the others.
  lows-other : (n a : ℕ) → a ≢ n → low_in (lows_to ns (suc n) ls) a ≡ low_in (lows_to ns n ls) a
  unfolding lows_to low_node low_in
  lows-other n a d = rw (get_or-set_other (lows_to ns n ls) n a _ 0 d)

  lows-same : (n : ℕ) → n < 4096
      → low_in (lows_to ns (suc n) ls) n ≡ lowest ns (lows_to ns n ls) n (kind_at ns n) (first_at ns n) (second_at ns n) (third_at ns n)
  unfolding lows_to low_node low_in
  lows-same n h =
      rw (lt-ltb n 4096 h) (get_or-set_same (lows_to ns n ls) n _ 0 (omega (arith, length-lows n)))

  lows-kept : (n a j : ℕ) → a < n → low_in (lows_to ns (n + j) ls) a ≡ low_in (lows_to ns n ls) a
  lows-kept n a zero h = let e : n + 0 ≡ n = omega arith in rw e
  lows-kept n a (suc j) h =
      let e : n + suc j ≡ suc (n + j) = omega arith in
      rw e (lows-other (n + j) a (λ q. omega arith) ∙ lows-kept n a j h)

  lows-early : (count n a : ℕ) → n ≤ count → a < n → low_in (lows_to ns count ls) a ≡ low_in (lows_to ns n ls) a
  lows-early count n a h o =
      let e : n + (count - n) ≡ count = omega arith in
      rw e at (lows-kept n a (count - n) o)

  module _ (count : ℕ) (h : count ≤ 4096) where
    abbrev pub Low : ℕ → ℕ
    Low n = low_in (lows_to ns count ls) n

    module _ (n : ℕ) (o : n < count) where
      Known-low : Lowest ns (lows_to ns n ls) n (kind_at ns n) (first_at ns n) (second_at ns n) (third_at ns n) (Low n)
      Known-low =
          rw (lows-early count (suc n) n o (omega arith), lows-same n (omega arith))
          (lowest-is ns (lows_to ns n ls) n (kind_at ns n) (first_at ns n) (second_at ns n) (third_at ns n))

      pub low-self : Low n ≤ n
      low-self = self-by ns (lows_to ns n ls) n (kind_at ns n) (first_at ns n) (second_at ns n) (third_at ns n) (Low n) Known-low

      pub low_first : 11 ≤ kind_at ns n → first_at ns n < n → kind_at ns (first_at ns n) ≢ 0 → Low n ≤ Low (first_at ns n)
      low_first k b d =
          rw (lows-early count n (first_at ns n) (omega arith) b)
          (first_by ns (lows_to ns n ls) n (kind_at ns n) (first_at ns n) (second_at ns n) (third_at ns n) (Low n) k d Known-low)

      pub low_second : 13 ≤ kind_at ns n → second_at ns n < n → kind_at ns (second_at ns n) ≢ 0 → Low n ≤ Low (second_at ns n)
      low_second k b d =
          rw (lows-early count n (second_at ns n) (omega arith) b)
          (second-by ns (lows_to ns n ls) n (kind_at ns n) (first_at ns n) (second_at ns n) (third_at ns n) (Low n) k d Known-low)

      pub low-third : 20 ≤ kind_at ns n → third_at ns n < n → kind_at ns (third_at ns n) ≢ 0 → Low n ≤ Low (third_at ns n)
      low-third k b d =
          rw (lows-early count n (third_at ns n) (omega arith) b)
          (third-by ns (lows_to ns n ls) n (kind_at ns n) (first_at ns n) (second_at ns n) (third_at ns n) (Low n) k d Known-low)
