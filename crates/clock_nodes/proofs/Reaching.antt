-- The loop over the entries of the rows, for the highest node: what it has shown once it has passed the first j. Assumes nothing.
use mathlib.Core.Path.{◌≡◌, refl, sym, ◌∙◌}
use mathlib.Core.List.{List}
use Prim.Native.Nat.{ℕ, zero, suc, ◌+◌, ◌≤◌, ◌<◌}
use native.Mathlib.Decide.{dec_lt}
use native.Mathlib.Numerals.{add-one}
use native.Mathlib.Omega.{arith}
use borrow.Author.Tests.{lt-ltb, le-ltb}
use lib.ListN.{length, get_or, get_or-eq_default}
use Rattle.std.specs.Prelude.{max}
use Rattle.std.proofs.Math.Nat.{max-eq_left, max-eq_right}
use Rattle.events.proofs.Cycle.{Below, at-end, before, below_suc}
use Rattle.clock_nodes.specs.Reach.{furthest, reach_below, reach, Counted}

-- ---- furthest, by the tests

module _ (n e : ℕ) where
  pub no_node : 4096 ≤ e → n ≡ furthest n e
  unfolding furthest
  no_node h = rw (le-ltb e 4096 h)

  node-within : e < 4096 → e < n → n ≡ furthest n e
  unfolding furthest
  node-within h l = rw (lt-ltb e 4096 h, lt-ltb e n l)

  node-further : e < 4096 → n ≤ e → e + 1 ≡ furthest n e
  unfolding furthest
  node-further h l = rw (lt-ltb e 4096 h, le-ltb e n l)

  pub node-max : e < 4096 → max n (e + 1) ≡ furthest n e
  node-max h = by (dec_lt e n)
    where
      by : Dec (e < n) → max n (e + 1) ≡ furthest n e
      by (yes l) = max-eq_left (omega arith) ∙ node-within h l
      by (no l) = max-eq_right (omega arith) ∙ node-further h (omega arith)

  -- What it says of the entry and of n.
  far : (n ≤ furthest n e) × (e < 4096 → e < furthest n e) × (n ≤ 4096 → furthest n e ≤ 4096)
  far = by (dec_lt e 4096) (dec_lt e n)
    where
      by : Dec (e < 4096) → Dec (e < n) → (n ≤ furthest n e) × (e < 4096 → e < furthest n e) × (n ≤ 4096 → furthest n e ≤ 4096)
      by (no h) l = rw (sym (no_node (omega arith))) (omega arith, λ k. absurd (h k), λ k. k)
      by (yes h) (yes l) = rw (sym (node-within h l)) (omega arith, λ k. l, λ k. k)
      by (yes h) (no l) = rw (sym (node-further h (omega arith))) (omega arith, λ k. omega arith, λ k. omega arith)

module _ (rs : List ℕ) where
  pub record Reaching (j n : ℕ) : Type 0 where
    pub is : n ≡ reach_below rs j
    pub some : 1 ≤ n
    pub most : n ≤ 4096
    pub entry : (i : ℕ) → i < j → get_or rs i 0 < 4096 → get_or rs i 0 < n

  pub reaching-none : Reaching 0 1
  unfolding reach_below
  reaching-none = record { is = refl; some = omega arith; most = omega arith; entry = λ i l h. absurd (omega arith) }

  pub reaching-more : (j n r : ℕ) → Reaching j n → r ≡ furthest n (get_or rs j 0) → Reaching (j + 1) r
  unfolding reach_below
  reaching-more j n r x e =
      let h = rw (sym e) at (far n (get_or rs j 0)) in
      record {
        is = rw (add-one j, ← x.is) e;
        some = omega (arith, x.some, h.0);
        most = h.2 x.most;
        entry = λ i l u. by i u h.0 h.1 (below_suc j i (rw (add-one j) at l));
      }
    where
      by : (i : ℕ) → get_or rs i 0 < 4096 → n ≤ r → (get_or rs j 0 < 4096 → get_or rs j 0 < r) → Below j i → get_or rs i 0 < r
      by i u g o (at-end q) = rw q (o (rw q at u))
      by i u g o (before l) = omega (arith, x.entry i l u)

  pub reached : (j n : ℕ) → j ≤ length rs → length rs ≤ j → Reaching j n → n ≡ reach rs
  unfolding reach
  reached j n k l x =
      let z : length rs ≡ j = omega arith in
      rw z x.is

  reaching : (j : ℕ) → Reaching j (reach_below rs j)
  unfolding reach_below
  reaching zero = reaching-none
  reaching (suc j) = rw (add-one j) at (reaching-more j (reach_below rs j) (furthest (reach_below rs j) (get_or rs j 0)) (reaching j) refl)

  -- So many that every entry is one of them, or none of the 4,096.
  pub reach-counted : Counted rs (reach rs)
  unfolding reach
  reach-counted =
      let x = reaching (length rs) in
      record { most = x.most; entry = λ i u. by i u (dec_lt i (length rs)) }
    where
      by : (i : ℕ) → get_or rs i 0 < 4096 → Dec (i < length rs) → get_or rs i 0 < reach_below rs (length rs)
      by i u (yes o) = (reaching (length rs)).entry i o u
      by i u (no d) = rw (get_or-eq_default rs 0 {n = i} (omega arith)) (reaching (length rs)).some
