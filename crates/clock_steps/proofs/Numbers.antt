-- What each turn of the numbering owes, on plain values. Assumes nothing.
use mathlib.Core.Path.{◌≡◌, refl, ap, ◌∙◌}
use mathlib.Core.Bool.{Bool, true, false}
use mathlib.Core.List.{List}
use Prim.Native.Nat.{ℕ, suc, ◌+◌, ◌-◌, ◌*◌, ◌%◌, ◌≤◌}
use native.Mathlib.Numerals.{add-one}
use native.Mathlib.Omega.{arith}
use lib.ListN.{get_or, set}
use Rattle.std.specs.Int.{from_bool}
use Rattle.plan.specs.Plan.{Plan}
use Rattle.nextstate.specs.Rules.{one}
use Rattle.clock_nodes.specs.Rows.{fill_row}
use Rattle.clock_steps.specs.Taking.{at_most}
use Rattle.clock_steps.specs.Numbers.{waits_to, waits_in, number_to, number_thread, rows_to, numbers_to, number_rows}
use Rattle.clock_steps.specs.Numbers.{fill_from, fill_below, fill_rows}

-- ---- 1 where a test holds

pub from-one : (t : Bool) → from_bool t ≡ one t
unfolding one
from-one true = refl
from-one false = refl

pub from-small : (t : Bool) → from_bool t ≤ 1
from-small true = omega arith
from-small false = omega arith

module _ (q : Plan) (i first : ℕ) where
  pub waits-none : first ≡ first + waits_to q i 0
  unfolding waits_to
  waits-none = omega arith

  pub waits-more :
      (p : ℕ) {t : Bool} {k u : ℕ} → k ≡ first + waits_to q i p → t ≡ q.waits i p → u ≡ from_bool t →
      k + u ≡ first + waits_to q i (p + 1)
  unfolding waits_to
  waits-more p {t} e w r =
      let x = r ∙ from-one t ∙ ap one w in
      rw (add-one p) (omega (arith, e, x))

  pub number-none : (ns : List ℕ) → ns ≡ number_to q i first 0 ns
  unfolding number_to
  number-none ns = refl

  pub number_more :
      (p : ℕ) (ns : List ℕ) {ms : List ℕ} {k : ℕ} → ms ≡ number_to q i first p ns → k ≡ first + waits_to q i p →
      set ms (256 * i + p) (k % 256) ≡ number_to q i first (p + 1) ns
  unfolding number_to
  number_more p ns e w = rw (add-one p, ← e, ← w)

  pub number-all : (n : ℕ) (ns : List ℕ) {ms : List ℕ} {s p : ℕ} → s ≡ q.size i → n ≡ at_most 256 s → p ≡ n → ms
      ≡ number_to q i first p ns →
      ms ≡ number_thread q i first ns
  unfolding number_thread
  number-all n ns e a p r = r ∙ ap (λ (j : ℕ). number_to q i first j ns) (p ∙ a ∙ ap (at_most 256) e)

  pub waits-all : (n : ℕ) {k s p : ℕ} → s ≡ q.size i → n ≡ at_most 256 s → p ≡ n → k ≡ first + waits_to q i p → k ≡ first + waits_in q i
  unfolding waits_in
  waits-all n e a p r = r ∙ ap (λ (j : ℕ). first + waits_to q i j) (p ∙ a ∙ ap (at_most 256) e)

module _ (q : Plan) where
  pub rows_none : 0 ≡ rows_to q 0
  unfolding rows_to
  rows_none = refl

  pub rows_more : (i : ℕ) {k l : ℕ} → k ≡ rows_to q i → l ≡ k + waits_in q i → l ≡ rows_to q (i + 1)
  unfolding rows_to
  rows_more i e r = rw (add-one i, ← e) r

  pub numbers-none : (ns : List ℕ) → ns ≡ numbers_to q 0 ns
  unfolding numbers_to
  numbers-none ns = refl

  pub numbers_more :
      (i : ℕ) (ns : List ℕ) {ms ls : List ℕ} {k : ℕ} → k ≡ rows_to q i → ms ≡ numbers_to q i ns → ls ≡ number_thread q i k ms →
      ls ≡ numbers_to q (i + 1) ns
  unfolding numbers_to
  numbers_more i ns e r s = rw (add-one i, ← e, ← r) s

  pub numbers-all : (n : ℕ) (ns : List ℕ) {ms : List ℕ} {s i : ℕ} → s ≡ q.threads → n ≡ at_most 8 s → i ≡ n → ms ≡ numbers_to q i ns →
      ms ≡ number_rows q ns
  unfolding number_rows
  numbers-all n ns e a p r = r ∙ ap (λ (j : ℕ). numbers_to q j ns) (p ∙ a ∙ ap (at_most 8) e)

-- ---- the rows of a thread, and of all threads

module _ (ns ls rs : List ℕ) where
  pub fill_none : (mask first : ℕ) (ts : List ℕ) → ts ≡ fill_from ns ls rs mask first (first - first) ts
  unfolding fill_from
  fill_none mask first ts =
      let e : first - first ≡ 0 = omega arith in
      rw e

  pub fill_more :
      (mask first k : ℕ) (ts : List ℕ) {us vs : List ℕ} → first ≤ k → us ≡ fill_from ns ls rs mask first (k - first) ts →
      vs ≡ fill_row ns ls rs k mask us → vs ≡ fill_from ns ls rs mask first (k + 1 - first) ts
  unfolding fill_from
  fill_more mask first k ts h e s =
      let n : k + 1 - first ≡ suc (k - first) = omega arith in
      let o : first + (k - first) ≡ k = omega arith in
      rw (n, o, ← e) s

  module _ (q : Plan) (written : List ℕ) where
    pub below_none : (ts : List ℕ) → ts ≡ fill_below ns ls rs q written 0 ts
    unfolding fill_below
    below_none ts = refl

    pub below_more :
        (i : ℕ) (ts : List ℕ) {us vs : List ℕ} {k l : ℕ} → us ≡ fill_below ns ls rs q written i ts → k ≡ rows_to q i → l ≡ k + waits_in q i →
        vs ≡ fill_from ns ls rs (get_or written i 0) k (l - k) us → vs ≡ fill_below ns ls rs q written (i + 1) ts
    unfolding fill_below
    below_more i ts {k = k} {l = l} e a b s =
        let n : l - k ≡ waits_in q i = omega arith in
        rw (add-one i, ← e, ← a, ← n) s

    pub below_all :
        (n : ℕ) (ts : List ℕ) {us : List ℕ} {s i : ℕ} → s ≡ q.threads → n ≡ at_most 8 s → i ≡ n → us ≡ fill_below ns ls rs q written i ts →
        us ≡ fill_rows ns ls rs q written ts
    unfolding fill_rows
    below_all n ts e a p r = r ∙ ap (λ (j : ℕ). fill_below ns ls rs q written j ts) (p ∙ a ∙ ap (at_most 8) e)
