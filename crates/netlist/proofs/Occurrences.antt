-- What a node's count is: how often its number stands among the operands and the entries, up to 2. Assumes nothing.
use mathlib.Core.Path.{◌≡◌, refl, sym, ap, ◌∙◌}
use mathlib.Core.Bool.{Bool, true, false}
use mathlib.Core.List.{List, [], ◌∷◌, ◌++◌}
use Prim.Native.Nat.{ℕ, zero, suc, ◌+◌, ◌*◌, ◌≤◌, ◌<◌, min}
use native.Mathlib.Omega.{arith}
use lib.ListN.{length, get_or, replicate, length-set, length-replicate, get_or-replicate}
use lib.Seq.{get_or-set_same, get_or-set_other}
use lib.Dec.{ltb, eqb}
use borrow.Author.Tests.{ltb-true, ltb-false, eqb-true, eqb-false}
use Rattle.values.specs.Values.{pick}
use Rattle.netlist.specs.Cells.{node_in}
use Rattle.netlist.specs.Uses.{operands_of, one_more, counted, all_counted, operand_uses, entry_uses, uses_of}
use Rattle.netlist.proofs.Uses.{counted-in, counted-past}

-- ---- definitions

unfoldable pub occurrences : ℕ → List ℕ → ℕ
occurrences n [] = 0
occurrences n (m ∷ ms) = pick (eqb m n) (occurrences n ms + 1) (occurrences n ms)

-- The operands of the first n nodes.
unfoldable pub operands_below : List ℕ → ℕ → List ℕ
operands_below ws zero = []
operands_below ws (suc n) = operands_below ws n ++ operands_of (node_in ws n)

-- The first k entries.
unfoldable pub entries_below : List ℕ → ℕ → List ℕ
entries_below rs zero = []
entries_below rs (suc k) = entries_below rs k ++ (get_or rs k 0 ∷ [])

-- ---- counted: one use

more-min : (u : ℕ) → u ≤ 2 → one_more u ≡ min 2 (u + 1)
unfolding one_more
more-min u h = by (ltb u 2) refl
  where
    by : (t : Bool) → ltb u 2 ≡ t → pick t (u + 1) 2 ≡ min 2 (u + 1)
    by true e = omega (arith, ltb-true u 2 e)
    by false e = omega (arith, ltb-false u 2 e)

module _ (us : List ℕ) where
  length-counted : (m : ℕ) → length (counted us m) ≡ length us
  length-counted m = by (ltb m 4096) refl
    where
      by : (t : Bool) → ltb m 4096 ≡ t → length (counted us m) ≡ length us
      by true e = rw (← counted-in us m (ltb-true m 4096 e) refl) (length-set us m (one_more (get_or us m 0)))
      by false e = rw (← counted-past us m (ltb-false m 4096 e))

  counted_same : (n : ℕ) → n < 4096 → n < length us → get_or us n 0 ≤ 2 → get_or (counted us n) n 0 ≡ min 2 (get_or us n 0 + 1)
  counted_same n h l b =
      rw (← counted-in us n h refl) (get_or-set_same us n (one_more (get_or us n 0)) 0 l ∙ more-min (get_or us n 0) b)

  counted-other : (m n : ℕ) → (n ≡ m → ⊥) → get_or (counted us m) n 0 ≡ get_or us n 0
  counted-other m n d = by (ltb m 4096) refl
    where
      by : (t : Bool) → ltb m 4096 ≡ t → get_or (counted us m) n 0 ≡ get_or us n 0
      by true e = rw (← counted-in us m (ltb-true m 4096 e) refl) (get_or-set_other us m n (one_more (get_or us m 0)) 0 d)
      by false e = rw (← counted-past us m (ltb-false m 4096 e))

-- ---- all_counted: all uses

all_append : (us a b : List ℕ) → all_counted us (a ++ b) ≡ all_counted (all_counted us a) b
unfolding all_counted
all_append us [] b = refl
all_append us (m ∷ a) b = all_append (counted us m) a b

all-counted : (ms us : List ℕ) (n : ℕ) → length us ≡ 4096 → n < 4096 → get_or us n 0 ≤ 2
    → get_or (all_counted us ms) n 0 ≡ min 2 (get_or us n 0 + occurrences n ms)
unfolding all_counted occurrences
all-counted [] us n long h b = omega arith
all-counted (m ∷ ms) us n long h b =
    by (eqb m n) refl (all-counted ms (counted us m) n (length-counted us m ∙ long) h)
  where
    by : (t : Bool) → eqb m n ≡ t
        → (get_or (counted us m) n 0 ≤ 2 → get_or (all_counted (counted us m) ms) n 0 ≡ min 2 (get_or (counted us m) n 0 + occurrences n ms))
        → get_or (all_counted (counted us m) ms) n 0 ≡ min 2 (get_or us n 0 + pick t (occurrences n ms + 1) (occurrences n ms))
    by true e rest =
        let q : m ≡ n = eqb-true m n e in
        let s : get_or (counted us m) n 0 ≡ min 2 (get_or us n 0 + 1) = rw q (counted_same us n h (omega arith) b) in
        omega (arith, rest (omega arith))
    by false e rest =
        let s : get_or (counted us m) n 0 ≡ get_or us n 0 = counted-other us m n (λ p. eqb-false m n e (sym p)) in
        omega (arith, rest (omega arith))

-- ---- uses_of

operand-uses : (ws us : List ℕ) (n : ℕ) → operand_uses ws us n ≡ all_counted us (operands_below ws n)
unfolding operand_uses operands_below all_counted
operand-uses ws us zero = refl
operand-uses ws us (suc n) =
    ap (λ x. all_counted x (operands_of (node_in ws n))) (operand-uses ws us n)
    ∙ sym (all_append us (operands_below ws n) (operands_of (node_in ws n)))

entry-uses : (rs us : List ℕ) (k : ℕ) → entry_uses rs us k ≡ all_counted us (entries_below rs k)
unfolding entry_uses entries_below all_counted
entry-uses rs us zero = refl
entry-uses rs us (suc k) =
    ap (λ x. counted x (get_or rs k 0)) (entry-uses rs us k) ∙ sym (all_append us (entries_below rs k) (get_or rs k 0 ∷ []))

both-uses : (ws rs us : List ℕ) (n k : ℕ)
    → entry_uses rs (operand_uses ws us n) k ≡ all_counted us (operands_below ws n ++ entries_below rs k)
both-uses ws rs us n k =
    entry-uses rs (operand_uses ws us n) k
    ∙ ap (λ x. all_counted x (entries_below rs k)) (operand-uses ws us n)
    ∙ sym (all_append us (operands_below ws n) (entries_below rs k))

from-none : (us ms : List ℕ) (n : ℕ) → length us ≡ 4096 → n < 4096 → get_or us n 0 ≡ 0 → get_or (all_counted us ms) n 0 ≡ min 2 (occurrences n ms)
from-none us ms n long h z = omega (arith, all-counted ms us n long h (omega arith))

-- A node's count is that of its number among the operands and the entries, 2 for more.
pub uses-occurrences : (ws rs : List ℕ) (count waits n : ℕ) → n < 4096
    → get_or (uses_of ws rs count waits) n 0
    ≡ min 2 (occurrences n (operands_below ws (min count 4096) ++ entries_below rs (33 * min waits 32)))
unfolding uses_of
uses-occurrences ws rs count waits n h =
    ap (λ x. get_or x n 0) (both-uses ws rs (replicate 4096 0) (min count 4096) (33 * min waits 32))
    ∙ from-none (replicate 4096 0) (operands_below ws (min count 4096) ++ entries_below rs (33 * min waits 32)) n (length-replicate {A = ℕ} 4096 0) h
    (get_or-replicate {A = ℕ} 4096 n 0 0 h)
