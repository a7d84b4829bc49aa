-- How many waits the threads have: one turn of each loop, and that the counts fit. Assumes nothing.
use mathlib.Core.Path.{◌≡◌, refl, sym, ap, ◌∙◌}
use mathlib.Core.Bool.{Bool, true, false}
use mathlib.Core.List.{List}
use Prim.Native.Nat.{ℕ, zero, suc, ◌+◌, ◌≤◌, min}
use native.Mathlib.Nat.{le_refl}
use native.Mathlib.Numerals.{add-one}
use native.Mathlib.Omega.{arith}
use borrow.Author.Tests.{ltb-true, ltb-false}
use lib.Dec.{ltb}
use lib.ListN.{get_or}
use Rattle.values.specs.Values.{pick}
use Rattle.pseudocode.specs.declared.Instruction.{Instruction}
use Rattle.pseudocode.specs.declared.Instruction.TheVariants.{Wait, Act}
use Rattle.pseudocode.specs.Fetching.{fetch_at}
use Rattle.tables.specs.Readers.{at_most}
use Rattle.tables.proofs.Readers.{at_most-in, at_most-cut, at_most-most}
use Rattle.rules.specs.Judging.{size_of, wait_of, waits_in, waits_of}

-- What `min` leaves of a count.
pub at_most-min : (limit n : ℕ) → min n limit ≡ at_most limit n
at_most-min limit n = by (ltb n limit) refl
  where
    by : (t : Bool) → ltb n limit ≡ t → min n limit ≡ at_most limit n
    by true e =
        let h = ltb-true n limit e in
        let m : min n limit ≡ n = omega (arith, h) in
        m ∙ sym (at_most-in limit n h)
    by false e =
        let h = ltb-false n limit e in
        let m : min n limit ≡ limit = omega (arith, h) in
        m ∙ sym (at_most-cut limit n h)

pub size_of-most : (sizes : List ℕ) (i : ℕ) → size_of sizes i ≤ 256
unfolding size_of
size_of-most sizes i = by (ltb i 8)
  where
    by : (t : Bool) → pick t (at_most 256 (get_or sizes i 0)) 0 ≤ 256
    by true = at_most-most 256 (get_or sizes i 0)
    by false = omega arith

pub wait_of-most : (i : Instruction) → wait_of i ≤ 1
unfolding wait_of
wait_of-most (Wait t) = le_refl 1
wait_of-most (Act a) = omega arith

module _ (s code : List ℕ) where
  pub waits-none : (i : ℕ) → waits_in s code i 0 ≡ 0
  unfolding waits_in
  waits-none i = refl

  pub waits-turn : (i p : ℕ) {k w : ℕ} {x : Instruction} → k ≡ waits_in s code i p → x ≡ fetch_at s code i p → w ≡ wait_of x
      → k + w ≡ waits_in s code i (p + 1)
  unfolding waits_in
  waits-turn i p e x h = rw (add-one p) (λ j. e j + (h ∙ ap wait_of x) j)

  pub waits-most : (i n : ℕ) → waits_in s code i n ≤ n
  unfolding waits_in
  waits-most i zero = le_refl 0
  waits-most i (suc n) = omega (arith, waits-most i n, wait_of-most (fetch_at s code i n))

  pub count_none : (sizes : List ℕ) → waits_of s code sizes 0 ≡ 0
  unfolding waits_of
  count_none sizes = refl

  pub count_turn : (sizes : List ℕ) (i : ℕ) {k w n : ℕ} → k ≡ waits_of s code sizes i → n ≡ size_of sizes i → w ≡ waits_in s code i n
      → k + w ≡ waits_of s code sizes (i + 1)
  unfolding waits_of
  count_turn sizes i e g h = rw (add-one i) (λ j. e j + (h ∙ ap (waits_in s code i) g) j)
