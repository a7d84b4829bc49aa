-- Laws of chosen tokens: each test, and how a loop goes along the tokens. Assumes nothing.
use mathlib.Core.Path.{◌≡◌, refl, sym, ◌∙◌, ap}
use mathlib.Core.Bool.{Bool, true, false}
use mathlib.Core.List.{List, [], ◌∷◌, ◌++◌, append_assoc, append-nil}
use Prim.Native.Nat.{ℕ, zero, suc, ◌+◌, ◌-◌, ◌<◌, ◌≤◌, min}
use native.Mathlib.Nat.{sub-zero}
use native.Mathlib.Numerals.{add-one}
use native.Mathlib.Omega.{arith}
use borrow.Author.Tests.{ltb-true, ltb-false, lt-ltb, le-ltb, eq-eqb, ne_eqb, le-leb, lt-leb}
use lib.Dec.{ltb, eqb}
use lib.ListN.{length, get_or, length-append}
use Rattle.values.specs.Values.{pick}
use Rattle.verilog_grammar.specs.Meaning.{up_to}
use Rattle.verilog_names.specs.declared.Class.{Class}
use Rattle.verilog_names.specs.declared.Class.TheVariants.{Used, Declared, Wire, Target}
use Rattle.verilog_names.specs.Chosen.{capped, here, chosen, has_role, is_used, is_declared, is_in}

-- ---- capped, up_to

module _ (n : ℕ) where
  pub capped-below : n < 16385 → n ≡ capped n
  unfolding capped
  capped-below h = rw (lt-ltb n 16385 h)

  pub capped-above : 16385 ≤ n → 16385 ≡ capped n
  unfolding capped
  capped-above h = rw (le-ltb n 16385 h)

  pub capped-few : capped n ≤ 16385
  unfolding capped
  capped-few = by (ltb n 16385) refl
    where
      by : (t : Bool) → ltb n 16385 ≡ t → pick (ltb n 16385) n 16385 ≤ 16385
      by true e = rw e (omega (arith, ltb-true n 16385 e))
      by false e = rw e (omega arith)

pub min-capped : (n : ℕ) → min n 16385 ≡ capped n
unfolding capped
min-capped n = by (ltb n 16385) refl
  where
    by : (t : Bool) → ltb n 16385 ≡ t → min n 16385 ≡ pick t n 16385
    by true e = omega (arith, ltb-true n 16385 e)
    by false e = omega (arith, ltb-false n 16385 e)

pub capped-kept : (count n : ℕ) → n ≡ capped count → n ≤ 16385
capped-kept count n e = rw e (capped-few count)

module _ (most n : ℕ) where
  pub up_to-below : n ≤ most → n ≡ up_to most n
  unfolding up_to
  up_to-below h = rw (le-leb n most h)

  pub up_to-above : most < n → 255 ≡ up_to most n
  unfolding up_to
  up_to-above h = rw (lt-leb n most h)

-- ---- tests

module _ (table : List ℕ) (i : ℕ) where
  pub role-tested : (r : ℕ) → eqb (get_or table i 0) r ≡ has_role table r i
  unfolding has_role
  role-tested r = refl

  pub used-other : (get_or table i 0 ≡ 64 → ⊥) → false ≡ is_used table i
  unfolding is_used
  used-other f = rw (ne_eqb (get_or table i 0) 64 f)

  pub used-name : get_or table i 0 ≡ 64 → ltb 1 i ≡ is_used table i
  unfolding is_used
  used-name e = rw (eq-eqb (get_or table i 0) 64 e)

  pub declared-none : get_or table i 0 ≡ 0 → false ≡ is_declared table i
  unfolding is_declared
  declared-none e = rw (eq-eqb (get_or table i 0) 0 e)

  pub declared-some : (get_or table i 0 ≡ 0 → ⊥) → ltb (get_or table i 0) 4 ≡ is_declared table i
  unfolding is_declared
  declared-some f = rw (ne_eqb (get_or table i 0) 0 f)

module _ (kinds roles : List ℕ) (c : Class) (i : ℕ) where
  pub in-used : c ≡ Used → is_used kinds i ≡ is_in kinds roles c i
  unfolding is_in
  in-used e = rw e

  pub in-declared : c ≡ Declared → is_declared roles i ≡ is_in kinds roles c i
  unfolding is_in
  in-declared e = rw e

  pub in-wire : c ≡ Wire → has_role roles 3 i ≡ is_in kinds roles c i
  unfolding is_in
  in-wire e = rw e

  pub in-target : c ≡ Target → has_role roles 4 i ≡ is_in kinds roles c i
  unfolding is_in
  in-target e = rw e

-- ---- here, chosen

module _ (test : ℕ → Bool) where
  pub here_in : (i : ℕ) → test i ≡ true → here test i ≡ i ∷ []
  unfolding here
  here_in i e = rw e

  pub here_out : (i : ℕ) → test i ≡ false → here test i ≡ []
  unfolding here
  here_out i e = rw e

  pub here-few : (i : ℕ) → length (here test i) ≤ 1
  here-few i = by (test i) refl
    where
      by : (t : Bool) → test i ≡ t → length (here test i) ≤ 1
      by true e = rw (here_in i e) (omega arith)
      by false e = rw (here_out i e) (omega arith)

  pub chosen-suc : (n i : ℕ) → chosen test (suc n) i ≡ here test i ++ chosen test n (i + 1)
  unfolding chosen
  chosen-suc n i = refl

  pub chosen-step : (n i : ℕ) → i < n → chosen test (n - i) i ≡ here test i ++ chosen test (n - (i + 1)) (i + 1)
  chosen-step n i h = ap (λ k. chosen test k i) {x = n - i} {y = suc (n - (i + 1))} (omega arith) ∙ chosen-suc (n - (i + 1)) i

  pub chosen-done : (n i : ℕ) → n ≤ i → chosen test (n - i) i ≡ []
  unfolding chosen
  chosen-done n i h = ap (λ k. chosen test k i) (done n i h)
    where
      done : (n i : ℕ) → n ≤ i → n - i ≡ 0
      done n i h = omega arith

  pub chosen_none : (i : ℕ) → chosen test 0 i ≡ []
  unfolding chosen
  chosen_none i = refl

  pub chosen-all : (n : ℕ) → chosen test (n - 0) 0 ≡ chosen test n 0
  chosen-all n = ap (λ k. chosen test k 0) (sub-zero n)

  pub chosen-few : (n i : ℕ) → length (chosen test n i) ≤ n
  unfolding chosen
  chosen-few zero i = omega arith
  chosen-few (suc n) i =
      omega (arith, length-append (here test i) (chosen test n (i + 1)), here-few i, chosen-few n (i + 1))

  -- the last of them
  pub chosen_more : (n i : ℕ) → chosen test (suc n) i ≡ chosen test n i ++ here test (i + n)
  unfolding chosen
  chosen_more zero i = append-nil _ ∙ ap (here test) {x = i} {y = i + 0} (omega arith)
  chosen_more (suc n) i =
      ap (λ l. here test i ++ l) (chosen_more n (i + 1)
      ∙ ap (λ k. chosen test n (i + 1) ++ here test k) {x = i + 1 + n} {y = i + suc n} (omega arith))
      ∙ sym (append_assoc (here test i) (chosen test n (i + 1)) (here test (i + suc n)))

  pub chosen-next : (i : ℕ) → chosen test (i + 1) 0 ≡ chosen test i 0 ++ here test i
  chosen-next i =
      ap (λ k. chosen test k 0) (add-one i) ∙ chosen_more i 0 ∙ ap (λ k. chosen test i 0 ++ here test k) {x = 0 + i} {y = i} (omega arith)

  -- ---- how many

  pub count-in : (n i : ℕ) → i < n → test i ≡ true
      → length (chosen test (n - i) i) ≡ 1 + length (chosen test (n - (i + 1)) (i + 1))
  count-in n i h e = rw (chosen-step n i h, here_in i e) (omega arith)

  pub count-out : (n i : ℕ) → i < n → test i ≡ false
      → length (chosen test (n - i) i) ≡ length (chosen test (n - (i + 1)) (i + 1))
  count-out n i h e = rw (chosen-step n i h, here_out i e)

  pub count-done : (n i : ℕ) → n ≤ i → length (chosen test (n - i) i) ≡ 0
  count-done n i h = rw (chosen-done n i h)
