-- Laws of a table's rows and of what a reader leaves, by the tests of the code.
-- Assumes nothing.
use mathlib.Core.Path.{◌≡◌, refl, ap}
use mathlib.Core.Bool.{Bool, true, false}
use mathlib.Core.List.{List}
use Prim.Native.Nat.{ℕ, ◌+◌, ◌≤◌, ◌<◌}
use native.Mathlib.Omega.{arith}
use lib.Dec.{ltb}
use lib.ListN.{get_or}
use borrow.Author.Tests.{lt-ltb, le-ltb, ltb-true, eq-eqb, ne_eqb}
use Rattle.values.specs.Values.{pick}
use Rattle.verilog_exprs.specs.declared.Put.{Put}
use Rattle.verilog_exprs.specs.Rows.{row_at, answer, Wrote, wrote, Step, passed, refused, and_then, is_at, expected}

-- ---- row_at

pub row_in : (rows : List ℕ) (i : ℕ) → i < 16385 → row_at rows i ≡ get_or rows i 0
unfolding row_at
row_in rows i h = rw (lt-ltb i 16385 h) refl

pub row-past : (rows : List ℕ) (i : ℕ) → 16385 ≤ i → row_at rows i ≡ 0
unfolding row_at
row-past rows i h = rw (le-ltb i 16385 h) refl

-- A row that isn't 0 stands in the table.
pub row_inside : (rows : List ℕ) (i k n : ℕ) → n ≡ row_at rows i → n ≡ k → 1 ≤ k → i < 16385
unfolding row_at
row_inside rows i k n e f h = by (ltb i 16385) refl e
  where
    by : (t : Bool) → ltb i 16385 ≡ t → n ≡ pick t (get_or rows i 0) 0 → i < 16385
    by true q j = ltb-true i 16385 q
    by false q j = absurd (omega arith)

-- ---- and_then

pub then-no : (a : Put) (bs : List ℕ) (f : Step) → a.ok ≡ false → wrote a bs ≡ and_then (wrote a bs) f
unfolding and_then
then-no a bs f e = rw e refl

pub then-yes : (a : Put) (bs : List ℕ) (f : Step) → a.ok ≡ true → and_then (wrote a bs) f ≡ f a.next a.pos bs
unfolding and_then
then-yes a bs f e = rw e refl

pub then-refused : (w : Wrote) (f : Step) → w.put.ok ≡ false → and_then w f ≡ refused w.put.next w.put.pos w.bytes
unfolding and_then
then-refused w f e = rw e refl

pub passed_is : (a : Put) (bs : List ℕ) → a.ok ≡ true → wrote a bs ≡ passed a.next a.pos bs
passed_is a bs e = ap (λ t. wrote (answer t a.next a.pos) bs) e

-- ---- expected

module _ (kinds : List ℕ) (k : ℕ) (a : Put) where
  pub expected-no : a.ok ≡ false → expected kinds k a ≡ answer false a.next a.pos
  unfolding expected
  expected-no e = rw e refl

  pub expected-past : a.ok ≡ true → 16385 ≤ a.next → expected kinds k a ≡ answer false a.next a.pos
  unfolding expected is_at
  expected-past e h = rw (e, le-ltb a.next 16385 h) refl

  pub expected-is : a.ok ≡ true → a.next < 16385 → get_or kinds a.next 0 ≡ k → expected kinds k a ≡ answer true (a.next + 1) a.pos
  unfolding expected is_at
  expected-is e h f = rw (e, lt-ltb a.next 16385 h, eq-eqb (get_or kinds a.next 0) k f) refl

  pub expected-other : a.ok ≡ true → a.next < 16385 → (get_or kinds a.next 0 ≡ k → ⊥) → expected kinds k a ≡ answer false a.next
      a.pos
  unfolding expected is_at
  expected-other e h f = rw (e, lt-ltb a.next 16385 h, ne_eqb (get_or kinds a.next 0) k f) refl
