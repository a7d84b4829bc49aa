-- Laws of constants: widths and values from a table's numbers.
-- Assumes nothing.
use mathlib.Core.Path.{◌≡◌, refl, sym, ◌∙◌}
use mathlib.Core.Bool.{Bool, true, false}
use Prim.Native.Nat.{ℕ, ◌%◌, ◌^◌, ◌≤◌, ◌<◌}
use native.Mathlib.Nat.{mod-eq_of_lt, mod-mod}
use native.Mathlib.Omega.{arith}
use borrow.Author.Tests.{le-leb, lt-leb, leb-true, leb-false, ltb-false}
use lib.Dec.{leb, ltb}
use Rattle.values.proofs.Operators.{mod-32}
use Rattle.verilog_tokens.specs.Table.{up_to255}
use Rattle.values.specs.Values.{pick}
use Rattle.verilog_grammar.specs.Meaning.{up_to, cut}

pub up_to-in : (m n : ℕ) → n ≤ m → up_to m n ≡ n
unfolding up_to
up_to-in m n h = rw (le-leb n m h) refl

pub up_to-past : (m n : ℕ) → m < n → up_to m n ≡ 255
unfolding up_to
up_to-past m n h = rw (lt-leb n m h) refl

pub cut-narrow : (w v : ℕ) → w ≤ 32 → cut w v ≡ v % 2 ^ w
unfolding cut
cut-narrow w v h = rw (le-leb w 32 h) refl

pub cut-wide : (w v : ℕ) → 32 < w → cut w v ≡ v % 2 ^ 32
unfolding cut
cut-wide w v h = rw (lt-leb w 32 h) refl

-- The code's test is for 32 bits and more.
pub cut-whole : (w v : ℕ) → 32 ≤ w → v < 2 ^ 32 → cut w v ≡ v
unfolding cut
cut-whole w v h k = by (leb w 32) refl
  where
    by : (t : Bool) → leb w 32 ≡ t → v % 2 ^ pick t w 32 ≡ v
    by true q = let e : w ≡ 32 = omega (arith, leb-true w 32 q) in rw e (mod-eq_of_lt k)
    by false q = mod-eq_of_lt k

-- ---- a size of at most 255, and a value's remainder by 2^32, are enough

pub width-capped : (w : ℕ) → up_to 32 (up_to255 w) ≡ up_to 32 w
unfolding up_to255
width-capped w = by (ltb w 255) refl
  where
    by : (t : Bool) → ltb w 255 ≡ t → up_to 32 (pick t w 255) ≡ up_to 32 w
    by true q = refl
    by false q = up_to-past 32 255 (omega arith) ∙ sym (up_to-past 32 w (omega (arith, ltb-false w 255 q)))

pub cut-width : (w v : ℕ) → cut (up_to 32 w) v ≡ cut w v
unfolding up_to
cut-width w v = by (leb w 32) refl
  where
    by : (t : Bool) → leb w 32 ≡ t → cut (pick t w 255) v ≡ cut w v
    by true q = refl
    by false q = cut-wide 255 v (omega arith) ∙ sym (cut-wide w v (leb-false w 32 q))

pub cut-remainder : (w v : ℕ) → cut w (v % 4294967296) ≡ cut w v
cut-remainder w v = by (leb w 32) refl
  where
    by : (t : Bool) → leb w 32 ≡ t → cut w (v % 4294967296) ≡ cut w v
    by true q =
        let h = leb-true w 32 q in
        cut-narrow w (v % 4294967296) h ∙ mod-32 w h v ∙ sym (cut-narrow w v h)
    by false q =
        let h = leb-false w 32 q in
        cut-wide w (v % 4294967296) h ∙ mod-mod v 4294967296 ∙ sym (cut-wide w v h)
