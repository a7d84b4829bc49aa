-- Laws of the drawing: the largest of many, where a stretch ends, and texts without XML's signs. Assumes nothing.
use mathlib.Core.Path.{◌≡◌, refl, sym, ap, ◌∙◌}
use mathlib.Core.Logic.{◌≢◌}
use mathlib.Core.Bool.{Bool, true, false}
use mathlib.Core.List.{List, [], ◌∷◌}
use Prim.Native.Nat.{ℕ, suc, ◌+◌, ◌-◌, ◌*◌, ◌≤◌, ◌<◌}
use native.Mathlib.Nat.{mul-le-mul}
use native.Mathlib.Numerals.{add-one}
use native.Mathlib.Omega.{arith}
use borrow.Author.Tests.{lt-ltb, le-ltb, ltb-true, ltb-false, eq-eqb, ne_eqb}
use lib.Dec.{ltb}
use lib.ListN.{length, get_or, drop, drop_of_length-le}
use lib.Seq.{drop-cons}
use Rattle.std.specs.Prelude.{max, min}
use Rattle.values.specs.declared.Value.{Value}
use Rattle.values.specs.Values.{same}
use Rattle.writing.specs.Ascii.{ascii}
use Rattle.naming.specs.Naming.{name_of}
use Rattle.naming.proofs.Naming.{name_of-past, length-name_of}
use Rattle.tabulate.specs.Tabulate.{longer}
use Rattle.tabulate.proofs.Tabulate.{longer-first, longer-second}
use Rattle.drawing.specs.declared.Drawing.{Drawing}
use Rattle.drawing.specs.Drawing.{largest, capped, name_size, at, room, escaped_byte, end_of}

-- ---- largest: one variable more, and none

pub largest-next : (size : ℕ → ℕ) (m n : ℕ) (vs : List ℕ) (i : ℕ) → i < length vs → n ≡ longer m (size (get_or vs i 0))
    → largest size n (drop (i + 1) vs) ≡ largest size m (drop i vs)
unfolding largest
largest-next size m n vs i h e = rw (add-one, drop-cons vs i 0 h) (ap (λ x. largest size x (drop (suc i) vs)) e)

pub largest-done : (size : ℕ → ℕ) (m : ℕ) (vs : List ℕ) (i : ℕ) → length vs ≤ i → largest size m (drop i vs) ≡ m
unfolding largest
largest-done size m vs i h = rw (drop_of_length-le vs h) refl

-- ---- capped and longer, as min and max

pub capped-more : (most n : ℕ) → most < n → capped most n ≡ most
unfolding capped
capped-more most n h = rw (lt-ltb most n h)

pub capped-less : (most n : ℕ) → n ≤ most → capped most n ≡ n
unfolding capped
capped-less most n h = rw (le-ltb most n h)

pub min-capped : (most n : ℕ) → min n most ≡ capped most n
min-capped most n = by (ltb most n) refl
  where
    by : (t : Bool) → ltb most n ≡ t → min n most ≡ capped most n
    by true e = let h : most < n = ltb-true most n e in let m : min n most ≡ most = omega arith in m ∙ sym (capped-more most n h)
    by false e = let h : n ≤ most = ltb-false most n e in let m : min n most ≡ n = omega arith in m ∙ sym (capped-less most n h)

pub max-longer : (least n : ℕ) → max n least ≡ longer least n
max-longer least n = by (ltb least n) refl
  where
    by : (t : Bool) → ltb least n ≡ t → max n least ≡ longer least n
    by true e = let h : least < n = ltb-true least n e in let m : max n least ≡ n = omega arith in m ∙ sym (longer-second least n h)
    by false e = let h : n ≤ least = ltb-false least n e in let m : max n least ≡ least = omega arith in m ∙ sym (longer-first least n h)

-- ---- a name has at most 32 bytes

pub name-32 : (names : List ℕ) (v : ℕ) → length (name_of names v) ≤ 32
name-32 names v = by (ltb v 80) refl
  where
    by : (x : Bool) → ltb v 80 ≡ x → length (name_of names v) ≤ 32
    by true q = length-name_of names v (ltb-true v 80 q)
    by false q = rw (name_of-past names v (ltb-false v 80 q)) (omega arith)

-- ---- name_size: of one bit, of more

module _ (widths names : List ℕ) (v n w : ℕ) where
  pub name-size-bit : n ≡ length (name_of names v) → w ≡ get_or widths v 0 → w < 2 → n ≡ name_size widths names v
  unfolding name_size
  name-size-bit e f h = rw (← f, lt-ltb w 2 h) (omega arith)

  pub name-size-bits : n ≡ length (name_of names v) → w ≡ get_or widths v 0 → 2 ≤ w → n + 6 ≡ name_size widths names v
  unfolding name_size
  name-size-bits e f h = rw (← f, le-ltb w 2 h) (omega arith)

-- ---- room

pub room-is : (d : Drawing) (a b x y r s : ℕ) → x ≡ at d b → y ≡ at d a → r ≡ x - y → s ≡ r - 6 → s ≡ room d a b
unfolding room
room-is d a b x y r s p q e f = omega arith

-- ---- a product of two bounded numbers

pub product-below : (a b : ℕ) → a < 512 → b < 65536 → a * b < 33554432
product-below a b h k =
    let l : a ≤ 511 = omega arith in
    let m : b ≤ 65535 = omega arith in
    let p = mul-le-mul l m in
    omega arith

-- ---- escaped_byte

module _ (b : ℕ) where
  pub escaped-low : b < 32 → escaped_byte b ≡ ascii "_"
  unfolding escaped_byte
  escaped-low h = rw (lt-ltb b 32 h)

  pub escaped-high : 32 ≤ b → 126 < b → escaped_byte b ≡ ascii "_"
  unfolding escaped_byte
  escaped-high h k = rw (le-ltb b 32 h, lt-ltb 126 b k)

  pub escaped-and : 32 ≤ b → b ≤ 126 → b ≡ 38 → escaped_byte b ≡ ascii "&amp;"
  unfolding escaped_byte
  escaped-and h k e = rw (le-ltb b 32 h, le-ltb 126 b k, eq-eqb b 38 e)

  pub escaped-less : 32 ≤ b → b ≤ 126 → b ≢ 38 → b ≡ 60 → escaped_byte b ≡ ascii "&lt;"
  unfolding escaped_byte
  escaped-less h k n e = rw (le-ltb b 32 h, le-ltb 126 b k, ne_eqb b 38 n, eq-eqb b 60 e)

  pub escaped-plain : 32 ≤ b → b ≤ 126 → b ≢ 38 → b ≢ 60 → escaped_byte b ≡ b ∷ []
  unfolding escaped_byte
  escaped-plain h k n m = rw (le-ltb b 32 h, le-ltb 126 b k, ne_eqb b 38 n, ne_eqb b 60 m)

-- ---- end_of: the same value goes on, another one begins, no half is left

module _ (value : ℕ → Value) (a : Value) (end h : ℕ) where
  pub end_later : h < end → same a (value h) ≡ true → end_of value a (end - h) h ≡ end_of value a (end - (h + 1)) (h + 1)
  unfolding end_of
  end_later l e = let k : end - h ≡ suc (end - (h + 1)) = omega arith in rw (k, e)

  pub end-here : h < end → same a (value h) ≡ false → end_of value a (end - h) h ≡ h
  unfolding end_of
  end-here l e = let k : end - h ≡ suc (end - (h + 1)) = omega arith in rw (k, e)

  pub end_none : end ≤ h → end_of value a (end - h) h ≡ h
  unfolding end_of
  end_none l = let k : end - h ≡ 0 = omega arith in rw k refl
