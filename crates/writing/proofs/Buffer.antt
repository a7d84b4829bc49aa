-- Laws of the buffer: texts put one after the other are put as one, and a text that fits lies where it was put.
use mathlib.Core.Path.{◌≡◌, refl, sym, ap, ◌∙◌}
use Prim.Native.Nat.{ℕ, suc, ◌+◌, ◌-◌, ◌≤◌, ◌<◌}
use native.Mathlib.Nat.{add-zero, zero-add}
use native.Mathlib.Numerals.{add-one}
use native.Mathlib.Omega.{arith}
use mathlib.Core.List.{List, [], ◌∷◌, ◌++◌}
use mathlib.Core.Bool.{Bool, true, false}
use lib.ListN.{length, get_or, set, drop, replicate}
use lib.Dec.{ltb}
use lib.Seq.{sets, sets-eq, drop-cons}
use borrow.Author.Tests.{lt-ltb, le-ltb, ltb-true, ltb-false}
use Rattle.writing.specs.Buffer.{Text, filled, put, puts}

-- ---- put

pub put_in : (t : Text) (b : ℕ) → t.at < 65536 → put t b ≡ filled (set t.bytes t.at b) (t.at + 1)
unfolding put
put_in t b h = simp (lt-ltb _ _ h)

pub put_full : (t : Text) (b : ℕ) → 65536 ≤ t.at → put t b ≡ t
unfolding put
put_full t b h = simp (le-ltb _ _ h)

-- ---- puts

pub puts-nil : (t : Text) → puts t [] ≡ t
unfolding puts
puts-nil t = refl

pub puts-cons : (t : Text) (b : ℕ) (bs : List ℕ) → puts t (b ∷ bs) ≡ puts (put t b) bs
unfolding puts
puts-cons t b bs = refl

pub puts-append : (t : Text) (a b : List ℕ) → puts t (a ++ b) ≡ puts (puts t a) b
unfolding puts
puts-append t [] b = refl
puts-append t (x ∷ a) b = puts-append (put t x) a b

-- Two texts written one after the other.
pub both : (t u v : Text) (a b : List ℕ) → u ≡ puts t a → v ≡ puts u b → v ≡ puts t (a ++ b)
both t u v a b p q = q ∙ ap (λ x. puts x b) p ∙ sym (puts-append t a b)

-- One byte of a word written, and the rest to come.
pub puts-step : (t u : Text) (w : List ℕ) (i : ℕ) → i < length w → u ≡ puts t (get_or w i 0 ∷ [])
    → puts u (drop (i + 1) w) ≡ puts t (drop i w)
puts-step t u w i h e =
    rw (add-one, drop-cons w i 0 h)
    (ap (λ x. puts x (drop (suc i) w)) e ∙ sym (puts-append t (get_or w i 0 ∷ []) (drop (suc i) w)))

-- ---- a text that fits

pub puts-sets : (t : Text) (bs : List ℕ) → t.at + length bs ≤ 65536
    → puts t bs ≡ filled (sets t.bytes t.at bs) (t.at + length bs)
unfolding puts
puts-sets t [] h = simp add-zero
puts-sets t (b ∷ bs) h =
    let u = filled (set t.bytes t.at b) (t.at + 1) in
    let e : t.at + 1 + length bs ≡ t.at + suc (length bs) = omega arith in
    ap (λ x. puts x bs) (put_in t b (omega arith)) ∙ puts-sets u bs (omega arith) ∙ rw (e, add-one)

-- From the buffer's beginning: the text in front, the rest as it was.
pub puts-front : (l bs : List ℕ) → length l ≡ 65536 → length bs ≤ 65536
    → puts (filled l 0) bs ≡ filled (bs ++ drop (length bs) l) (length bs)
puts-front l bs e h =
    puts-sets (filled l 0) bs (omega arith)
    ∙ ap (λ n. filled (sets l 0 bs) n) (zero-add (length bs))
    ∙ ap (λ x. filled x (length bs)) (sets-eq bs l 0 (omega arith) ∙ rw zero-add)

-- The position stays within the buffer.
pub puts-at : (t : Text) (bs : List ℕ) → t.at ≤ 65536 → (puts t bs).at ≤ 65536
unfolding puts
puts-at t [] h = h
puts-at t (b ∷ bs) h = puts-at (put t b) bs (by (ltb t.at 65536) refl)
  where
    by : (x : Bool) → ltb t.at 65536 ≡ x → (put t b).at ≤ 65536
    by true q = let l = ltb-true _ _ q in rw (put_in t b l) (omega arith)
    by false q = let l = ltb-false _ _ q in rw (put_full t b l) h

-- One of many bytes written, and the rest to come.
pub puts-again : (t u : Text) (b n i : ℕ) → i < n → u ≡ puts t (b ∷ []) → puts u (replicate (n - (i + 1)) b) ≡ puts t (replicate (n - i) b)
puts-again t u b n i h e =
    let k : n - i ≡ suc (n - (i + 1)) = omega arith in
    ap (λ x. puts x (replicate (n - (i + 1)) b)) e ∙ sym (puts-append t (b ∷ []) (replicate (n - (i + 1)) b)) ∙ ap (λ j. puts t (replicate j b)) (sym k)
