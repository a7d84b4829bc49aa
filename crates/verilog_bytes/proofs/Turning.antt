-- Laws of turning: a range is reversed by exchanging its ends, and two ranges are turned by three reversals.
-- Assumes nothing.
use mathlib.Core.Path.{◌≡◌, refl, sym, ap, ◌∙◌}
use mathlib.Core.Bool.{Bool, true, false, ◌&&◌}
use mathlib.Core.List.{List, [], ◌∷◌, ◌++◌, append_assoc, reverse, reverse-cons, reverse-append, reverse-reverse}
use Prim.Native.Nat.{ℕ, zero, suc, ◌+◌, ◌-◌, ◌≤◌, ◌<◌}
use native.Mathlib.Numerals.{add-one}
use native.Mathlib.Omega.{arith}
use lib.Dec.{leb}
use lib.ListN.{length, get_or, take, drop, set, length-append, length-drop, length-reverse, take-append-drop, length-set}
use lib.Seq.{slice, length-slice, length-take-le, drop-cons, take_at, drop_at, set_at, take-take, drop-append-le, sets-eq}
use borrow.Author.Tests.{le-leb, lt-leb}
use Rattle.values.specs.Values.{pick}
use Rattle.writing.specs.Buffer.{filled, puts}
use Rattle.writing.proofs.Buffer.{puts-sets, puts-append}
use Rattle.verilog_bytes.specs.Turning.{swapped, reversed, thrice, turned, Turns, behind}

-- ---- a list in three

-- What stands in the middle of p ++ (m ++ q).
pub slice_at : (p m q : List ℕ) (a b : ℕ) → length p ≡ a → a + length m ≡ b → slice a b (p ++ (m ++ q)) ≡ m
slice_at p m q a b e f =
    rw (← append_assoc p m q, take_at (p ++ m) q b (length-append p m ∙ rw (e, f) refl)) (drop_at p m a e)

pub drop-behind : (p m q : List ℕ) (a b : ℕ) → length p ≡ a → a + length m ≡ b → drop b (p ++ (m ++ q)) ≡ q
drop-behind p m q a b e f = rw (← append_assoc p m q) (drop_at (p ++ m) q b (length-append p m ∙ rw (e, f) refl))

pub take-slice : (a b : ℕ) (l : List ℕ) → a ≤ b → b ≤ length l → take a l ++ (slice a b l ++ drop b l) ≡ l
take-slice a b l h k =
    sym (append_assoc (take a l) (slice a b l) (drop b l))
    ∙ ap (λ x. x ++ drop b l) (ap (λ x. x ++ slice a b l) (sym (take-take a b l h)) ∙ take-append-drop a (take b l))
    ∙ take-append-drop b l

-- ---- backward: the bytes from a up to b of a list, the last first

unfoldable backward : ℕ → ℕ → List ℕ → List ℕ
backward a b bs = take a bs ++ reverse (slice a b bs) ++ drop b bs

backward-at : (p m q : List ℕ) (a b : ℕ) → length p ≡ a → a + length m ≡ b → backward a b (p ++ (m ++ q)) ≡ p ++ (reverse m ++ q)
unfolding backward
backward-at p m q a b e f =
    rw (slice_at p m q a b e f, drop-behind p m q a b e f, take_at p (m ++ q) a e) (append_assoc p (reverse m) q)

-- A range of at most one byte.
backward-none : (i j : ℕ) (l : List ℕ) → i ≤ j → j ≤ i + 1 → j ≤ length l → backward i j l ≡ l
unfolding backward
backward-none i j l h k w = append_assoc (take i l) (reverse (slice i j l)) (drop j l)
    ∙ ap (λ x. take i l ++ (x ++ drop j l)) (few (slice i j l) (length-slice i j l w)) ∙ take-slice i j l h w
  where
    few : (s : List ℕ) → length s ≡ j - i → reverse s ≡ s
    few [] e = refl
    few (x ∷ []) e = refl
    few (x ∷ y ∷ s) e = absurd (omega arith)

-- The ends exchanged, and the rest to come.
backward-ends : (p m q : List ℕ) (x y i j : ℕ) → length p ≡ i → i + 1 + length m ≡ j
    → backward (i + 1) j (set (set (p ++ x ∷ (m ++ y ∷ q)) i y) j x) ≡ backward i (j + 1) (p ++ x ∷ (m ++ y ∷ q))
backward-ends p m q x y i j e f =
    let one : set (p ++ x ∷ (m ++ y ∷ q)) i y ≡ p ++ y ∷ (m ++ y ∷ q) = set_at p x (m ++ y ∷ q) y i e in
    let at_j : length (p ++ y ∷ m) ≡ j = length-append p (y ∷ m) ∙ omega arith in
    let two : set (p ++ y ∷ (m ++ y ∷ q)) j x ≡ (p ++ y ∷ m) ++ x ∷ q =
    ap (λ l. set l j x) (sym (append_assoc p (y ∷ m) (y ∷ q))) ∙ set_at (p ++ y ∷ m) y q x j at_j in
    let shape : (p ++ y ∷ m) ++ x ∷ q ≡ (p ++ (y ∷ [])) ++ (m ++ x ∷ q) =
    append_assoc p (y ∷ m) (x ∷ q) ∙ sym (append_assoc p (y ∷ []) (m ++ x ∷ q)) in
    let left : backward (i + 1) j ((p ++ (y ∷ [])) ++ (m ++ x ∷ q)) ≡ (p ++ (y ∷ [])) ++ (reverse m ++ x ∷ q) =
    backward-at (p ++ (y ∷ [])) m (x ∷ q) (i + 1) j (length-append p (y ∷ []) ∙ omega arith) f in
    let whole : p ++ x ∷ (m ++ y ∷ q) ≡ p ++ ((x ∷ m ++ (y ∷ [])) ++ q) = ap (λ l. p ++ l) (sym (append_assoc (x ∷ m) (y ∷ []) q)) in
    let long : i + length (x ∷ m ++ (y ∷ [])) ≡ j + 1 = omega (arith, length-append m (y ∷ [])) in
    let right : backward i (j + 1) (p ++ ((x ∷ m ++ (y ∷ [])) ++ q)) ≡ p ++ (reverse (x ∷ m ++ (y ∷ [])) ++ q) =
    backward-at p (x ∷ m ++ (y ∷ [])) q i (j + 1) e long in
    let back : reverse (x ∷ m ++ (y ∷ [])) ≡ y ∷ (reverse m ++ (x ∷ [])) =
    reverse-cons x (m ++ (y ∷ [])) ∙ ap (λ l. l ++ (x ∷ [])) (reverse-append m (y ∷ [])) in
    ap (λ l. backward (i + 1) j l) (ap (λ l. set l j x) one ∙ two ∙ shape) ∙ left
    ∙ append_assoc p (y ∷ []) (reverse m ++ x ∷ q)
    ∙ sym (ap (λ l. backward i (j + 1) l) whole ∙ right ∙ ap (λ l. p ++ (l ++ q)) back
    ∙ ap (λ l. p ++ y ∷ l) (append_assoc (reverse m) (x ∷ []) q))

backward-step : (l : List ℕ) (i j : ℕ) → i < j → j < length l
    → backward (i + 1) j (set (set l i (get_or l j 0)) j (get_or l i 0)) ≡ backward i (j + 1) l
backward-step l i j h w =
    let p = take i l in
    let m = slice (i + 1) j l in
    let q = drop (suc j) l in
    let in-front : drop i l ≡ get_or l i 0 ∷ drop (suc i) l = drop-cons l i 0 (omega arith) in
    let middle : drop (suc i) l ≡ m ++ (get_or l j 0 ∷ q) = rest in
    let split : p ++ get_or l i 0 ∷ (m ++ get_or l j 0 ∷ q) ≡ l =
    ap (λ x. p ++ get_or l i 0 ∷ x) (sym middle) ∙ ap (λ x. p ++ x) (sym in-front) ∙ take-append-drop i l in
    let law = backward-ends p m q (get_or l i 0) (get_or l j 0) i j (length-take-le i l (omega arith))
    (omega (arith, length-slice (i + 1) j l (omega arith))) in
    rw split at law
  where
    rest : drop (suc i) l ≡ slice (i + 1) j l ++ (get_or l j 0 ∷ drop (suc j) l)
    rest =
        ap (λ x. drop (suc i) x) (sym (take-append-drop j l))
        ∙ drop-append-le (suc i) (take j l) (drop j l) (omega (arith, length-take-le j l (omega arith)))
        ∙ ap (λ x. drop (suc i) (take j l) ++ x) (drop-cons l j 0 w) ∙ rw add-one refl

-- ---- reversed

reversed-backward : (n i : ℕ) (l : List ℕ) → i + n ≤ length l → reversed n i l ≡ backward i (i + n) l
unfolding reversed swapped
reversed-backward zero i l h = sym (backward-none i (i + 0) l (omega arith) (omega arith) h)
reversed-backward (suc zero) i l h = sym (backward-none i (i + 1) l (omega arith) (omega arith) h)
reversed-backward (suc (suc n)) i l h =
    let j = i + n + 1 in
    let room : i + 1 + n ≤ length (swapped i j l) = simp length-set (omega arith) in
    let e : i + 1 + n ≡ j = omega arith in
    let f : j + 1 ≡ i + suc (suc n) = omega arith in
    reversed-backward n (i + 1) (swapped i j l) room ∙ ap (λ k. backward (i + 1) k (swapped i j l)) e
    ∙ backward-step l i j (omega arith) (omega arith) ∙ ap (λ k. backward i k l) f

-- The range from a up to b of p ++ (m ++ q).
pub reversed-at : (p m q : List ℕ) (a b : ℕ) → length p ≡ a → a + length m ≡ b → reversed (b - a) a (p ++ (m ++ q)) ≡ p ++ (reverse m ++ q)
reversed-at p m q a b e f =
    let n : b - a ≡ length m = omega arith in
    let room : a + length m ≤ length (p ++ (m ++ q)) = omega (arith, length-append p (m ++ q), length-append m q) in
    rw (n, reversed-backward (length m) a (p ++ (m ++ q)) room, f) (backward-at p m q a b e f)

-- ---- turned

pub turned-is : (l : List ℕ) (from mid end : ℕ) → from ≤ mid → mid ≤ end → end ≤ 65536 → turned from mid end l ≡ thrice from mid end l
unfolding turned
turned-is l from mid end h k e = rw (le-leb from mid h, le-leb mid end k, le-leb end 65536 e) refl

pub turned-at : (p a b q : List ℕ) (from mid end : ℕ) → length p ≡ from → from + length a ≡ mid → mid + length b ≡ end → end ≤ 65536
    → turned from mid end (p ++ (a ++ (b ++ q))) ≡ p ++ (b ++ (a ++ q))
unfolding thrice
turned-at p a b q from mid end lp la lb h =
    let first : reversed (mid - from) from (p ++ (a ++ (b ++ q))) ≡ (p ++ reverse a) ++ (b ++ q) =
    reversed-at p a (b ++ q) from mid lp la ∙ sym (append_assoc p (reverse a) (b ++ q)) in
    let second : reversed (end - mid) mid ((p ++ reverse a) ++ (b ++ q)) ≡ p ++ ((reverse a ++ reverse b) ++ q) =
    reversed-at (p ++ reverse a) b q mid end (length-append p (reverse a) ∙ omega (arith, length-reverse a)) lb
    ∙ append_assoc p (reverse a) (reverse b ++ q) ∙ ap (λ t. p ++ t) (sym (append_assoc (reverse a) (reverse b) q)) in
    let third : reversed (end - from) from (p ++ ((reverse a ++ reverse b) ++ q)) ≡ p ++ (reverse (reverse a ++ reverse b) ++ q) =
    reversed-at p (reverse a ++ reverse b) q from end lp
    (omega (arith, length-append (reverse a) (reverse b), length-reverse a, length-reverse b)) in
    let back : reverse (reverse a ++ reverse b) ≡ b ++ a =
    reverse-append (reverse a) (reverse b) ∙ rw (reverse-reverse b, reverse-reverse a) refl in
    turned-is (p ++ (a ++ (b ++ q))) from mid end (omega arith) (omega arith) h
    ∙ ap (λ t. reversed (end - from) from (reversed (end - mid) mid t)) first ∙ ap (λ t. reversed (end - from) from t) second
    ∙ third ∙ ap (λ t. p ++ (t ++ q)) back ∙ ap (λ t. p ++ t) (append_assoc b a q)

-- A list in four parts.
four : (l : List ℕ) (from mid end : ℕ) → length l ≡ 65536 → from ≤ mid → mid ≤ end → end ≤ 65536
    → take from l ++ (slice from mid l ++ (slice mid end l ++ drop end l)) ≡ l
four l from mid end n h k e =
    ap (λ t. take from l ++ (slice from mid l ++ t)) behind-mid
    ∙ take-slice from mid l h (omega arith)
  where
    behind-mid : slice mid end l ++ drop end l ≡ drop mid l
    behind-mid =
        sym (drop-append-le mid (take end l) (drop end l) (omega (arith, length-take-le end l (omega arith))))
        ∙ ap (λ t. drop mid t) (take-append-drop end l)

pub turns : Turns
unfolding Turns
turns l from mid end n h k e =
    let law = turned-at (take from l) (slice from mid l) (slice mid end l) (drop end l) from mid end (length-take-le from l (omega arith))
    (omega (arith, length-slice from mid l (omega arith))) (omega (arith, length-slice mid end l (omega arith))) e in
    ap (λ t. turned from mid end t) (sym (four l from mid end n h k e)) ∙ law

-- Places out of order or past the end.
pub turned-back : (l : List ℕ) (from mid end : ℕ) → mid < from → turned from mid end l ≡ l
unfolding turned
turned-back l from mid end h = rw (lt-leb from mid h) refl

pub turned-ends : (l : List ℕ) (from mid end : ℕ) → end < mid → turned from mid end l ≡ l
unfolding turned
turned-ends l from mid end h = rw (lt-leb mid end h) (by (leb from mid))
  where
    by : (t : Bool) → pick (t && false && leb end 65536) (thrice from mid end l) l ≡ l
    by true = refl
    by false = refl

pub turned-past : (l : List ℕ) (from mid end : ℕ) → 65536 < end → turned from mid end l ≡ l
unfolding turned
turned-past l from mid end h = rw (lt-leb end 65536 h) (by (leb from mid) (leb mid end))
  where
    by : (t u : Bool) → pick (t && u && false) (thrice from mid end l) l ≡ l
    by true true = refl
    by true false = refl
    by false true = refl
    by false false = refl

length-reversed : (n i : ℕ) (l : List ℕ) → length (reversed n i l) ≡ length l
unfolding reversed swapped
length-reversed zero i l = refl
length-reversed (suc zero) i l = refl
length-reversed (suc (suc n)) i l = length-reversed n (i + 1) (swapped i (i + n + 1) l) ∙ simp length-set

-- ---- three parts, each reversed where it stands

abbrev part : ℕ → ℕ → List ℕ → List ℕ
part a b l = take a l ++ (reverse (take (b - a) (drop a l)) ++ drop (b - a) (drop a l))

part-reversed : (l : List ℕ) (a b : ℕ) → a ≤ b → b ≤ length l → part a b l ≡ reversed (b - a) a l
part-reversed l a b h k =
    let p = take a l in
    let m = take (b - a) (drop a l) in
    let q = drop (b - a) (drop a l) in
    let whole : p ++ (m ++ q) ≡ l = ap (λ t. p ++ t) (take-append-drop (b - a) (drop a l)) ∙ take-append-drop a l in
    let n : length m ≡ b - a = length-take-le (b - a) (drop a l) (omega (arith, length-drop a l)) in
    sym (reversed-at p m q a b (length-take-le a l (omega arith)) (omega (arith, n))) ∙ ap (λ t. reversed (b - a) a t) whole

pub turned-parts : (l : List ℕ) (from mid end : ℕ) → length l ≡ 65536 → from ≤ mid → mid ≤ end → end ≤ 65536
    → part from end (part mid end (part from mid l)) ≡ turned from mid end l
unfolding thrice
turned-parts l from mid end n h k e =
    let one = reversed (mid - from) from l in
    let two = reversed (end - mid) mid one in
    let n1 : length one ≡ 65536 = length-reversed (mid - from) from l ∙ n in
    let n2 : length two ≡ 65536 = length-reversed (end - mid) mid one ∙ n1 in
    ap (λ t. part from end (part mid end t)) (part-reversed l from mid h (omega arith))
    ∙ ap (λ t. part from end t) (part-reversed one mid end k (omega arith))
    ∙ part-reversed two from end (omega arith) (omega arith)
    ∙ sym (turned-is l from mid end h k e)

pub length-turned : (l : List ℕ) (from mid end : ℕ) → length (turned from mid end l) ≡ length l
unfolding turned thrice
length-turned l from mid end = by (leb from mid && leb mid end && leb end 65536)
  where
    by : (t : Bool) → length (pick t (thrice from mid end l) l) ≡ length l
    by true = simp length-reversed
    by false = refl

-- ---- what two puts wrote, turned, is what they write in the other order

pub turned-puts : (l a b : List ℕ) (p : ℕ) → length l ≡ 65536 → p + length a + length b ≤ 65536
    → behind p (p + length a) (puts (puts (filled l p) a) b) ≡ puts (puts (filled l p) b) a
unfolding behind
turned-puts l a b p n h =
    let ab : puts (puts (filled l p) a) b ≡ filled (take p l ++ (a ++ (b ++ drop (p + length a + length b) l))) (p + length a + length b) =
    both_at a b h in
    let ba : puts (puts (filled l p) b) a ≡ filled (take p l ++ (b ++ (a ++ drop (p + length b + length a) l))) (p + length b + length a) =
    both_at b a (omega arith) in
    let same : p + length b + length a ≡ p + length a + length b = omega arith in
    rw (ab, ba, same)
    (ap (λ x. filled x (p + length a + length b))
    (turned-at (take p l) a b (drop (p + length a + length b) l) p (p + length a) (p + length a + length b)
    (length-take-le p l (omega arith)) refl refl h))
  where
    both_at : (x y : List ℕ) → p + length x + length y ≤ 65536
        → puts (puts (filled l p) x) y ≡ filled (take p l ++ (x ++ (y ++ drop (p + length x + length y) l))) (p + length x + length y)
    both_at x y k =
        let lxy : length (x ++ y) ≡ length x + length y = length-append x y in
        let sum : p + length (x ++ y) ≡ p + length x + length y = omega arith in
        sym (puts-append (filled l p) x y) ∙ puts-sets (filled l p) (x ++ y) (omega arith)
        ∙ ap (λ t. filled t (p + length (x ++ y))) (sets-eq (x ++ y) l p (omega arith))
        ∙ rw sum (ap (λ t. filled t (p + length x + length y))
        (append_assoc (take p l) (x ++ y) (drop (p + length x + length y) l)
        ∙ ap (λ t. take p l ++ t) (append_assoc x y (drop (p + length x + length y) l))))
