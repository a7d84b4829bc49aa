-- Laws of moving: bytes that are moved on leave room in front, and what is written there is what turning gives. Assumes nothing.
use mathlib.Core.Path.{◌≡◌, refl, sym, ap, ◌∙◌}
use mathlib.Core.Bool.{Bool, true, false, ◌&&◌}
use mathlib.Core.List.{List, [], ◌∷◌, ◌++◌, append_assoc}
use Prim.Native.Nat.{ℕ, zero, suc, ◌+◌, ◌-◌, ◌≤◌, ◌<◌}
use native.Mathlib.Omega.{arith}
use lib.Dec.{ltb, leb}
use lib.ListN.{length, get_or, take, drop, set, take-append-drop, length-set}
use lib.Seq.{slice, slice_empty, sets, length-slice, length-take-le, drop-cons, take-suc, drop_at, drop-append-le, sets-eq}
use lib.Seq.{take-set-le, drop-set-lt, get_or-set_same, take-take, take-append-le}
use borrow.Author.Tests.{lt-ltb, ltb-true, le-leb, lt-leb, leb-true, leb-false}
use Rattle.values.specs.Values.{pick}
use Rattle.writing.specs.Buffer.{filled, puts}
use Rattle.writing.proofs.Buffer.{puts-sets}
use Rattle.verilog_bytes.specs.Turning.{turned, behind, moved, opened, fronted, Fronts}
use Rattle.verilog_bytes.proofs.Turning.{turned-at}

-- ---- moved

pub moved-step : (k from j : ℕ) (l : List ℕ) → from < j
    → moved k (j - 1 - from) from (set l (j - 1 + k) (get_or l (j - 1) 0)) ≡ moved k (j - from) from l
unfolding moved
moved-step k from j l h =
    let n = j - 1 - from in
    let e : j - 1 ≡ from + n = omega arith in
    let f : suc n ≡ j - from = omega arith in
    ap (λ x. moved k n from (set l (x + k) (get_or l x 0))) e ∙ ap (λ x. moved k x from l) f

pub moved_none : (k from n : ℕ) (l : List ℕ) → n ≡ 0 → moved k n from l ≡ l
unfolding moved
moved_none k from n l e = rw e

slice-more : (from n : ℕ) (l : List ℕ) → from + n < length l
    → slice from (from + suc n) l ≡ slice from (from + n) l ++ (get_or l (from + n) 0 ∷ [])
slice-more from n l h =
    let e : from + suc n ≡ suc (from + n) = omega arith in
    ap (λ k. drop from (take k l)) e
    ∙ ap (drop from) (take-suc l (from + n) 0 h)
    ∙ drop-append-le from (take (from + n) l) (get_or l (from + n) 0 ∷ []) (omega (arith, length-take-le (from + n) l (omega arith)))

drop-set-same : (l : List ℕ) (i v : ℕ) → i < length l → drop i (set l i v) ≡ v ∷ drop (suc i) l
drop-set-same l i v h =
    drop-cons (set l i v) i 0 (omega (arith, length-set l i v))
    ∙ ap (λ x. x ∷ drop (suc i) (set l i v)) (get_or-set_same l i v 0 h)
    ∙ ap (λ x. v ∷ x) (drop-set-lt (suc i) l i v (omega arith))

moved-is : (k n from : ℕ) (l : List ℕ) → from + n + k ≤ length l
    → moved k n from l ≡ take (from + k) l ++ (slice from (from + n) l ++ drop (from + n + k) l)
unfolding moved
moved-is k zero from l h =
    let e : from + 0 ≡ from = omega arith in
    sym (take-append-drop (from + k) l)
    ∙ ap (λ x. take (from + k) l ++ x) (none e)
  where
    empty : (m : ℕ) → m ≡ from → slice from m l ≡ []
    empty m e = ap (λ x. slice from x l) e ∙ slice_empty from l

    none : from + 0 ≡ from → drop (from + k) l ≡ slice from (from + 0) l ++ drop (from + 0 + k) l
    none e = ap (λ x. drop (x + k) l) (sym e) ∙ ap (λ x. x ++ drop (from + 0 + k) l) (sym (empty (from + 0) e))
moved-is k (suc n) from l h =
    let v = get_or l (from + n) 0 in
    let i = from + n + k in
    let l' = set l i v in
    let a : take (from + k) l' ≡ take (from + k) l = take-set-le (from + k) l i v (omega arith) in
    let b : slice from (from + n) l' ≡ slice from (from + n) l = ap (drop from) (take-set-le (from + n) l i v (omega arith)) in
    let c : drop i l' ≡ v ∷ drop (suc i) l = drop-set-same l i v (omega arith) in
    let f : suc i ≡ from + suc n + k = omega arith in
    let more : slice from (from + n) l ++ v ∷ drop (suc i) l ≡ slice from (from + suc n) l ++ drop (from + suc n + k) l =
    sym (append_assoc (slice from (from + n) l) (v ∷ []) (drop (suc i) l))
    ∙ ap (λ x. x ++ drop (suc i) l) (sym (slice-more from n l (omega arith)))
    ∙ ap (λ x. slice from (from + suc n) l ++ drop x l) f in
    moved-is k n from l' (omega (arith, length-set l i v))
    ∙ ap (λ x. x ++ (slice from (from + n) l' ++ drop i l')) a
    ∙ ap (λ x. take (from + k) l ++ (x ++ drop i l')) b
    ∙ ap (λ x. take (from + k) l ++ (slice from (from + n) l ++ x)) c
    ∙ ap (λ x. take (from + k) l ++ x) more

length_moved : (k n from : ℕ) (l : List ℕ) → length (moved k n from l) ≡ length l
unfolding moved
length_moved k zero from l = refl
length_moved k (suc n) from l =
    length_moved k n from (set l (from + n + k) (get_or l (from + n) 0)) ∙ length-set l (from + n + k) (get_or l (from + n) 0)

-- ---- opened

module _ (from : ℕ) (xs l : List ℕ) (at : ℕ) (room : length l ≡ 65536) (h : from < at) (fits : at + length xs ≤ 65536) where
  abbrev k : ℕ
  k = length xs

  abbrev rest : List ℕ
  rest = slice from at l ++ drop (at + k) l

  opened-is : sets (moved k (at - from) from l) from xs ≡ take from l ++ (xs ++ rest)
  opened-is =
      let m = moved k (at - from) from l in
      let e : from + (at - from) ≡ at = omega arith in
      let is : m ≡ take (from + k) l ++ rest =
      (rw e at (moved-is k (at - from) from l (omega arith))) in
      let long : length (take (from + k) l) ≡ from + k = length-take-le (from + k) l (omega arith) in
      sets-eq xs m from (omega (arith, length_moved k (at - from) from l))
      ∙ ap (λ x. take from x ++ xs ++ drop (from + k) x) is
      ∙ ap (λ x. take from (take (from + k) l ++ rest) ++ xs ++ x) (drop_at (take (from + k) l) rest (from + k) long)
      ∙ ap (λ x. x ++ xs ++ rest)
      (take-append-le from (take (from + k) l) rest (omega arith) ∙ take-take from (from + k) l (omega arith))
      ∙ append_assoc (take from l) xs rest

  turned-is-opened : turned from at (at + k) (sets l at xs) ≡ take from l ++ (xs ++ rest)
  turned-is-opened =
      let a = slice from at l in
      let q = drop (at + k) l in
      let front : take from l ++ a ≡ take at l =
      ap (λ x. x ++ a) (sym (take-take from at l (omega arith))) ∙ take-append-drop from (take at l) in
      let is : sets l at xs ≡ take from l ++ (a ++ (xs ++ q)) =
      sets-eq xs l at (omega arith) ∙ append_assoc (take at l) xs q ∙ ap (λ x. x ++ (xs ++ q)) (sym front)
      ∙ append_assoc (take from l) a (xs ++ q) in
      ap (turned from at (at + k)) is
      ∙ turned-at (take from l) a xs q from at (at + k) (length-take-le from l (omega arith))
      (omega (arith, length-slice from at l (omega arith))) refl fits

pub fronts : Fronts
unfolding Fronts fronted opened behind
fronts from xs t room = by (ltb from t.at) (leb (t.at + length xs) 65536) refl refl
  where
    by : (a b : Bool) → ltb from t.at ≡ a → leb (t.at + length xs) 65536 ≡ b
        → pick (a && b) (opened from xs t) (behind from t.at (puts t xs)) ≡ behind from t.at (puts t xs)
    by true true p q =
        let h = ltb-true from t.at p in
        let fits = leb-true (t.at + length xs) 65536 q in
        let e = opened-is from xs t.bytes t.at room h fits ∙ sym (turned-is-opened from xs t.bytes t.at room h fits) in
        ap (λ x. filled x (t.at + length xs)) e
        ∙ sym (ap (λ u. filled (turned from t.at u.at u.bytes) u.at) (puts-sets t xs fits))
    by true false p q = refl
    by false true p q = refl
    by false false p q = refl

-- ---- how the code goes

untrue : false ≡ true → ⊥
untrue q = let z : ◌≡◌ {A = ℕ} 0 1 = cc in omega arith

module _ (from pos k : ℕ) where
  abbrev pub Room : Bool
  Room = ltb from pos && leb (pos + k) 65536

  pub room-test : from < pos → k ≤ 65536 → leb pos (65536 - k) ≡ Room
  room-test h w = rw (lt-ltb from pos h) (by (leb pos (65536 - k)) refl)
    where
      by : (b : Bool) → leb pos (65536 - k) ≡ b → b ≡ leb (pos + k) 65536
      by true e = sym (le-leb (pos + k) 65536 (omega (arith, leb-true pos (65536 - k) e)))
      by false e = sym (lt-leb (pos + k) 65536 (omega (arith, leb-false pos (65536 - k) e)))

  pub room_after : Room ≡ true → from < pos
  room_after e = by (ltb from pos) refl e
    where
      by : (b : Bool) → ltb from pos ≡ b → b && leb (pos + k) 65536 ≡ true → from < pos
      by true p q = ltb-true from pos p
      by false p q = absurd (untrue q)

  pub room_fits : Room ≡ true → pos + k ≤ 65536
  room_fits e = by (ltb from pos) (leb (pos + k) 65536) refl e
    where
      by : (a b : Bool) → leb (pos + k) 65536 ≡ b → a && b ≡ true → pos + k ≤ 65536
      by a true p q = leb-true (pos + k) 65536 p
      by true false p q = absurd (untrue q)
      by false false p q = absurd (untrue q)

module _ (from : ℕ) (xs : List ℕ) (l : List ℕ) (pos : ℕ) where
  pub fronted-else : Room from pos (length xs) ≡ false → fronted from xs (filled l pos) ≡ behind from pos (puts (filled l pos) xs)
  unfolding fronted
  fronted-else h = rw h

  pub fronted-room : (m : List ℕ) → Room from pos (length xs) ≡ true → m ≡ moved (length xs) (pos - from) from l
      → filled (sets m from xs) (pos + length xs) ≡ fronted from xs (filled l pos)
  unfolding fronted opened
  fronted-room m h e = rw (h, e)
