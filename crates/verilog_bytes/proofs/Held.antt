-- Laws of what a buffer holds: bytes put behind, and bytes put in front.
-- Assumes nothing.
use mathlib.Core.Path.{◌≡◌, refl, sym, ap, ◌∙◌}
use mathlib.Core.Bool.{Bool, true, false}
use mathlib.Core.List.{List, [], ◌∷◌, ◌++◌, append_assoc, append-nil}
use Prim.Native.Nat.{ℕ, suc, ◌+◌, ◌≤◌, min}
use native.Mathlib.Omega.{arith}
use lib.Dec.{ltb}
use lib.ListN.{length, take, drop, set, length-append, length-set, take-append-drop}
use lib.Seq.{take_at, take-suc-set, take-set-lt, set_at}
use borrow.Author.Tests.{ltb-true, ltb-false}
use Rattle.writing.specs.Buffer.{filled, put, puts}
use Rattle.writing.proofs.Buffer.{put_in, put_full, puts-cons, puts-nil}
use Rattle.verilog_bytes.specs.Turning.{turned, behind, fronted, Fronts}
use Rattle.verilog_bytes.specs.Held.{place_of, Held}
use Rattle.verilog_bytes.proofs.Turning.{turned-at, length-turned}
use Rattle.verilog_bytes.proofs.Moving.{fronts}

-- An empty list is held by every buffer from its beginning.
pub held-nil : (bs : List ℕ) → length bs ≡ 65536 → Held bs 0 []
held-nil bs n = record { room = n; place = refl; front = λ h. refl }

-- ---- bytes put behind

held-put : {bs l : List ℕ} {p : ℕ} (b : ℕ) → Held bs p l → Held (put (filled bs p) b).bytes (put (filled bs p) b).at (l ++ (b ∷ []))
held-put {bs} {l} {p} b held = by (ltb p 65536) refl
  where
    more : length (l ++ (b ∷ [])) ≡ length l + 1
    more = length-append l (b ∷ [])

    by : (t : Bool) → ltb p 65536 ≡ t → Held (put (filled bs p) b).bytes (put (filled bs p) b).at (l ++ (b ∷ []))
    by true q =
        let h = ltb-true p 65536 q in
        let e : p ≡ length l = omega (arith, held.place) in
        let f : take (length l) bs ≡ l = held.front (omega arith) in
        let kept : take p bs ≡ l = rw e f in
        let n : length (l ++ (b ∷ [])) ≡ suc p = omega (arith, more) in
        rw (put_in (filled bs p) b h) (record {
          room = length-set bs p b ∙ held.room;
          place = omega (arith, more);
          front = λ k. ap (λ n. take n (set bs p b)) n ∙ take-suc-set bs p b (omega (arith, held.room))
              ∙ ap (λ x. x ++ (b ∷ [])) kept;
        })
    by false q =
        let h = ltb-false p 65536 q in
        let k : 65536 ≤ length l = omega (arith, held.place) in
        rw (put_full (filled bs p) b h)
        (record { room = held.room; place = omega (arith, held.place, more); front = λ w. absurd (omega (arith, more)) })

pub held-puts : {bs l : List ℕ} {p : ℕ} (xs : List ℕ) → Held bs p l
    → Held (puts (filled bs p) xs).bytes (puts (filled bs p) xs).at (l ++ xs)
held-puts {bs} {l} {p} [] held = rw (puts-nil (filled bs p), append-nil l) held
held-puts {bs} {l} {p} (x ∷ xs) held =
    let t = put (filled bs p) x in
    rw (puts-cons (filled bs p) x xs, ← append_assoc l (x ∷ []) xs)
    (held-puts {bs = t.bytes} {l = l ++ (x ∷ [])} {p = t.at} xs (held-put x held))

-- ---- two parts turned

pub held-turned : {bs : List ℕ} {q : ℕ} (l a b : List ℕ) → Held bs q (l ++ (a ++ b))
    → Held (turned (place_of l) (place_of (l ++ a)) q bs) q (l ++ (b ++ a))
held-turned {bs} {q} l a b held = record {
  room = length-turned bs (place_of l) (place_of (l ++ a)) q ∙ held.room;
  place = held.place ∙ ap (λ n. min n 65536) long;
  front = λ h. turn (omega (arith, lba));
}
  where
    la : length (l ++ a) ≡ length l + length a
    la = length-append l a

    lab : length (l ++ (a ++ b)) ≡ length l + length a + length b
    lab = length-append l (a ++ b) ∙ omega (arith, length-append a b)

    lba : length (l ++ (b ++ a)) ≡ length l + length a + length b
    lba = length-append l (b ++ a) ∙ omega (arith, length-append b a)

    long : length (l ++ (a ++ b)) ≡ length (l ++ (b ++ a))
    long = lab ∙ sym lba

    turn : length l + length a + length b ≤ 65536 → take (length (l ++ (b ++ a))) (turned (place_of l) (place_of (l ++ a)) q bs) ≡ l ++
        (b ++ a)
    turn h =
        let rest = drop (length (l ++ (a ++ b))) bs in
        let split : l ++ (a ++ (b ++ rest)) ≡ bs =
        ap (λ x. l ++ x) (sym (append_assoc a b rest)) ∙ sym (append_assoc l (a ++ b) rest)
        ∙ ap (λ x. x ++ rest) (sym (held.front (omega (arith, lab)))) ∙ take-append-drop (length (l ++ (a ++ b))) bs in
        let law : turned (place_of l) (place_of (l ++ a)) q bs ≡ l ++ (b ++ (a ++ rest)) =
        ap (λ x. turned (place_of l) (place_of (l ++ a)) q x) (sym split)
        ∙ turned-at l a b rest (place_of l) (place_of (l ++ a)) q (omega arith) (omega (arith, la))
        (omega (arith, held.place, la, lab)) (omega (arith, held.place)) in
        ap (λ x. take (length (l ++ (b ++ a))) x)
        (law ∙ ap (λ x. l ++ x) (sym (append_assoc b a rest)) ∙ sym (append_assoc l (b ++ a) rest))
        ∙ take_at (l ++ (b ++ a)) rest (length (l ++ (b ++ a))) refl

-- ---- bytes put in front of what stands behind l

pub held-fronted : {bs : List ℕ} {q : ℕ} (from : ℕ) (l a xs : List ℕ) → from ≡ place_of l → Held bs q (l ++ a)
    → Held (fronted from xs (filled bs q)).bytes (fronted from xs (filled bs q)).at (l ++ (xs ++ a))
unfolding behind Fronts
held-fronted {bs} {q} from l a xs e held =
    let h = held-puts xs held in
    rw (fronts from xs (filled bs q) held.room, e, held.place) (held-turned l a xs (rw (append_assoc l a xs, held.place) at h))

-- ---- a byte in place of another

pub held-set : {bs : List ℕ} {q : ℕ} (p : ℕ) (l r : List ℕ) (b c : ℕ) → p ≡ place_of l → Held bs q (l ++ b ∷ r)
    → Held (set bs p c) q (l ++ c ∷ r)
held-set {bs} {q} p l r b c e held = record {
  room = length-set bs p c ∙ held.room;
  place = held.place ∙ ap (λ n. min n 65536) (long b ∙ sym (long c));
  front = λ h. set_front (omega (arith, long c));
}
  where
    long : (x : ℕ) → length (l ++ x ∷ r) ≡ length l + suc (length r)
    long x = length-append l (x ∷ r)

    set_front : length l + suc (length r) ≤ 65536 → take (length (l ++ c ∷ r)) (set bs p c) ≡ l ++ c ∷ r
    set_front h =
        let n : length (l ++ c ∷ r) ≡ length (l ++ b ∷ r) = long c ∙ sym (long b) in
        let at : p ≡ length l = omega arith in
        let kept : take (length (l ++ b ∷ r)) bs ≡ l ++ b ∷ r = held.front (omega (arith, long b)) in
        ap (λ k. take k (set bs p c)) n ∙ take-set-lt (length (l ++ b ∷ r)) bs p c (omega (arith, long b))
        ∙ ap (λ x. set x p c) kept ∙ set_at l b r c p (sym at)
