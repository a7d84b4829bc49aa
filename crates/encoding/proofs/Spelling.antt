-- Bytes that stand in a sheet from one place to another: what both directions of the theorem are said in.
-- Assumes nothing.
use mathlib.Core.Path.{◌≡◌, refl, sym, ap, ◌∙◌}
use Prim.Native.Nat.{ℕ, suc, ◌+◌, ◌*◌, ◌^◌, ◌/◌, ◌%◌, ◌≤◌, ◌<◌}
use native.Mathlib.Omega.{arith}
use native.Mathlib.Numerals.{add-one}
use native.Mathlib.Nat.{div-div-eq-div-mul, mod-add-div, mod-eq_of_lt}
use mathlib.Core.List.{List, [], ◌∷◌, ◌++◌, append_assoc, append-nil}
use lib.ListN.{length, get_or, drop, length-append}
use lib.Seq.{drop-cons, drop-drop, drop-append_seam, drop-length}
use Rattle.sheet.specs.Reading.{word, word_of}
use Rattle.encoding.specs.Encoding.{Bytes, encode_word}

-- The bytes l stand in s from place p up to place q.
pub record Spells (s : List ℕ) (p : ℕ) (l : List ℕ) (q : ℕ) : Type 0 where
  pub ends : q ≡ p + length l
  pub below : q ≤ length s
  pub bytes : drop p s ≡ l ++ drop q s

-- ---- none, one, two

pub spells-nil : {s : List ℕ} {p : ℕ} → p ≤ length s → Spells s p [] p
spells-nil h = record { ends = omega arith; below = h; bytes = refl }

pub spells-cons : {s l : List ℕ} {p q x : ℕ} → p < length s → get_or s p 0 ≡ x → Spells s (p + 1) l q → Spells s p (x ∷ l) q
spells-cons {s} {l} {p} {q} {x} h e r =
    record {
      ends = let t = r.ends in omega arith;
      below = r.below;
      bytes = drop-cons s p 0 h ∙ rw (e, ← add-one p, r.bytes) refl;
    }

pub spells-head : {s l : List ℕ} {p q x : ℕ} → Spells s p (x ∷ l) q → (p < length s) × (get_or s p 0 ≡ x) × Spells s (p + 1) l q
spells-head {s} {l} {p} {q} {x} r =
    let t = r.ends in
    let u = r.below in
    let h : p < length s = omega arith in
    let e : ◌≡◌ {A = List ℕ} (get_or s p 0 ∷ drop (suc p) s) (x ∷ (l ++ drop q s)) = sym (drop-cons s p 0 h) ∙ r.bytes in
    let f : drop (suc p) s ≡ l ++ drop q s = cc in
    (h, cc, record { ends = omega arith; below = u; bytes = rw add-one f })

pub spells-two : {s l : List ℕ} {p q x y : ℕ} → p + 1 < length s → get_or s p 0 ≡ x → get_or s (p + 1) 0 ≡ y → Spells s (p + 2) l q
    → Spells s p (x ∷ y ∷ l) q
spells-two {s} {l} {p} {q} h e f r =
    let t : p + 1 + 1 ≡ p + 2 = omega arith in
    spells-cons (omega arith) e (spells-cons h f (rw t r))

pub spells-heads : {s l : List ℕ} {p q x y : ℕ} → Spells s p (x ∷ y ∷ l) q
    → (p + 1 < length s) × (get_or s p 0 ≡ x) × (get_or s (p + 1) 0 ≡ y) × Spells s (p + 2) l q
spells-heads {s} {l} {p} {q} r =
    let a = spells-head r in
    let b = spells-head a.2 in
    let t : p + 1 + 1 ≡ p + 2 = omega arith in
    (b.0, a.1, b.1, rw t at b.2)

-- ---- one after the other

pub spells-append : {s a b : List ℕ} {p q r : ℕ} → Spells s p a q → Spells s q b r → Spells s p (a ++ b) r
spells-append {s} {a} {b} {p} {q} {r} x y =
    let t = x.ends in
    let u = y.ends in
    record {
      ends = rw length-append (omega arith);
      below = y.below;
      bytes = rw (x.bytes, y.bytes, append_assoc a b (drop r s)) refl;
    }

pub spells-split : {s : List ℕ} (a b : List ℕ) {p r : ℕ} → Spells s p (a ++ b) r
    → (Spells s p a (p + length a)) × (Spells s (p + length a) b r)
spells-split {s} a b {p} {r} x =
    let t = x.ends ∙ ap (λ (n : ℕ). p + n) (length-append a b) in
    let u = x.below in
    let e : drop p s ≡ a ++ (b ++ drop r s) = x.bytes ∙ append_assoc a b (drop r s) in
    let f : drop (p + length a) s ≡ b ++ drop r s =
    sym (drop-drop (length a) p s) ∙ ap (drop (length a)) e ∙ drop-append_seam a (b ++ drop r s)
    in (
      record { ends = refl; below = omega arith; bytes = e ∙ ap (λ (l : List ℕ). a ++ l) (sym f) },
      record { ends = omega arith; below = u; bytes = f },
    )

-- ---- the whole

pub spells-self : (s : List ℕ) → Spells s 0 s (length s)
spells-self s = record { ends = omega arith; below = omega arith; bytes = rw (drop-length s, append-nil s) refl }

pub spells-whole : {s l : List ℕ} → Spells s 0 l (length s) → l ≡ s
spells-whole {s} {l} r = sym (r.bytes ∙ ap (λ (t : List ℕ). l ++ t) (drop-length s) ∙ append-nil l)

-- ---- four bytes

pub word_bytes : (a b c d : ℕ) → a < 256 → b < 256 → c < 256 → d < 256 → encode_word (word a b c d) ≡ a ∷ b ∷ c ∷ d ∷ []
unfolding word encode_word
word_bytes a b c d ha hb hc hd =
    let n = a + 256 * b + 65536 * c + 16777216 * d in
    let e : n % 256 ≡ a = omega arith in
    let f : n / 256 ≡ b + 256 * c + 65536 * d = omega arith in
    let g : n / 65536 ≡ c + 256 * d = omega arith in
    let h : n / 16777216 ≡ d = omega arith in
    let f' : (b + 256 * c + 65536 * d) % 256 ≡ b = omega arith in
    let g' : (c + 256 * d) % 256 ≡ c = omega arith in
    let h' : d % 256 ≡ d = omega arith in
    rw (e, f, g, h, f', g', h') refl

pub bytes_word : (n : ℕ) → n < 2 ^ 32 → word (n % 256) (n / 256 % 256) (n / 65536 % 256) (n / 16777216 % 256) ≡ n
unfolding word
bytes_word n h =
    let x : n / 256 / 256 ≡ n / 65536 = div-div-eq-div-mul n 256 256 in
    let y : n / 65536 / 256 ≡ n / 16777216 = div-div-eq-div-mul n 65536 256 in
    let a : n % 256 + 256 * (n / 256) ≡ n = mod-add-div n 256 in
    let b : n / 256 % 256 + 256 * (n / 65536) ≡ n / 256 = rw x at (mod-add-div (n / 256) 256) in
    let c : n / 65536 % 256 + 256 * (n / 16777216) ≡ n / 65536 = rw y at (mod-add-div (n / 65536) 256) in
    let d : n / 16777216 % 256 ≡ n / 16777216 = mod-eq_of_lt (omega arith) in
    omega arith

pub word-spells : {s : List ℕ} {p : ℕ} → Bytes s → p + 4 ≤ length s → Spells s p (encode_word (word_of s p)) (p + 4)
unfolding word_of Bytes
word-spells {s} {p} bs h =
    rw (word_bytes _ _ _ _ (bs p) (bs (p + 1)) (bs (p + 2)) (bs (p + 3)))
    (let t : p + 2 + 1 ≡ p + 3 = omega arith in
    let u : p + 2 + 2 ≡ p + 4 = omega arith in
    spells-two (omega arith) refl refl
    (spells-two (omega arith) refl (ap (λ (i : ℕ). get_or s i 0) t) (rw u (spells-nil h))))

pub spells-word : {s : List ℕ} {p q n : ℕ} → n < 2 ^ 32 → Spells s p (encode_word n) q → (q ≡ p + 4) × (p + 4 ≤ length s) × (word_of s p ≡ n)
unfolding word_of encode_word
spells-word {s} {p} {q} {n} h r =
    let a = spells-heads r in
    let b = spells-heads a.3 in
    let t : p + 2 + 1 ≡ p + 3 = omega arith in
    let e : get_or s (p + 3) 0 ≡ n / 16777216 % 256 = rw t at b.2 in
    let l = b.0 in
    (r.ends, omega arith, rw (a.1, a.2, b.1, e) (bytes_word n h))
