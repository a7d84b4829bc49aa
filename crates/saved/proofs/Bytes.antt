-- Numbers and flags, and the bytes that they are saved as: each is got back from the other. Assumes nothing.
use mathlib.Core.Path.{◌≡◌, refl}
use mathlib.Core.Bool.{Bool, true, false}
use mathlib.Core.List.{List, [], ◌∷◌, ◌++◌}
use Prim.Native.Nat.{ℕ, zero, suc, ◌+◌, ◌*◌, ◌/◌, ◌%◌, ◌^◌, ◌<◌}
use native.Mathlib.Nat.{add-zero, mul-zero, mul-suc, mod-add-div, mod-eq_of_lt, div-div-eq-div-mul}
use native.Mathlib.Numerals.{add-one}
use native.Mathlib.Omega.{arith}
use lib.Dec.{eqb}
use lib.ListN.{get_or}
use borrow.Author.Tests.{leb-true, eqb-true, eqb-false}
use Rattle.sheet.specs.Reading.{word, word_of}
use Rattle.state.specs.Rows.{rows}
use Rattle.saved.specs.Saved.{flag_byte, word_bytes, Bytes, is_flag, flag_at}
use Rattle.state.proofs.Rows.{Stands, stands-nil, stands-cons, stands-head}

-- ---- four bytes

pub word-word_bytes : (n : ℕ) → n < 2 ^ 32 → word (n % 256) (n / 256 % 256) (n / 65536 % 256) (n / 16777216 % 256) ≡ n
unfolding word
word-word_bytes n h =
    let x : n / 256 / 256 ≡ n / 65536 = div-div-eq-div-mul n 256 256 in
    let y : n / 65536 / 256 ≡ n / 16777216 = div-div-eq-div-mul n 65536 256 in
    let a : n % 256 + 256 * (n / 256) ≡ n = mod-add-div n 256 in
    let b : n / 256 % 256 + 256 * (n / 65536) ≡ n / 256 = rw x at (mod-add-div (n / 256) 256) in
    let c : n / 65536 % 256 + 256 * (n / 16777216) ≡ n / 65536 = rw y at (mod-add-div (n / 65536) 256) in
    let d : n / 16777216 % 256 ≡ n / 16777216 = mod-eq_of_lt (omega arith) in
    omega arith

pub word_bytes-word : (a b c d : ℕ) → a < 256 → b < 256 → c < 256 → d < 256 → word_bytes (word a b c d) ≡ a ∷ b ∷ c ∷ d ∷ []
unfolding word word_bytes
word_bytes-word a b c d ha hb hc hd =
    let n = a + 256 * b + 65536 * c + 16777216 * d in
    let e : n % 256 ≡ a = omega arith in
    let f : n / 256 ≡ b + 256 * c + 65536 * d = omega arith in
    let g : n / 65536 ≡ c + 256 * d = omega arith in
    let h : n / 16777216 ≡ d = omega arith in
    let f' : (b + 256 * c + 65536 * d) % 256 ≡ b = omega arith in
    let g' : (c + 256 * d) % 256 ≡ c = omega arith in
    let h' : d % 256 ≡ d = omega arith in
    rw (e, f, g, h, f', g', h') refl

pub word_below : (a b c d : ℕ) → a < 256 → b < 256 → c < 256 → d < 256 → word a b c d < 2 ^ 32
unfolding word
word_below a b c d ha hb hc hd = omega arith

module _ (b : List ℕ) (at : ℕ) where
  four : Stands b at (get_or b at 0 ∷ get_or b (at + 1) 0 ∷ get_or b (at + 2) 0 ∷ get_or b (at + 3) 0 ∷ [])
  four =
      let e : at + 1 + 1 ≡ at + 2 = omega arith in
      let f : at + 2 + 1 ≡ at + 3 = omega arith in
      stands-cons refl (stands-cons refl (rw e (stands-cons refl (rw f (stands-cons refl stands-nil)))))

  pub stands_word : (n : ℕ) → n < 2 ^ 32 → Stands b at (word_bytes n) → word_of b at ≡ n
  unfolding word_of word_bytes
  stands_word n h s =
      rw (stands-head s, s.byte 1 (omega arith), s.byte 2 (omega arith), s.byte 3 (omega arith)) (word-word_bytes n h)

  pub word_stands : Bytes b → Stands b at (word_bytes (word_of b at))
  unfolding word_of
  word_stands bytes = rw (word_bytes-word _ _ _ _ (bytes at) (bytes (at + 1)) (bytes (at + 2)) (bytes (at + 3))) four

  pub word_of-below : Bytes b → word_of b at < 2 ^ 32
  unfolding word_of
  word_of-below bytes = word_below _ _ _ _ (bytes at) (bytes (at + 1)) (bytes (at + 2)) (bytes (at + 3))

  -- ---- one byte

  pub flag_at-byte : (x : Bool) → get_or b at 0 ≡ flag_byte x → flag_at b at ≡ x
  unfolding flag_at flag_byte
  flag_at-byte true e = rw e
  flag_at-byte false e = rw e

  pub is_flag-byte : (x : Bool) → get_or b at 0 ≡ flag_byte x → is_flag b at ≡ true
  unfolding is_flag flag_byte
  is_flag-byte true e = rw e
  is_flag-byte false e = rw e

  pub byte-flag_at : is_flag b at ≡ true → get_or b at 0 ≡ flag_byte (flag_at b at)
  unfolding is_flag flag_at flag_byte
  byte-flag_at h = by (eqb (get_or b at 0) 1) refl
    where
      by : (t : Bool) → eqb (get_or b at 0) 1 ≡ t → get_or b at 0 ≡ flag_byte (eqb (get_or b at 0) 1)
      by true q = rw q (eqb-true _ _ q)
      by false q =
          let n = eqb-false (get_or b at 0) 1 q in
          let l = leb-true (get_or b at 0) 1 h in
          rw q (omega arith)

-- ---- lists of bytes, one by one

pub data AllBytes : List ℕ → Type 0 where
  no_byte : AllBytes []
  byte : (x : ℕ) {l : List ℕ} → x < 256 → AllBytes l → AllBytes (x ∷ l)

pub all-bytes : {l : List ℕ} → AllBytes l → Bytes l
all-bytes no_byte i = omega arith
all-bytes (byte x h k) zero = h
all-bytes (byte x h k) (suc i) = all-bytes k i

pub bytes-append : {l r : List ℕ} → AllBytes l → AllBytes r → AllBytes (l ++ r)
bytes-append no_byte k = k
bytes-append (byte x h l) k = byte x h (bytes-append l k)

pub bytes-rows : {f : ℕ → List ℕ} (n : ℕ) → ((k : ℕ) → AllBytes (f k)) → AllBytes (rows n f)
unfolding rows
bytes-rows zero h = no_byte
bytes-rows (suc n) h = bytes-append (bytes-rows n h) (h n)

pub bytes_word : (n : ℕ) → AllBytes (word_bytes n)
unfolding word_bytes
bytes_word n =
    byte (n % 256) (omega arith)
    (byte (n / 256 % 256) (omega arith)
    (byte (n / 65536 % 256) (omega arith) (byte (n / 16777216 % 256) (omega arith) no_byte)))

pub bytes-flag : (x : Bool) {l : List ℕ} → AllBytes l → AllBytes (flag_byte x ∷ l)
unfolding flag_byte
bytes-flag true k = byte 1 (omega arith) k
bytes-flag false k = byte 0 (omega arith) k

-- ---- the place of a row's item: the first, and the next after a step

pub at_first : (at step : ℕ) → at ≡ at + step * 0
at_first at step = rw (mul-zero, add-zero)

pub at_next : (at step k : ℕ) {p : ℕ} → p ≡ at + step * k → p + step ≡ at + step * (k + 1)
at_next at step k e = rw (e, add-one, mul-suc) (omega arith)
