-- Numbers of 64 bits, and the eight bytes that they are saved as: each is got back from the other. Assumes nothing.
use mathlib.Core.Path.{◌≡◌}
use mathlib.Core.List.{List}
use Prim.Native.Nat.{ℕ, ◌+◌, ◌*◌, ◌/◌, ◌%◌, ◌^◌, ◌<◌}
use native.Mathlib.Nat.{mod-add-div}
use native.Mathlib.Omega.{arith}
use Rattle.sheet.specs.Reading.{word_of}
use Rattle.saved.specs.Saved.{word_bytes, long_bytes, Bytes, long_of}
use Rattle.state.proofs.Rows.{Stands, stands-left, stands-right, stands-append}
use Rattle.saved.proofs.Stores.{length-word}
use Rattle.saved.proofs.Bytes.{stands_word, word_stands, word_of-below, AllBytes, bytes-append, bytes_word}

pub bytes-long : (n : ℕ) → AllBytes (long_bytes n)
unfolding long_bytes
bytes-long n = bytes-append (bytes_word (n % 4294967296)) (bytes_word (n / 4294967296))

module _ (b : List ℕ) (at : ℕ) where
  pub stands-long : (n : ℕ) → n < 2 ^ 64 → Stands b at (long_bytes n) → long_of b at ≡ n
  unfolding long_bytes long_of
  stands-long n h s =
      let low = word_bytes (n % 4294967296) in
      let high = word_bytes (n / 4294967296) in
      let x = stands_word b at (n % 4294967296) (omega arith) (stands-left low high s) in
      let y = stands_word b (at + 4) (n / 4294967296) (omega arith)
      (rw (length-word (n % 4294967296)) at (stands-right low high s)) in
      rw (x, y) (mod-add-div n 4294967296)

  pub long-stands : Bytes b → Stands b at (long_bytes (long_of b at))
  unfolding long_bytes long_of
  long-stands bytes =
      let x = word_of b at in
      let y = word_of b (at + 4) in
      let k = word_of-below b at bytes in
      let e : (x + 4294967296 * y) % 4294967296 ≡ x = omega arith in
      let f : (x + 4294967296 * y) / 4294967296 ≡ y = omega arith in
      rw (e, f)
      (stands-append (word_bytes x) (word_bytes y) (word_stands b at bytes)
      (rw (length-word x) (word_stands b (at + 4) bytes)))

  pub long_of-below : Bytes b → long_of b at < 2 ^ 64
  unfolding long_of
  long_of-below bytes =
      let h = word_of-below b at bytes in
      let k = word_of-below b (at + 4) bytes in
      omega arith
