-- What the calls on words leave in lent arrays. Assumes nothing.
use mathlib.Core.Path.{◌≡◌}
use mathlib.Core.List.{List}
use Prim.Native.Nat.{ℕ, ◌≤◌, ◌<◌}
use borrow.Author.Tests.{eq-eqb, ne_eqb, lt-ltb, le-ltb}
use lib.Seq.{sets}
use Rattle.hextext.specs.declared.Decoded.{Decoded}
use Rattle.hextext.specs.Decoding.{decoded, bytes_of}
use Rattle.writing.specs.Buffer.{filled, puts}
use Rattle.witness.specs.declared.Witness.{Witness}
use Rattle.findings.specs.Findings.{witness_words}
use Rattle.exports.specs.Words.{decoded_in, found_in}

module _ (b text : List ℕ) (d : Decoded) (e : d ≡ decoded text) where
  pub hex-refused : (d.error ≡ 0 → ⊥) → b ≡ decoded_in b text
  unfolding decoded_in
  hex-refused h = rw (← e, ne_eqb d.error 0 h)

  pub hex-read : d.error ≡ 0 → sets b 0 (bytes_of text) ≡ decoded_in b text
  unfolding decoded_in
  hex-read h = rw (← e, eq-eqb d.error 0 h)

module _ (text : List ℕ) (w d : Witness) (e : w ≡ d) where
  pub found_none : w.number < 12 → filled text 0 ≡ found_in text d
  unfolding found_in
  found_none h = rw (← e, lt-ltb w.number 12 h)

  pub found_some : 12 ≤ w.number → puts (filled text 0) (witness_words w) ≡ found_in text d
  unfolding found_in
  found_some h = rw (← e, le-ltb w.number 12 h)
