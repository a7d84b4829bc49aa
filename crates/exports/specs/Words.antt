-- What the calls on words leave in lent arrays.
use Rattle.std.specs.Prelude.{ℕ, List, ltb, eqb}
use Rattle.std.proofs.lemmas.List.Edits.{sets}
use Rattle.values.specs.Values.{pick}
use Rattle.hextext.specs.Decoding.{decoded, bytes_of}
use Rattle.writing.specs.Buffer.{Text, filled, puts}
use Rattle.witness.specs.declared.Witness.{Witness}
use Rattle.findings.specs.Findings.{witness_words}

-- The bytes of a hexadecimal text; a refused one leaves the lent bytes.
unfoldable pub decoded_in : List ℕ → List ℕ → List ℕ
decoded_in b text = pick (eqb (decoded text).error 0) (sets b 0 (bytes_of text)) b

-- The words of a witness. A sheet that isn't read, or that extraction accepts, has none.
unfoldable pub found_in : List ℕ → Witness → Text
found_in text w = pick (ltb w.number 12) (filled text 0) (puts (filled text 0) (witness_words w))
