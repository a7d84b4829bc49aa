-- What is claimed of a text's labels. proofs/Claims shows it.
use Rattle.std.specs.Prelude.{◌≡◌, ◌≢◌, List, ℕ, length}
use Rattle.verilog_source.specs.Compiled.{compiled}
use Rattle.verilog_labels.specs.Labels.{labels}

-- A refused call alters nothing.
unfoldable pub LeftAlone : Type 0
LeftAlone = (text places lengths : List ℕ) → (labels text places lengths).number ≢ 0
    → ((labels text places lengths).places ≡ places) × ((labels text places lengths).lengths ≡ lengths)

-- It refuses by the number that the reader of texts has.
unfoldable pub SameNumber : Type 0
SameNumber = (text lent places lengths : List ℕ) → length lent ≡ 8192 → (labels text places lengths).number ≢ 0
    → (compiled text lent).answer.number ≡ (labels text places lengths).number
