-- What a reader makes of a vector's figures (proved in proofs/Waveform).
use Rattle.std.specs.Prelude.{List, ◌++◌, ◌≡◌, ℕ, ◌-◌, ◌≤◌, eqb, length, get_or, replicate}
use Rattle.values.specs.declared.Value.{Value}
use Rattle.values.specs.Values.{pick}
use Rattle.writing.specs.Ascii.{byte}
use Rattle.binary_text.specs.BinaryText.{bits_of}
use Rattle.waveform.specs.Waveform.{figures}

-- ---- LeftExtended: with x in front where the first figure is x, else with zeros, as a reader puts them there, the figures are one a bit.
-- Those read back (`ReadsBack` of binary_text).

unfoldable pub extended : ℕ → List ℕ → List ℕ
extended w t = replicate (w - length t) (pick (eqb (get_or t 0 0) (byte "x")) (byte "x") (byte "0")) ++ t

abbrev pub LeftExtended : Type 0
LeftExtended = (w : ℕ) (a : Value) → w ≤ 32 → extended w (figures w a) ≡ bits_of w a
