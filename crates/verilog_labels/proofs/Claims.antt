-- What is claimed of a text's labels. Assumes nothing.
use mathlib.Core.Path.{◌≡◌, refl}
use mathlib.Core.Logic.{◌≢◌}
use mathlib.Core.Bool.{Bool, true, false}
use mathlib.Core.List.{List, [], ◌∷◌}
use Prim.Native.Nat.{ℕ}
use borrow.Author.Tests.{eq-eqb}
use lib.Dec.{leb}
use lib.ListN.{length}
use Rattle.sheet.specs.Reading as Sheet
use Rattle.verilog_tokens.specs.Tokens.{Token, Name, tokens}
use Rattle.verilog_grammar.specs.Meaning.{Part, Source}
use Rattle.verilog_grammar.specs.Reader.{Res, ok, no, read_module}
use Rattle.verilog_source.specs.Names.{faults}
use Rattle.verilog_source.specs.Compiled as Text
use Rattle.verilog_source.specs.Compiled.{compiled, lent_right, unnumbered}
use Rattle.verilog_labels.specs.Labels.{labels, short, derived, named, labelled}
use Rattle.verilog_labels.specs.Claims.{LeftAlone, SameNumber}

pub left_alone : LeftAlone
unfolding LeftAlone labels short derived named labelled
left_alone text places lengths h = by (leb (length text) 16384) h
  where
    on : (ts : List Token) (ps : List Part) (fs : List Name) → (named places lengths ps fs).number ≢ 0
        → ((named places lengths ps fs).places ≡ places) × ((named places lengths ps fs).lengths ≡ lengths)
    on ts ps [] h = absurd (h refl)
    on ts ps (f ∷ fs) h = (refl, refl)

    at : (ts : List Token) (r : Res Source) → (derived places lengths ts r).number ≢ 0
        → ((derived places lengths ts r).places ≡ places) × ((derived places lengths ts r).lengths ≡ lengths)
    at ts (no n) h = (refl, refl)
    at ts (ok s rest) h = on ts s.parts (faults ts s.parts) h

    by : (b : Bool) → (short text places lengths b).number ≢ 0
        → ((short text places lengths b).places ≡ places) × ((short text places lengths b).lengths ≡ lengths)
    by false h = (refl, refl)
    by true h = at (tokens text) (read_module unnumbered (tokens text)) h

module _ (text lent places lengths : List ℕ) where
  -- The number is the same, or the labels have none.
  same_number : length lent ≡ 8192 → (labels text places lengths).number ≢ 0
      → (compiled text lent).answer.number ≡ (labels text places lengths).number
  unfolding labels short derived named labelled compiled lent_right Text.short Text.derived Text.named Text.refused
  same_number e h = rw (eq-eqb (length lent) 8192 e) (by (leb (length text) 16384) h)
    where
      on : (ts : List Token) (ps : List Part) (fs : List Name) → (named places lengths ps fs).number ≢ 0
          → (Text.named lent ts ps fs).answer.number ≡ (named places lengths ps fs).number
      on ts ps [] h = absurd (h refl)
      on ts ps (f ∷ fs) h = refl

      at : (r : Res Source) → (derived places lengths (tokens text) r).number ≢ 0
          → (Text.derived text lent r).answer.number ≡ (derived places lengths (tokens text) r).number
      at (no n) h = refl
      at (ok s rest) h = on (tokens text) s.parts (faults (tokens text) s.parts) h

      by : (b : Bool) → (short text places lengths b).number ≢ 0
          → (Text.short text lent b).answer.number ≡ (short text places lengths b).number
      by false h = refl
      by true h = at (read_module unnumbered (tokens text)) h

pub same_numbers : SameNumber
unfolding SameNumber
same_numbers text lent places lengths e h = same_number text lent places lengths e h
