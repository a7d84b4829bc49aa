-- Where a text's variables are declared: for each number the place in the text of the name that declares it, and the name's length.
-- Document 02, request [1]: "variables number as declared within their kind".
use Rattle.std.specs.Prelude.{Bool, true, false, List, [], ◌∷◌, ◌++◌, map, ℕ, leb, length, take, replicate}
use Rattle.verilog_tokens.specs.Tokens.{Token, Name, tokens}
use Rattle.verilog_grammar.specs.Meaning.{Part, Source}
use Rattle.verilog_grammar.specs.Reader.{Res, ok, no, read_module}
use Rattle.verilog_source.specs.Names.{Variable, in_order, faults}
use Rattle.verilog_source.specs.Compiled.{unnumbered}

-- The number, and two lent tables of 80 entries, one for each number that a sheet's variable can have.
pub record Labels : Type 0 where
  pub number : ℕ
  pub places : List ℕ
  pub lengths : List ℕ

abbrev pub told : ℕ → List ℕ → List ℕ → Labels
told n ps ls = record { number = n; places = ps; lengths = ls }

-- A list in a table of 80 entries, 0 behind it; what passes the table's end is left out.
unfoldable pub row : List ℕ → List ℕ
row xs = take 80 (xs ++ replicate 80 0)

abbrev pub place_of : Variable → ℕ
place_of v = v.named.place

abbrev pub length_of : Variable → ℕ
length_of v = length v.named.spelled

unfoldable pub labelled : List Part → Labels
labelled ps = told 0 (row (map place_of (in_order ps))) (row (map length_of (in_order ps)))

-- ---- 41, 42, 43 as `compiled` has them; the sheet's own numbers aren't asked. A refusal leaves both tables.

unfoldable pub named : List ℕ → List ℕ → List Part → List Name → Labels
named places lengths ps (n ∷ ns) = told 43 places lengths
named places lengths ps [] = labelled ps

unfoldable pub derived : List ℕ → List ℕ → List Token → Res Source → Labels
derived places lengths ts (no left) = told 42 places lengths
derived places lengths ts (ok s rest) = named places lengths s.parts (faults ts s.parts)

unfoldable pub short : List ℕ → List ℕ → List ℕ → Bool → Labels
short text places lengths false = told 41 places lengths
short text places lengths true = derived places lengths (tokens text) (read_module unnumbered (tokens text))

unfoldable pub labels : List ℕ → List ℕ → List ℕ → Labels
labels text places lengths = short text places lengths (leb (length text) 16384)
