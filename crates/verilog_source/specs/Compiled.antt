-- A text's sheet (document 02, request [1]): "a reader of up to 16,384 bytes makes a sheet of it in 8,192 lent bytes (else 23, first),
-- zeros after, and answers its length."
use Rattle.std.specs.Prelude.{Bool, true, false, List, [], ◌∷◌, ◌++◌, ℕ, ◌-◌, leb, eqb, length, get_or, replicate}
use Rattle.sheet.specs.Reading as Sheet
use Rattle.sheet.specs.Expression.{Expr}
use Rattle.sheet.specs.Module.{Module, read}
use Rattle.verilog_tokens.specs.Tokens.{Token, Name, tokens, places}
use Rattle.verilog_grammar.specs.Meaning.{Part, Source}
use Rattle.verilog_grammar.specs.Reader.{Res, ok, no, read_module}
use Rattle.verilog_source.specs.declared.TextRead.{TextRead}
use Rattle.verilog_source.specs.Names.{number_of, faults, lowest}
use Rattle.verilog_source.specs.Written.{written}

-- The answer, and the lent bytes.
pub record Compiled : Type 0 where
  pub answer : TextRead
  pub lent : List ℕ

-- A refusal leaves the lent bytes as they were.
unfoldable pub refused : ℕ → ℕ → List ℕ → Compiled
refused n p lent = record { answer = record { number = n; place = p; length = 0 }; lent = lent }

unfoldable pub accepted : List ℕ → Compiled
accepted s =
    record {
      answer = record { number = 0; place = 0; length = length s };
      lent = s ++ replicate (8192 - length s) 0;
    }

-- ---- the sheet of a list of tokens: what is declared gives the numbers, with which the tokens are read again

unfoldable pub unnumbered : List ℕ → ℕ
unnumbered s = 0

unfoldable pub parts_of : Res Source → List Part
parts_of (ok s rest) = s.parts
parts_of (no n) = []

unfoldable pub sheet_of : List Token → List Part → List ℕ
sheet_of ts ps = written (parts_of (read_module (number_of ps) ts))

-- ---- "It refuses text over its length (41), text that IEEE 1364-2005's Annex A, cut to these forms, doesn't derive (42) and a name
-- undeclared, declared twice, or an `assign` other than once to each wire (43), in that order, before the sheet's own numbers."

unfoldable pub judged : List ℕ → List ℕ → Sheet.Res (Module Expr) → Compiled
judged lent s (Sheet.ok m) = accepted s
judged lent s (Sheet.no n p) = refused n p lent

unfoldable pub named : List ℕ → List Token → List Part → List Name → Compiled
named lent ts ps (n ∷ ns) = refused 43 (lowest n ns) lent
named lent ts ps [] = judged lent (sheet_of ts ps) (read (sheet_of ts ps))

-- The place of the token behind which so many are left, the text's end where none is.
unfoldable pub spot : List ℕ → ℕ → ℕ
spot text left = get_or (places text) (length (places text) - left) (length text)

unfoldable pub derived : List ℕ → List ℕ → Res Source → Compiled
derived text lent (no left) = refused 42 (spot text left) lent
derived text lent (ok s rest) = named lent (tokens text) s.parts (faults (tokens text) s.parts)

unfoldable pub short : List ℕ → List ℕ → Bool → Compiled
short text lent false = refused 41 16384 lent
short text lent true = derived text lent (read_module unnumbered (tokens text))

unfoldable pub lent_right : List ℕ → List ℕ → Bool → Compiled
lent_right text lent false = refused 23 0 lent
lent_right text lent true = short text lent (leb (length text) 16384)

unfoldable pub compiled : List ℕ → List ℕ → Compiled
compiled text lent = lent_right text lent (eqb (length lent) 8192)
