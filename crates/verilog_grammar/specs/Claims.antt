-- What is claimed of the grammar (document 02, request [1]). `proofs/Module.antt` shows all of it.
use Rattle.std.specs.Prelude.{◌≡◌, List, [], ℕ}
use Rattle.verilog_tokens.specs.Tokens.{Token}
use Rattle.verilog_grammar.specs.AnnexA.{ModuleDeclaration, yield}
use Rattle.verilog_grammar.specs.Conditions.{Counts}
use Rattle.verilog_grammar.specs.Meaning.{Source, meaning}
use Rattle.verilog_grammar.specs.Reader.{ok, read_module}

-- A derivation of these tokens that counts, and what it means.
pub record Derivation (index : List ℕ → ℕ) (ts : List Token) (s : Source) : Type 0 where
  pub tree : ModuleDeclaration
  pub counts : Counts tree
  pub yields : yield tree ≡ ts
  pub means : meaning index tree ≡ s

-- "text that IEEE 1364-2005's Annex A, cut to these forms, doesn't derive (42)": what is read has a derivation, and what has one is
-- read.
unfoldable pub OnlyDerived : Type 0
OnlyDerived =
    (index : List ℕ → ℕ) (ts : List Token) (s : Source) (rest : List Token) → read_module index ts ≡ ok s rest → Derivation index ts s

unfoldable pub AllDerived : Type 0
AllDerived = (index : List ℕ → ℕ) (ts : List Token) (s : Source) → Derivation index ts s → read_module index ts ≡ ok s []

-- "With each `else` at the nearest `if`, all derivations give this one sheet."
unfoldable pub OneMeaning : Type 0
OneMeaning = (index : List ℕ → ℕ) (m n : ModuleDeclaration) → Counts m → Counts n → yield m ≡ yield n → meaning index m ≡ meaning index n
