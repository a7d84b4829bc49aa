-- What is claimed of a text's sheet (document 02, request [1]). `proofs/Compiled.antt` shows all of it.
use Rattle.std.specs.Prelude.{◌≡◌, ◌≢◌, List, [], ◌++◌, ℕ, ◌-◌, ◌≤◌, ◌<◌, length, replicate}
use Rattle.sheet.specs.Reading as Sheet
use Rattle.sheet.specs.Expression.{Expr}
use Rattle.sheet.specs.Module.{Module, read}
use Rattle.encoding.specs.Encoding.{Bytes, encode}
use Rattle.encoding.specs.WellFormed.{WellFormed}
use Rattle.verilog_tokens.specs.Tokens.{tokens}
use Rattle.verilog_grammar.specs.AnnexA.{ModuleDeclaration, yield}
use Rattle.verilog_grammar.specs.Conditions.{Counts}
use Rattle.verilog_grammar.specs.Meaning.{Part, meaning}
use Rattle.verilog_source.specs.Names.{number_of, faults}
use Rattle.verilog_source.specs.Written.{written}
use Rattle.verilog_source.specs.Compiled.{unnumbered, compiled}

-- A derivation of a text that counts.
pub record Derives (text : List ℕ) (m : ModuleDeclaration) : Type 0 where
  pub counts : Counts m
  pub yields : yield m ≡ tokens text

-- What a derivation declares, and the sheet that it gives.
unfoldable pub declared_by : ModuleDeclaration → List Part
declared_by m = (meaning unnumbered m).parts

unfoldable pub sheet_by : ModuleDeclaration → List ℕ
sheet_by m = written (meaning (number_of (declared_by m)) m).parts

-- ---- "in 8,192 lent bytes (else 23, first)", "text over its length (41)"

unfoldable pub FirstTheLent : Type 0
FirstTheLent = (text lent : List ℕ) → length lent ≢ 8192 → (compiled text lent).answer.number ≡ 23

unfoldable pub ThenTheLength : Type 0
ThenTheLength = (text lent : List ℕ) → length lent ≡ 8192 → 16384 < length text → (compiled text lent).answer.number ≡ 41

-- ---- 42 stands exactly where no derivation exists

unfoldable pub ThenTheGrammar : Type 0
ThenTheGrammar = (text lent : List ℕ) → length lent ≡ 8192 → length text ≤ 16384
    → (((m : ModuleDeclaration) → Derives text m → ⊥) → (compiled text lent).answer.number ≡ 42)
    × ((compiled text lent).answer.number ≡ 42 → (m : ModuleDeclaration) → Derives text m → ⊥)

-- ---- 43 stands exactly where a name of a derived text is at fault

unfoldable pub ThenTheNames : Type 0
ThenTheNames = (text lent : List ℕ) (m : ModuleDeclaration) → length lent ≡ 8192 → length text ≤ 16384 → Derives text m
    → (faults (tokens text) (declared_by m) ≢ [] → (compiled text lent).answer.number ≡ 43)
    × ((compiled text lent).answer.number ≡ 43 → faults (tokens text) (declared_by m) ≢ [])

-- ---- "before the sheet's own numbers": what is left is judged as a sheet

unfoldable pub ThenTheSheet : Type 0
ThenTheSheet = (text lent : List ℕ) (m : ModuleDeclaration) → length lent ≡ 8192 → length text ≤ 16384 → Derives text m
    → faults (tokens text) (declared_by m) ≡ []
    → ((n p : ℕ) → read (sheet_by m) ≡ Sheet.no n p → (compiled text lent).answer.number ≡ n)
    × ((d : Module Expr) → read (sheet_by m) ≡ Sheet.ok d
    → ((compiled text lent).answer.number ≡ 0) × ((compiled text lent).answer.length ≡ length (sheet_by m))
    × ((compiled text lent).lent ≡ sheet_by m ++ replicate (8192 - length (sheet_by m)) 0))

-- ---- "With each `else` at the nearest `if`, all derivations give this one sheet."

unfoldable pub OneSheet : Type 0
OneSheet = (text : List ℕ) (m n : ModuleDeclaration) → Derives text m → Derives text n → sheet_by m ≡ sheet_by n

-- ---- a refusal leaves the lent bytes as they were

unfoldable pub LeftAlone : Type 0
LeftAlone = (text lent : List ℕ) → (compiled text lent).answer.number ≢ 0 → (compiled text lent).lent ≡ lent

-- ---- what is accepted is the sheet of a derivation: bytes that read as a well-formed module, whose encoding they are

pub record Accepted (text lent : List ℕ) : Type 0 where
  pub tree : ModuleDeclaration
  pub derives : Derives text tree
  pub faultless : faults (tokens text) (declared_by tree) ≡ []
  pub holds : Module Expr
  pub reads : read (sheet_by tree) ≡ Sheet.ok holds
  pub bytes : Bytes (sheet_by tree)
  pub formed : WellFormed holds
  pub encoded : encode holds ≡ sheet_by tree
  pub stored : (compiled text lent).lent ≡ sheet_by tree ++ replicate (8192 - length (sheet_by tree)) 0

unfoldable pub OnlySheets : Type 0
OnlySheets = (text lent : List ℕ) → (compiled text lent).answer.number ≡ 0 → Accepted text lent
