-- The tokens with a role, all in one list beside what the parts have: another way to say what the tables of roles and widths hold.
use Rattle.std.specs.Prelude.{◌≡◌, Bool, not, List, [], ◌∷◌, ◌++◌, map, ℕ, eqb, length, get_or}
use Rattle.sheet.specs.Expression.{Expr}
use Rattle.sheet.specs.Statement.{Stmt}
use Rattle.verilog_tokens.specs.Tokens.{Token}
use Rattle.verilog_grammar.specs.Meaning.{Kind, an_input, a_register, a_wire, Driven, Part, declares, drives, runs}
use Rattle.verilog_source.specs.Names.{Variable, of_width}
use Rattle.verilog_names.specs.Chosen.{chosen}
use Rattle.verilog_names.specs.Tables.{Along, Declares, Drives, Runs, Noted}

pub data Entry : Type 0 where
  variable : Kind → Variable → Entry
  target : Driven → Entry
  thread : Stmt Expr → Entry

-- What the parts have, from left to right.
unfoldable pub entries_of : Part → List Entry
entries_of (declares k w ns) = map (variable k) (of_width w ns)
entries_of (drives ds) = map target ds
entries_of (runs s) = thread s ∷ []

unfoldable pub entries : List Part → List Entry
entries [] = []
entries (p ∷ ps) = entries_of p ++ entries ps

unfoldable pub role_of : Kind → ℕ
role_of an_input = 1
role_of a_register = 2
role_of a_wire = 3

unfoldable pub is_noted : List ℕ → ℕ → Bool
is_noted roles i = not (eqb (get_or roles i 0) 0)

-- A token notes an entry.
pub data Notes (index : List ℕ → ℕ) (ts : List Token) (roles widths : List ℕ) : ℕ → Entry → Type 0 where
  declaring : {t : ℕ} {k : Kind} {v : Variable} → get_or roles t 0 ≡ role_of k → Declares ts widths t v
      → Notes index ts roles widths t (variable k v)
  driving : {t : ℕ} {d : Driven} → get_or roles t 0 ≡ 4 → Drives index ts t d → Notes index ts roles widths t (target d)
  running : {t : ℕ} {s : Stmt Expr} → get_or roles t 0 ≡ 5 → Runs index ts t s → Notes index ts roles widths t (thread s)

unfoldable pub FromEntries : Type 0
FromEntries = (index : List ℕ → ℕ) (ts : List Token) (ps : List Part) (roles widths : List ℕ)
    → Along (Notes index ts roles widths) (chosen (is_noted roles) (length ts) 0) (entries ps) → Noted index ts ps roles widths
