-- How the module's reader on the tables stands to the grammar's reader of tokens: they take and refuse together, at the same token, and
-- what is read is noted.
use Rattle.std.specs.Prelude.{◌≡◌, true, false, List, [], ℕ, ◌<◌, ◌≤◌, length, get_or}
use Rattle.verilog_tokens.specs.Tokens.{Token}
use Rattle.verilog_grammar.specs.Meaning.{Source}
use Rattle.verilog_grammar.specs.Reader.{Res, ok, no, statement, read_module}
use Rattle.verilog_exprs.specs.Rows.{Wrote, wrote}
use Rattle.verilog_exprs.specs.Following.{Tabled, From, Stopped}
use Rattle.verilog_stmts.specs.Written.{statement_in}
use Rattle.verilog_names.specs.Chosen.{chosen}
use Rattle.verilog_names.specs.Tables.{Along, Noted}
use Rattle.verilog_names.specs.Entries
use Rattle.verilog_names.specs.Entries.{Entry, is_noted}
use Rattle.verilog_items.specs.Notes.{Marks, marks, Notes}
use Rattle.verilog_items.specs.Items.{read_in}

-- Read up to these tokens: the tables note these entries, and nothing of what is left.
pub record Good (index : List ℕ → ℕ) (ts us : List Token) (m : Marks) (es : List Entry) : Type 0 where
  pub yes : m.put.ok ≡ true
  pub to : From ts m.put.next us
  pub room_of_roles : length m.roles ≡ 16385
  pub room_of_widths : length m.widths ≡ 16385
  pub clear : (k : ℕ) → m.put.next ≤ k → get_or m.roles k 0 ≡ 0
  pub along : Along (Entries.Notes index ts m.roles m.widths) (chosen (is_noted m.roles) m.put.next 0) es

-- The same with a buffer of 65,536 bytes.
pub record GoodIn (index : List ℕ → ℕ) (ts us : List Token) (s : Notes) (es : List Entry) : Type 0 where
  pub good : Good index ts us (marks s.text.put s.roles s.widths) es
  pub room : length s.text.bytes ≡ 65536

-- What is noted once something is read.
unfoldable pub Tells : {A : Type 0} → (List ℕ → ℕ) → List Token → (A → List Entry) → Marks → Res A → Type 0
Tells index ts e m (ok a us) = Good index ts us m (e a)
Tells index ts e m (no n) = Stopped ts (wrote m.put []) n

unfoldable pub TellsIn : {A : Type 0} → (List ℕ → ℕ) → List Token → (A → List Entry) → Notes → Res A → Type 0
TellsIn index ts e s (ok a us) = GoodIn index ts us s (e a)
TellsIn index ts e s (no n) = Stopped ts s.text n

-- ---- expressions and statements: whether they are read, and where they end

pub record Reached (ts us : List Token) (w : Wrote) : Type 0 where
  pub yes : w.put.ok ≡ true
  pub to : From ts w.put.next us
  pub room : length w.bytes ≡ 65536

unfoldable pub Ends : {A : Type 0} → List Token → Wrote → Res A → Type 0
Ends ts w (ok a us) = Reached ts us w
Ends ts w (no n) = Stopped ts w n

-- What is asked of statements.
unfoldable pub StatementsEnd : (List ℕ → ℕ) → List Token → List ℕ → List ℕ → Type 0
StatementsEnd index ts ks ns = (w : Wrote) (us : List Token) → Reached ts us w → w.put.pos ≡ 0
    → Ends ts (statement_in ks ns (length ts) (length us) w) (statement index (length us) us)

-- ---- a module

-- Where it is read, all that its parts have is noted; where it is refused, as many tokens are left.
unfoldable pub Said : (List ℕ → ℕ) → List Token → Notes → Res Source → Type 0
Said index ts s (ok m us) = (s.text.put.ok ≡ true) × Noted index ts m.parts s.roles s.widths
Said index ts s (no n) = Stopped ts s.text n

unfoldable pub ModulesRead : Type 0
ModulesRead = (index numbered : List ℕ → ℕ) (ts : List Token) (ks ns : List ℕ) → Tabled numbered ts ks ns → StatementsEnd index ts ks ns
    → (bs rs ws : List ℕ) → length bs ≡ 65536 → length rs ≡ 16385 → length ws ≡ 16385 → ((k : ℕ) → get_or rs k 0 ≡ 0)
    → Said index ts (read_in ks ns (length ts) bs rs ws) (read_module index ts)

-- Over tables whose names' numbers are bytes nothing is asked of statements.
unfoldable pub ModulesFollow : Type 0
ModulesFollow = (index : List ℕ → ℕ) (ts : List Token) (ks ns : List ℕ) → Tabled index ts ks ns → ((s : List ℕ) → index s < 256)
    → (bs rs ws : List ℕ) → length bs ≡ 65536 → length rs ≡ 16385 → length ws ≡ 16385 → ((k : ℕ) → get_or rs k 0 ≡ 0)
    → Said index ts (read_in ks ns (length ts) bs rs ws) (read_module index ts)
