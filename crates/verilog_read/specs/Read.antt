-- A text's sheet as the code makes it, from the tables of the text's tokens.
use Rattle.std.specs.Prelude.{true, List, [], ◌∷◌, ℕ, zero, suc, ◌+◌, ltb, eqb, length, get_or, take, replicate}
use Rattle.std.proofs.lemmas.List.Edits.{sets}
use Rattle.values.specs.Values.{pick}
use Rattle.writing.specs.Buffer.{Text, filled, puts}
use Rattle.sheet.specs.declared.SheetRead.{SheetRead}
use Rattle.sheet.specs.Expression.{located}
use Rattle.sheet.specs.Module.{read_sheet}
use Rattle.sheet.specs.Answers.{sheet_answer}
use Rattle.verilog_tokens.specs.Tokens.{tokens}
use Rattle.verilog_tokens.specs.Table.{kinds, numbers}
use Rattle.verilog_scan.specs.Scan.{stored, starts}
use Rattle.verilog_source.specs.declared.TextRead.{TextRead}
use Rattle.verilog_source.specs.Compiled.{Compiled, refused}
use Rattle.verilog_exprs.specs.Rows.{row_at, answer, Wrote, wrote}
use Rattle.verilog_stmts.specs.Steps.{after}
use Rattle.verilog_stmts.specs.Stmts.{value}
use Rattle.verilog_names.specs.declared.Fault.{Fault}
use Rattle.verilog_names.specs.Chosen.{capped, has_role}
use Rattle.verilog_names.specs.Faults.{fault_of}
use Rattle.verilog_names.specs.Numbers.{numbered}
use Rattle.verilog_names.specs.Head.{head_of}
use Rattle.verilog_names.specs.Order.{target_of}
use Rattle.verilog_items.specs.Notes.{Notes}
use Rattle.verilog_items.specs.Items.{statement_from, read_in}

-- An answer, and the lent bytes that it leaves.
abbrev pub gave : TextRead → List ℕ → Compiled
gave a lent = record { answer = a; lent = lent }

-- ---- bytes, token by token

-- What a reader of the tables leaves in the buffer.
abbrev pub text_of : Wrote → Text
text_of w = filled w.bytes w.put.pos

-- n tokens from token i on, one after the other.
unfoldable pub each : (ℕ → Text → Text) → ℕ → ℕ → Text → Text
each step zero i t = t
each step (suc n) i t = each step n (i + 1) (step i t)

abbrev pub stay : Text → Text
stay t = t

module _ (ks table : List ℕ) (count : ℕ) where
  -- The expression two tokens behind a target.
  unfoldable pub value_behind : ℕ → Text → Text
  value_behind i t = text_of (value ks table count (wrote (after (after (answer true i t.at))) t.bytes))

  -- The statement behind the word `always`.
  unfoldable pub statement_behind : ℕ → Text → Text
  statement_behind i t = text_of (statement_from ks table count (wrote (after (answer true i t.at)) t.bytes))

-- A wire's expression is that of its `assign`.
unfoldable pub wire_at : List ℕ → List ℕ → List ℕ → List ℕ → ℕ → ℕ → Text → Text
wire_at ks ids table roles count i =
    pick (has_role roles 3 i) (value_behind ks table count (target_of ids roles (capped count) (get_or ids i 0))) stay

unfoldable pub thread_at : List ℕ → List ℕ → List ℕ → ℕ → ℕ → Text → Text
thread_at ks table roles count i = pick (has_role roles 5 i) (statement_behind ks table count i) stay

-- The head, the wires and the threads, from the buffer's beginning.
unfoldable pub sheet_in : List ℕ → List ℕ → List ℕ → List ℕ → List ℕ → ℕ → List ℕ → Text
sheet_in ks ids table roles widths count bytes =
    each
    (thread_at ks table roles count)
    (capped count)
    0
    (each (wire_at ks ids table roles count) (capped count) 0 (puts (filled bytes 0) (head_of roles widths (capped count))))

-- ---- the sheet judged, and copied

-- n bytes of a list from byte i on, zeros behind its end.
unfoldable pub padded : List ℕ → ℕ → ℕ → List ℕ
padded s zero i = []
padded s (suc n) i = get_or s i 0 ∷ padded s n (i + 1)

unfoldable pub copied : List ℕ → List ℕ → List ℕ
copied s lent = sets lent 0 (padded s (length lent) 0)

unfoldable pub accepted_in : List ℕ → List ℕ → Compiled
accepted_in s lent = gave (record { number = 0; place = 0; length = length s }) (copied s lent)

unfoldable pub answered : List ℕ → SheetRead → List ℕ → Compiled
answered s a = pick (eqb a.number 0) (accepted_in s) (refused a.number a.place)

unfoldable pub judged_in : List ℕ → List ℕ → Compiled
judged_in s = answered s (sheet_answer (read_sheet (located s) s))

-- What the buffer of 65,536 bytes holds up to a position.
unfoldable pub roomed : ℕ → ℕ
roomed n = pick (ltb n 65536) n 65536

unfoldable pub held_in : Text → List ℕ
held_in t = take (roomed t.at) (sets (replicate 65536 0) 0 (padded t.bytes 65536 0))

-- ---- 43, then the sheet

abbrev pub zeros : ℕ → List ℕ
zeros n = replicate n 0

-- The module read over numbers of the names.
unfoldable pub notes_in : List ℕ → ℕ → List ℕ → Notes
notes_in ks count table = read_in ks table count (zeros 65536) (zeros 16385) (zeros 16385)

module _ (ks ids : List ℕ) (count : ℕ) where
  unfoldable pub sheet_bytes : List ℕ → Notes → Text
  sheet_bytes table s = sheet_in ks ids table s.roles s.widths count (zeros 65536)

  unfoldable pub sheeted_in : List ℕ → List ℕ → Compiled
  sheeted_in table = judged_in (held_in (sheet_bytes table (notes_in ks count table)))

  -- The numbers that a module with these roles gives its names.
  unfoldable pub numbers_in : List ℕ → List ℕ
  numbers_in roles = numbered ks ids roles (capped count) (zeros 16385)

module _ (ks ids places : List ℕ) (count : ℕ) where
  unfoldable pub fault_in : List ℕ → Fault → List ℕ → Compiled
  fault_in roles f = pick f.found (refused 43 f.place) (sheeted_in ks ids count (numbers_in ks ids count roles))

  unfoldable pub named_in : List ℕ → List ℕ → Compiled
  named_in roles = fault_in roles (fault_of ks ids places roles (capped count))

  -- ---- 42

  unfoldable pub noted : Notes → List ℕ → Compiled
  noted s = pick s.text.put.ok (named_in s.roles) (refused 42 (row_at places s.text.put.next))

  -- Before anything is declared each name has the number 0.
  unfoldable pub derived_in : List ℕ → Compiled
  derived_in = noted (notes_in ks count (numbers_in ks ids count (zeros 16385)))

-- ---- 23, 41, then the tables

-- A text that is not too long has at most 16,384 tokens.
unfoldable pub short : ℕ → ℕ
short n = pick (ltb n 65536) n 65535

unfoldable pub scanned_in : List ℕ → List ℕ → Compiled
scanned_in text =
    derived_in
    (stored (kinds text) (zeros 16385))
    (stored (numbers text) (zeros 16385))
    (stored (starts text) (zeros 16385))
    (short (length (tokens text)))

unfoldable pub read_text : List ℕ → List ℕ → Compiled
read_text text lent =
    pick (eqb (length lent) 8192) (pick (ltb 16384 (length text)) (refused 41 16384) (scanned_in text)) (refused 23 0) lent
