-- For a reviewer: the walk by which `origin` finds an item is the writing of the sheet that is judged. proofs/Claims shows it.
use Rattle.std.specs.Prelude.{◌≡◌, ◌≢◌, List, ℕ, suc, ◌≤◌, ◌<◌, length}
use Rattle.writing.specs.Buffer.{Text, filled, puts}
use Rattle.verilog_tokens.specs.Table.{kinds, numbers}
use Rattle.verilog_scan.specs.Scan.{starts}
use Rattle.verilog_source.specs.Compiled.{compiled}
use Rattle.verilog_exprs.specs.Rows.{row_at}
use Rattle.verilog_names.specs.Chosen.{capped}
use Rattle.verilog_names.specs.Head.{head_of}
use Rattle.verilog_names.specs.Order.{target_of}
use Rattle.verilog_items.specs.Notes.{Notes}
use Rattle.verilog_read.specs.Read.{each, wire_at, thread_at, sheet_in, held_in, judged_in, notes_in}
use Rattle.verilog_origins.specs.Origins.{zeros, table, count_of, names_from, declared, origin_of}

-- ---- a text's tables, and what `verilog_read` makes of them

abbrev pub ks_of : List ℕ → List ℕ
ks_of text = table text (kinds text)

abbrev pub ids_of : List ℕ → List ℕ
ids_of text = table text (numbers text)

abbrev pub places_of : List ℕ → List ℕ
places_of text = table text (starts text)

-- The numbers of the names.
unfoldable pub table_of : List ℕ → List ℕ
table_of text = names_from (ks_of text) (ids_of text) (count_of text) (zeros 16385)

unfoldable pub notes_of : List ℕ → Notes
notes_of text = notes_in (ks_of text) (count_of text) (table_of text)

-- The head, and the sheet.
unfoldable pub head_text : List ℕ → Text
head_text text = puts (filled (zeros 65536) 0) (head_of (notes_of text).roles (notes_of text).widths (capped (count_of text)))

unfoldable pub sheet_text : List ℕ → Text
sheet_text text =
    sheet_in (ks_of text) (ids_of text) (table_of text) (notes_of text).roles (notes_of text).widths (count_of text) (zeros 65536)

-- A text that isn't refused before has this sheet judged: its numbers, 1 to 11, and their places are those of `sheet_text`.
unfoldable pub SameSheet : Type 0
SameSheet = (text lent : List ℕ) → length lent ≡ 8192 → length text ≤ 16384 → (compiled text lent).answer.number ≢ 42
    → (compiled text lent).answer.number ≢ 43 → compiled text lent ≡ judged_in (held_in (sheet_text text)) lent

-- ---- the item that a byte was written from

-- The first k tokens' wires behind the head; the first k tokens' threads behind all wires.
unfoldable pub wires_to : List ℕ → ℕ → Text
wires_to text k =
    each (wire_at (ks_of text) (ids_of text) (table_of text) (notes_of text).roles (count_of text)) k 0 (head_text text)

unfoldable pub threads_to : List ℕ → ℕ → Text
threads_to text k =
    each (thread_at (ks_of text) (table_of text) (notes_of text).roles (count_of text)) k 0 (wires_to text (capped (count_of text)))

-- A place lies in the head; or between the positions before and behind a wire's expression, and then it is the place of its `assign`
-- that is answered; or between those before and behind a thread's statement, and then that of its `always`.
pub data Origin (text : List ℕ) (place : ℕ) : Type 0 where
  in_head : place < (head_text text).at → origin_of text place ≡ declared text place → Origin text place
  by-wire : (k : ℕ) → k < capped (count_of text) → (wires_to text k).at ≤ place → place < (wires_to text (suc k)).at
      → origin_of text place
      ≡ row_at (places_of text) (target_of (ids_of text) (notes_of text).roles (capped (count_of text)) (row_at (ids_of text) k))
      → Origin text place
  by-thread : (k : ℕ) → k < capped (count_of text) → (threads_to text k).at ≤ place → place < (threads_to text (suc k)).at
      → origin_of text place ≡ row_at (places_of text) k → Origin text place

unfoldable pub OriginsFound : Type 0
OriginsFound = (text : List ℕ) (place : ℕ) → place < (sheet_text text).at → Origin text place
