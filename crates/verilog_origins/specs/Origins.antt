-- Which item of a Verilog text a byte of its sheet was written from. The sheet is written as `verilog_read` writes it: the head, each
-- wire's expression, each thread's statement.
use Rattle.std.specs.Prelude.{List, ℕ, zero, suc, ◌+◌, ◌-◌, ltb, length, get_or, replicate}
use Rattle.values.specs.Values.{pick}
use Rattle.writing.specs.Buffer.{Text, filled, puts}
use Rattle.verilog_tokens.specs.Tokens.{tokens}
use Rattle.verilog_tokens.specs.Table.{kinds, numbers}
use Rattle.verilog_scan.specs.Scan.{stored, starts, overlong}
use Rattle.verilog_exprs.specs.Rows.{row_at}
use Rattle.verilog_names.specs.Chosen.{capped}
use Rattle.verilog_names.specs.Numbers.{numbered}
use Rattle.verilog_names.specs.Head.{head_of}
use Rattle.verilog_names.specs.Order.{target_of}
use Rattle.verilog_items.specs.Notes.{Notes}
use Rattle.verilog_labels.specs.Labels.{labels}
use Rattle.verilog_read.specs.Read.{wire_at, thread_at, notes_in, numbers_in}
use Rattle.verilog_origins.specs.declared.Hit.{Hit}

abbrev pub zeros : ℕ → List ℕ
zeros n = replicate n 0

-- ---- the first of n tokens, from token i on, by whose bytes the sheet comes past a place

pub record Reached : Type 0 where
  pub token : ℕ
  pub text : Text

abbrev pub at : ℕ → Text → Reached
at i t = record { token = i; text = t }

abbrev pub reached : Hit → List ℕ → Reached
reached h bytes = at h.token (filled bytes h.pos)

unfoldable pub first_past : (ℕ → Text → Text) → ℕ → ℕ → ℕ → Text → Reached
first_past step place zero i t = at i t
first_past step place (suc n) i t =
    pick (ltb place (step i t).at) (at i (step i t)) (first_past step place n (i + 1) (step i t))

-- ---- in the head: 80 widths at most stand behind the four counts

unfoldable pub declared : List ℕ → ℕ → ℕ
declared text n = pick (ltb n 4) 0 (pick (ltb n 84) (get_or (labels text (zeros 80) (zeros 80)).places (n - 4) 0) 0)

-- ---- behind the head: the target of a wire's `assign`, or the word `always` of a thread

module _ (ks ids table roles : List ℕ) (count : ℕ) where
  unfoldable pub token_after : ℕ → Reached → ℕ
  token_after place h =
      pick (ltb h.token (capped count)) (target_of ids roles (capped count) (row_at ids h.token))
      (first_past (thread_at ks table roles count) place (capped count) 0 h.text).token

  -- From the text that ends with the head.
  unfoldable pub token_in : Text → ℕ → ℕ
  token_in t place = token_after place (first_past (wire_at ks ids table roles count) place (capped count) 0 t)

-- With the names' numbers, and what is noted while the module is read over them.
unfoldable pub place_by : List ℕ → List ℕ → List ℕ → List ℕ → List ℕ → ℕ → ℕ → Notes → ℕ
place_by text ks ids places table count place s =
    let head = puts (filled (zeros 65536) 0) (head_of s.roles s.widths (capped count)) in
    pick (ltb place head.at) (declared text place) (row_at places (token_in ks ids table s.roles count head place))

unfoldable pub place_in : List ℕ → List ℕ → List ℕ → List ℕ → List ℕ → ℕ → ℕ → ℕ
place_in text ks ids places table count place = place_by text ks ids places table count place (notes_in ks count table)

-- ---- the names' numbers as `verilog_read` has them: what declares them is read while each name has the number 0

unfoldable pub names_by : List ℕ → List ℕ → ℕ → List ℕ → Notes → List ℕ
names_by ks ids count table s = numbered ks ids s.roles (capped count) table

unfoldable pub names_from : List ℕ → List ℕ → ℕ → List ℕ → List ℕ
names_from ks ids count table = names_by ks ids count table (notes_in ks count (numbers_in ks ids count (zeros 16385)))

-- ---- of a text: its tables

unfoldable pub short : ℕ → ℕ
short n = pick (ltb n 65536) n 65535

abbrev pub table : List ℕ → List ℕ → List ℕ
table text rows = pick (overlong text) (zeros 16385) (stored rows (zeros 16385))

unfoldable pub count_of : List ℕ → ℕ
count_of text = short (pick (overlong text) 0 (length (tokens text)))

unfoldable pub origin_with : List ℕ → ℕ → List ℕ → List ℕ → List ℕ → ℕ → ℕ
origin_with text place ks ids places count = place_in text ks ids places (names_from ks ids count (zeros 16385)) count place

unfoldable pub origin_of : List ℕ → ℕ → ℕ
origin_of text place =
    origin_with text place (table text (kinds text)) (table text (numbers text)) (table text (starts text)) (count_of text)
