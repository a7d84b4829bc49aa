-- Which name of a text a byte of its sheet comes before, within the item that it was written from. The sheet is written again with other
-- numbers in the names' places (part 0: 0, part 1: 1), so that a name's byte is one that differs; then with the lower (part 2) and the
-- upper part (part 3) of the name's own token, of which there are fewer than 16,385.
use Rattle.std.specs.Prelude.{List, [], ◌∷◌, ℕ, zero, suc, ◌+◌, ◌-◌, ◌*◌, ◌/◌, ◌%◌, ltb, eqb, get_or}
use Rattle.std.proofs.lemmas.List.Edits.{sets}
use Rattle.values.specs.Values.{pick, ◌is◌then◌else◌}
use Rattle.writing.specs.Buffer.{filled, puts}
use Rattle.verilog_tokens.specs.Table.{kinds, numbers}
use Rattle.verilog_scan.specs.Scan.{starts}
use Rattle.verilog_exprs.specs.Rows.{row_at}
use Rattle.verilog_names.specs.Chosen.{capped}
use Rattle.verilog_names.specs.Head.{head_of}
use Rattle.verilog_items.specs.Notes.{Notes}
use Rattle.verilog_read.specs.Read.{wire_at, thread_at, notes_in}
use Rattle.verilog_origins.specs.Origins.{zeros, Reached, first_past, table, count_of, names_from, origin_of}

-- ---- the numbers with parts of tokens in the names' (kind 64) places

unfoldable pub part_of : ℕ → ℕ → ℕ
part_of part t = part is 0 then 0 else part is 1 then 1 else part is 2 then t % 128 else t / 128

unfoldable pub mark_at : List ℕ → List ℕ → ℕ → ℕ → ℕ
mark_at ks ns part i = pick (eqb (get_or ks i 0) 64) (part_of part i) (get_or ns i 0)

-- n of them from token i on.
unfoldable pub marks_from : List ℕ → List ℕ → ℕ → ℕ → ℕ → List ℕ
marks_from ks ns part zero i = []
marks_from ks ns part (suc n) i = mark_at ks ns part i ∷ marks_from ks ns part n (i + 1)

unfoldable pub marks : List ℕ → List ℕ → ℕ → List ℕ → List ℕ
marks ks ns part old = sets old 0 (marks_from ks ns part 16385 0)

-- ---- the sheet over them: no byte of it lies past 65,536

unfoldable pub bytes_in : Reached → List ℕ
bytes_in g = g.text.bytes

unfoldable pub threads_over : List ℕ → List ℕ → List ℕ → ℕ → Reached → List ℕ
threads_over ks marked roles count h = bytes_in (first_past (thread_at ks marked roles count) 65536 (capped count) 0 h.text)

unfoldable pub bytes_over : List ℕ → List ℕ → List ℕ → List ℕ → List ℕ → ℕ → List ℕ → List ℕ
bytes_over ks ids marked roles widths count bytes =
    threads_over ks marked roles count
    (first_past (wire_at ks ids marked roles count) 65536 (capped count) 0 (puts (filled bytes 0) (head_of roles widths (capped count))))

unfoldable pub bytes_with : List ℕ → List ℕ → List ℕ → List ℕ → List ℕ → ℕ → ℕ → List ℕ → List ℕ
bytes_with ks ids ns roles widths count part = bytes_over ks ids (marks ks ns part (zeros 16385)) roles widths count

-- ---- the first byte from a place on that differs; 65,536 where none does

unfoldable pub differing : List ℕ → List ℕ → ℕ → ℕ → ℕ
differing zs os zero i = 65536
differing zs os (suc n) i = pick (eqb (get_or zs i 0) (get_or os i 0)) (differing zs os n (i + 1)) i

unfoldable pub name_byte : List ℕ → List ℕ → ℕ → ℕ
name_byte zs os from = differing zs os (65536 - from) from

unfoldable pub leaf_of : List ℕ → List ℕ → ℕ → ℕ
leaf_of ls hs i = get_or ls i 0 + 128 * get_or hs i 0

-- ---- the name, where it is of the same item

unfoldable pub point_at : List ℕ → List ℕ → ℕ → ℕ → List ℕ → List ℕ → ℕ
point_at text places place i ls hs =
    pick (ltb i 65536)
    (pick (eqb (origin_of text i) (origin_of text place)) (row_at places (leaf_of ls hs i)) (origin_of text place))
    (origin_of text place)

abbrev pub bytes_by : List ℕ → List ℕ → List ℕ → ℕ → Notes → ℕ → List ℕ
bytes_by ks ids ns count s part = bytes_with ks ids ns s.roles s.widths count part (zeros 65536)

unfoldable pub point_by : List ℕ → List ℕ → List ℕ → List ℕ → List ℕ → ℕ → ℕ → Notes → ℕ
point_by text ks ids places ns count place s =
    point_at text places place (name_byte (bytes_by ks ids ns count s 0) (bytes_by ks ids ns count s 1) place) (bytes_by ks ids ns count s 2)
    (bytes_by ks ids ns count s 3)

unfoldable pub point_in : List ℕ → List ℕ → List ℕ → List ℕ → List ℕ → ℕ → ℕ → ℕ
point_in text ks ids places ns count place = point_by text ks ids places ns count place (notes_in ks count ns)

unfoldable pub point_with : List ℕ → ℕ → List ℕ → List ℕ → List ℕ → ℕ → ℕ
point_with text place ks ids places count = point_in text ks ids places (names_from ks ids count (zeros 16385)) count place

unfoldable pub point_of : List ℕ → ℕ → ℕ
point_of text place =
    point_with text place (table text (kinds text)) (table text (numbers text)) (table text (starts text)) (count_of text)
