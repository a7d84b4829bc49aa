-- Laws of the name that a byte of a sheet comes before. Assumes nothing.
use mathlib.Core.Path.{◌≡◌, refl, ap, ◌∙◌}
use mathlib.Core.List.{List, ◌∷◌}
use Prim.Native.Nat.{ℕ, suc, ◌+◌, ◌-◌, ◌*◌, ◌≤◌, ◌<◌}
use native.Mathlib.Nat.{sub-zero}
use native.Mathlib.Numerals.{add-one}
use native.Mathlib.Omega.{arith}
use borrow.Author.Tests.{lt-ltb, le-ltb, eq-eqb, ne_eqb}
use lib.ListN.{get_or, set}
use lib.Seq.{sets}
use Rattle.writing.specs.Buffer.{filled, puts}
use Rattle.verilog_scan.specs.Scan.{Scanned}
use Rattle.verilog_exprs.specs.declared.Put.{Put}
use Rattle.verilog_exprs.specs.Rows.{row_at, wrote}
use Rattle.verilog_names.specs.Chosen.{capped}
use Rattle.verilog_names.specs.Head.{head_of}
use Rattle.verilog_items.specs.Notes.{notes}
use Rattle.verilog_items.specs.Items.{read_in}
use Rattle.verilog_read.specs.Read.{wire_at, thread_at, notes_in}
use Rattle.verilog_origins.specs.Origins.{zeros, Reached, first_past, short, count_of, names_from, origin_of}
use Rattle.verilog_origins.specs.Points.{part_of, mark_at, marks_from, marks, bytes_in, threads_over, bytes_over, bytes_with, differing}
use Rattle.verilog_origins.specs.Points.{name_byte, leaf_of, point_at, point_by, point_in, point_with, point_of}

-- ---- mark_at, marks

module _ (ks ns : List ℕ) (part : ℕ) where
  pub mark-other : (i : ℕ) → (get_or ks i 0 ≡ 64 → ⊥) → get_or ns i 0 ≡ mark_at ks ns part i
  unfolding mark_at
  mark-other i f = rw (ne_eqb _ _ f)

  pub mark-name : (i : ℕ) → get_or ks i 0 ≡ 64 → {t r : ℕ} → t ≡ i → r ≡ part_of part t → r ≡ mark_at ks ns part i
  unfolding mark_at
  mark-name i e d g = rw (eq-eqb _ _ e) (rw d at g)

  marks-step : (i : ℕ) → i < 16385 → marks_from ks ns part (16385 - i) i ≡ mark_at ks ns part i ∷ marks_from ks ns part (16385 - (i + 1)) (i + 1)
  unfolding marks_from
  marks-step i h = let k : 16385 - i ≡ suc (16385 - (i + 1)) = omega arith in rw k

  pub marks-all : (old : List ℕ) → sets old 0 (marks_from ks ns part (16385 - 0) 0) ≡ marks ks ns part old
  unfolding marks
  marks-all old = rw sub-zero

  pub marks-turn : (old new whole : List ℕ) (i v : ℕ) → i < 16385 → v ≡ mark_at ks ns part i → new ≡ set old i v
      → sets old i (marks_from ks ns part (16385 - i) i) ≡ whole
      → sets new (i + 1) (marks_from ks ns part (16385 - (i + 1)) (i + 1)) ≡ whole
  marks-turn old new whole i v h e f g =
      rw (f, e)
      (ap (λ k. sets (set old i (mark_at ks ns part i)) k (marks_from ks ns part (16385 - (i + 1)) (i + 1))) (add-one i)
      ∙ (rw (marks-step i h) at g))

  pub marks-over : (old whole : List ℕ) (i : ℕ) → 16385 ≤ i → sets old i (marks_from ks ns part (16385 - i) i) ≡ whole → old ≡ whole
  unfolding marks_from
  marks-over old whole i h e = let k : 16385 - i ≡ 0 = omega arith in rw k at e

-- ---- bytes_with

pub bytes_whole : (ks ids ns roles widths : List ℕ) (count part : ℕ) (old : List ℕ) {marked bs bytes : List ℕ} {m head : ℕ} {h g : Reached}
    → marked ≡ marks ks ns part (zeros 16385) → m ≡ count → filled bs head ≡ puts (filled old 0) (head_of roles widths (capped m))
    → h ≡ first_past (wire_at ks ids marked roles count) 65536 (capped count) 0 (filled bs head)
    → g ≡ first_past (thread_at ks marked roles count) 65536 (capped count) 0 h.text
    → bytes ≡ bytes_in g → bytes ≡ bytes_with ks ids ns roles widths count part old
unfolding bytes_with bytes_over threads_over
bytes_whole ks ids ns roles widths count part old e d f h g q = rw (← e, ← (rw d at f), ← h, ← g) q

pub bytes-in : (g : Reached) → g.text.bytes ≡ bytes_in g
unfolding bytes_in
bytes-in g = refl

-- ---- name_byte

module _ (zs os : List ℕ) (i : ℕ) where
  pub differs-over : 65536 ≤ i → differing zs os (65536 - i) i ≡ 65536
  unfolding differing
  differs-over h = let k : 65536 - i ≡ 0 = omega arith in rw k

  module _ (h : i < 65536) where
    pub differs-here : (get_or zs i 0 ≡ get_or os i 0 → ⊥) → differing zs os (65536 - i) i ≡ i
    unfolding differing
    differs-here f = let k : 65536 - i ≡ suc (65536 - (i + 1)) = omega arith in rw (k, ne_eqb _ _ f)

    pub differs-on : get_or zs i 0 ≡ get_or os i 0 → differing zs os (65536 - (i + 1)) (i + 1) ≡ differing zs os (65536 - i) i
    unfolding differing
    differs-on e = let k : 65536 - i ≡ suc (65536 - (i + 1)) = omega arith in rw (k, eq-eqb _ _ e)

pub leaf-whole : (ls hs : List ℕ) (i : ℕ) {a b : ℕ} → a ≡ get_or ls i 0 → b ≡ get_or hs i 0 → a + 128 * b ≡ leaf_of ls hs i
unfolding leaf_of
leaf-whole ls hs i p q = rw (p, q)

-- ---- point_in

module _ (text ks ids places ns : List ℕ) (count place : ℕ) {p : Put} {bs roles widths : List ℕ}
    (g : notes (wrote p bs) roles widths ≡ read_in ks ns count (zeros 65536) (zeros 16385) (zeros 16385)) {zs os : List ℕ}
    (e-z : zs ≡ bytes_with ks ids ns roles widths count 0 (zeros 65536)) (e-o : os ≡ bytes_with ks ids ns roles widths count 1 (zeros 65536))
    {item : ℕ} (e-item : item ≡ origin_of text place) {i : ℕ} (e-i : i ≡ name_byte zs os place)
  where
    pub point-none : 65536 ≤ i → item ≡ point_in text ks ids places ns count place
    unfolding point_in point_by point_at notes_in
    point-none h = rw (← g, ← e-z, ← e-o, ← e-i, le-ltb i 65536 h) e-item

    module _ (h : i < 65536) {other : ℕ} (e-other : other ≡ origin_of text i) where
      pub point-other : (other ≡ item → ⊥) → item ≡ point_in text ks ids places ns count place
      unfolding point_in point_by point_at notes_in
      point-other f = rw (← g, ← e-z, ← e-o, ← e-i, lt-ltb i 65536 h, ← e-other, ← e-item, ne_eqb _ _ f)

      pub point-name : other ≡ item → {ls hs : List ℕ} → ls ≡ bytes_with ks ids ns roles widths count 2 (zeros 65536)
          → hs ≡ bytes_with ks ids ns roles widths count 3 (zeros 65536) → {t r : ℕ} → t ≡ leaf_of ls hs i → r ≡ row_at places t
          → r ≡ point_in text ks ids places ns count place
      unfolding point_in point_by point_at notes_in
      point-name f e-l e-h d q =
          rw (← g, ← e-z, ← e-o, ← e-i, lt-ltb i 65536 h, ← e-other, ← e-item, eq-eqb _ _ f, ← e-l, ← e-h) (rw d at q)

pub point-whole : (text : List ℕ) (place : ℕ) {ks ns ps table : List ℕ} {n m : ℕ}
    → Scanned text (zeros 16385) ks (zeros 16385) ns (zeros 16385) ps n → m ≡ short n → table ≡ names_from ks ns m (zeros 16385)
    → {r : ℕ} → r ≡ point_in text ks ns ps table m place → r ≡ point_of text place
unfolding point_of point_with count_of
point-whole text place s e g h =
    rw (← s.kinds-scanned, ← s.numbers-scanned, ← s.places-scanned, ← s.counted, ← e, ← g) h
