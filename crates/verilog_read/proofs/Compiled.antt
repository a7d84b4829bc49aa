-- A text is read as `verilog_source` says. Assumes nothing.
use mathlib.Core.Path.{◌≡◌, refl, sym, ◌∙◌, ap}
use mathlib.Core.Bool.{Bool, true, false}
use mathlib.Core.List.{List, [], ◌∷◌, ◌++◌, append-nil}
use Prim.Native.Nat.{ℕ, ◌+◌, ◌-◌, ◌<◌, ◌≤◌}
use native.Mathlib.Omega.{arith}
use borrow.Author.Tests.{ltb-true, ltb-false, lt-leb, le-leb, leb-true, leb-false, eqb-true}
use lib.Dec.{ltb, leb, eqb}
use lib.ListN.{length, take, replicate, length-replicate, drop_of_length-le}
use lib.Seq.{sets, take-length}
use Rattle.values.specs.Values.{pick}
use Rattle.sheet.specs.Reading as Sheet
use Rattle.sheet.specs.Expression.{located}
use Rattle.sheet.specs.Module.{read}
use Rattle.sheet.proofs.Closed.{sheet-long}
use Rattle.sheet.proofs.Trees.{map_res, read-located}
use Rattle.writing.specs.Buffer.{filled}
use Rattle.verilog_tokens.specs.Tokens.{Token, Name, tokens}
use Rattle.verilog_tokens.specs.Table.{kinds, numbers}
use Rattle.verilog_grammar.specs.Meaning.{Part, Source}
use Rattle.verilog_grammar.specs.Reader.{Res, ok, no, read_module}
use Rattle.verilog_source.specs.Names.{number_of, faults}
use Rattle.verilog_source.specs.Written.{written}
use Rattle.verilog_source.specs.Compiled as Source
use Rattle.verilog_source.specs.Compiled.{Compiled, refused, unnumbered, parts_of, sheet_of, judged, named, derived, lent_right, compiled}
use Rattle.verilog_scan.specs.Scan.{stored, overwritten, starts}
use Rattle.verilog_scan.proofs.Filling.{stored-front}
use Rattle.verilog_bytes.specs.Held.{Held}
use Rattle.verilog_exprs.specs.Following.{Tabled}
use Rattle.verilog_names.specs.Chosen.{capped}
use Rattle.verilog_names.specs.Faults.{fault_of}
use Rattle.verilog_names.specs.Numbers.{numbered}
use Rattle.verilog_names.specs.Tables.{Scanned, Noted}
use Rattle.verilog_names.specs.Claims.{fault_by, SameFaults}
use Rattle.verilog_names.proofs.Chosen.{capped-below}
use Rattle.verilog_names.proofs.Claims.{same-faults}
use Rattle.verilog_items.specs.Notes.{Notes}
use Rattle.verilog_items.specs.Following.{Said, ModulesFollow}
use Rattle.verilog_items.proofs.Claims.{modules-follow}
use Rattle.verilog_read.specs.Read.{padded, judged_in, roomed, held_in, zeros, notes_in, sheet_bytes, sheeted_in, numbers_in}
use Rattle.verilog_read.specs.Read.{fault_in, named_in, noted, derived_in, short, scanned_in, read_text}
use Rattle.verilog_read.specs.Claims.{ReadsText}
use Rattle.verilog_read.proofs.Judging.{padded-all, judged-is}
use Rattle.verilog_read.proofs.Turns.{roomed-below, roomed-above, short-below}
use Rattle.verilog_read.proofs.Renumbered.{Again, read_again}
use Rattle.verilog_read.proofs.Texts.{number_small, none-numbered, zero-at, none-noted, count-few}
use Rattle.verilog_read.proofs.Texts.{text-scanned, text-tabled, spot-at}
use Rattle.verilog_read.proofs.Sheets.{sheet-held}

length-zeros : (n : ℕ) → length (zeros n) ≡ n
length-zeros n = length-replicate n 0

-- ---- what the buffer holds, judged

-- A table with all of a list's bytes is that list.
whole-held : (n : ℕ) (z bs : List ℕ) → length z ≡ n → length bs ≡ n → sets z 0 (padded bs n 0) ≡ bs
unfolding stored overwritten
whole-held n z bs h k =
    let none : n - length bs ≡ 0 = omega arith in
    let all : padded bs n 0 ≡ bs = padded-all bs n (omega arith) ∙ ap (λ m. bs ++ replicate m 0) none ∙ append-nil bs in
    ap (sets z 0) all
    ∙ stored-front bs z (omega arith)
    ∙ ap (λ l. bs ++ l) (drop_of_length-le z {i = length bs} (omega arith))
    ∙ append-nil bs

held-front : (bs : List ℕ) (p : ℕ) → length bs ≡ 65536 → held_in (filled bs p) ≡ take (roomed p) bs
unfolding held_in
held-front bs p h = ap (take (roomed p)) (whole-held 65536 (zeros 65536) bs (length-zeros 65536) h)

-- A list over 8,192 bytes is no sheet, whatever it holds.
long-judged : (s lent : List ℕ) → 8192 < length s → judged lent s (read s) ≡ refused 1 8192 lent
unfolding map_res judged
long-judged s lent h = rw (read-located s, sheet-long s h)

pub held-judged : (bs : List ℕ) (p : ℕ) (l lent : List ℕ) → Held bs p l → length lent ≡ 8192
    → judged_in (held_in (filled bs p)) lent ≡ judged lent l (read l)
held-judged bs p l lent h k =
    ap (λ s. judged_in s lent) (held-front bs p h.room)
    ∙ judged-is (take (roomed p) bs) lent k
    ∙ by (leb (length l) 65536) refl
  where
    roomed-few : p ≤ 65536 → roomed p ≡ p
    roomed-few k = to (ltb p 65536) refl
      where
        to : (b : Bool) → ltb p 65536 ≡ b → roomed p ≡ p
        to true e = sym (roomed-below p (ltb-true p 65536 e)).0
        to false e = let f = ltb-false p 65536 e in sym (roomed-above p f).0 ∙ (omega arith)

    by : (b : Bool) → leb (length l) 65536 ≡ b → judged lent (take (roomed p) bs) (read (take (roomed p) bs)) ≡ judged lent l (read l)
    by true e =
        let few = leb-true (length l) 65536 e in
        let at : p ≡ length l = omega (arith, h.place) in
        let most : roomed p ≡ length l = roomed-few (omega arith) ∙ at in
        ap (λ s. judged lent s (read s)) (ap (λ n. take n bs) most ∙ h.front few)
    by false e =
        let many = leb-false (length l) 65536 e in
        let at : p ≡ 65536 = omega (arith, h.place) in
        let all : roomed p ≡ length bs = roomed-few (omega arith) ∙ at ∙ sym h.room in
        let same : take (roomed p) bs ≡ bs = ap (λ n. take n bs) all ∙ take-length bs in
        ap (λ s. judged lent s (read s)) same
        ∙ long-judged bs lent (omega (arith, h.room)) ∙ sym (long-judged l lent (omega arith))

-- ---- the tables of a text

module _ (text lent : List ℕ) (h : length text ≤ 16384) (room : length lent ≡ 8192) where
  abbrev ts : List Token
  ts = tokens text

  abbrev ks : List ℕ
  ks = stored (kinds text) (zeros 16385)

  abbrev ids : List ℕ
  ids = stored (numbers text) (zeros 16385)

  abbrev qs : List ℕ
  qs = stored (starts text) (zeros 16385)

  scanned : Scanned ts ks ids qs
  scanned =
      text-scanned text (zeros 16385) (zeros 16385) (zeros 16385) h (length-zeros 16385) (length-zeros 16385)
      (length-zeros 16385)

  capped_is : capped (length ts) ≡ length ts
  capped_is = sym (capped-below (length ts) (omega (arith, count-few text h)))

  -- The numbers that parts give, as a table.
  tabled : (index : List ℕ → ℕ) (ps : List Part) (roles widths : List ℕ) → Noted index ts ps roles widths
      → Tabled (number_of ps) ts ks (numbers_in ks ids (length ts) roles)
  unfolding numbers_in
  tabled index ps roles widths nt =
      rw capped_is
      (text-tabled text (zeros 16385) (zeros 16385) (zeros 16385) h (length-zeros 16385) (length-zeros 16385)
      (length-zeros 16385) index ps roles widths (zeros 16385) nt (length-zeros 16385))

  -- The module, read over such a table.
  said : (ps : List Part) (table : List ℕ) → Tabled (number_of ps) ts ks table
      → Said (number_of ps) ts (notes_in ks (length ts) table) (read_module (number_of ps) ts)
  unfolding notes_in ModulesFollow
  said ps table tab =
      modules-follow (number_of ps) ts ks table tab (number_small ps) (zeros 65536) (zeros 16385) (zeros 16385) (length-zeros 65536)
      (length-zeros 16385) (length-zeros 16385) (zero-at 16385)

  -- ---- the sheet

  module _ (s : Source) (rest : List Token) (e : read_module unnumbered ts ≡ ok s rest) (right : faults ts s.parts ≡ [])
      (table : List ℕ) (tab : Tabled (number_of s.parts) ts ks table) where
    abbrev index : List ℕ → ℕ
    index = number_of s.parts

    again : Again index ts s.parts
    again = read_again unnumbered index ts s rest e

    sheet-is : sheet_of ts s.parts ≡ written again.source.parts
    unfolding sheet_of parts_of
    sheet-is = ap (λ r. written (parts_of r)) again.reads

    second : Noted index ts again.source.parts (notes_in ks (length ts) table).roles (notes_in ks (length ts) table).widths
    unfolding Said
    second = (rw again.reads at (said s.parts table tab)).1

    sheeted : sheeted_in ks ids (length ts) table lent ≡ judged lent (sheet_of ts s.parts) (read (sheet_of ts s.parts))
    unfolding sheeted_in sheet_bytes
    sheeted =
        held-judged _ _ (written again.source.parts) lent
        (sheet-held index ts again.source.parts ks ids qs table (notes_in ks (length ts) table).roles
        (notes_in ks (length ts) table).widths scanned second tab (number_small s.parts) (again.faulty ∙ right)
        (zeros 65536) (length-zeros 65536))
        room
        ∙ ap (λ x. judged lent x (read x)) (sym sheet-is)

  -- ---- 43

  module _ (s : Source) (rest : List Token) (e : read_module unnumbered ts ≡ ok s rest) (roles widths : List ℕ)
      (nt : Noted unnumbered ts s.parts roles widths) where
    fault-is : fault_of ks ids qs roles (capped (length ts)) ≡ fault_by (faults ts s.parts)
    unfolding SameFaults
    fault-is = rw capped_is (same-faults unnumbered ts s.parts ks ids qs roles widths scanned nt)

    faulted : (fs : List Name) → faults ts s.parts ≡ fs
        → fault_in ks ids qs (length ts) roles (fault_by fs) lent ≡ named lent ts s.parts fs
    unfolding fault_in fault_by named
    faulted [] f = sheeted s rest e f (numbers_in ks ids (length ts) roles) (tabled unnumbered s.parts roles widths nt)
    faulted (n ∷ ns) f = refl

    named-is : named_in ks ids qs (length ts) roles lent ≡ named lent ts s.parts (faults ts s.parts)
    unfolding named_in
    named-is = rw fault-is (faulted (faults ts s.parts) refl)

  -- ---- 42

  first : Said unnumbered ts (notes_in ks (length ts) (numbers_in ks ids (length ts) (zeros 16385))) (read_module unnumbered ts)
  first =
      rw none-numbered at
      (said [] (numbers_in ks ids (length ts) (zeros 16385))
      (tabled unnumbered [] (zeros 16385) (zeros 16385) (none-noted unnumbered ts 16385 (zeros 16385))))

  noted-is : (x : Notes) (r : Res Source) → read_module unnumbered ts ≡ r → Said unnumbered ts x r
      → noted ks ids qs (length ts) x lent ≡ derived text lent r
  unfolding noted derived Said
  noted-is x (ok s rest) e d = rw d.0 (named-is s rest e x.roles x.widths d.1)
  noted-is x (no n) e d =
      rw d.not (ap (λ p. refused 42 p lent) (spot-at text (zeros 16385) x.text.put.next n h (length-zeros 16385) d.at))

  pub scanned-is : scanned_in text lent ≡ derived text lent (read_module unnumbered ts)
  unfolding scanned_in derived_in
  scanned-is =
      rw (← short-below (length ts) (omega (arith, count-few text h)))
      (noted-is (notes_in ks (length ts) (numbers_in ks ids (length ts) (zeros 16385))) (read_module unnumbered ts) refl first)

-- ---- 23, 41

pub reads-text : ReadsText
unfolding ReadsText read_text compiled lent_right Source.short
reads-text text lent = by (eqb (length lent) 8192) refl (ltb 16384 (length text)) refl
  where
    by : (b : Bool) → eqb (length lent) 8192 ≡ b → (c : Bool) → ltb 16384 (length text) ≡ c
        → pick b (pick c (refused 41 16384) (scanned_in text)) (refused 23 0) lent ≡ lent_right text lent b
    by false e c f = refl
    by true e true f = rw (lt-leb (length text) 16384 (ltb-true 16384 (length text) f))
    by true e false f =
        let l = ltb-false 16384 (length text) f in
        rw (le-leb (length text) 16384 l) (scanned-is text lent l (eqb-true (length lent) 8192 e))

-- What equals the one equals the other.
pub as-compiled : (text lent : List ℕ) {c : Compiled} → c ≡ read_text text lent → c ≡ compiled text lent
unfolding ReadsText
as-compiled text lent e = e ∙ reads-text text lent
