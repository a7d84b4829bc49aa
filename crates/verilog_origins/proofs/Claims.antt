-- The walk by which `origin` finds an item is the writing of the sheet. Assumes nothing.
use mathlib.Core.Path.{◌≡◌, refl, sym, ap, ◌∙◌}
use mathlib.Core.Logic.{◌≢◌}
use mathlib.Core.Bool.{Bool, true, false}
use mathlib.Core.List.{List}
use Prim.Native.Nat.{ℕ, zero, suc, ◌+◌, ◌≤◌, ◌<◌}
use native.Mathlib.Omega.{arith}
use borrow.Author.Tests.{lt-ltb, le-ltb, ltb-true, ltb-false, eq-eqb}
use lib.Dec.{ltb}
use lib.ListN.{length}
use Rattle.writing.specs.Buffer.{Text}
use Rattle.verilog_names.specs.Chosen.{capped}
use Rattle.verilog_exprs.specs.Rows.{row_at}
use Rattle.verilog_source.specs.Compiled.{Compiled, refused, compiled}
use Rattle.verilog_scan.specs.Scan.{overlong}
use Rattle.verilog_names.specs.Faults.{fault_of}
use Rattle.verilog_names.specs.Order.{target_of}
use Rattle.verilog_items.specs.Notes.{Notes}
use Rattle.verilog_read.specs.Read as Read
use Rattle.verilog_read.specs.Read.{each, wire_at, thread_at, sheet_in, held_in, judged_in, notes_in, sheet_bytes, sheeted_in, numbers_in}
use Rattle.verilog_read.specs.Read.{fault_in, named_in, noted, derived_in, scanned_in, read_text}
use Rattle.verilog_read.specs.Claims.{ReadsText}
use Rattle.verilog_read.proofs.Compiled.{reads-text}
use Rattle.verilog_origins.specs.Origins as Own
use Rattle.verilog_origins.specs.Origins.{zeros, Reached, at, first_past, declared, token_after, token_in, place_by, place_in, names_by}
use Rattle.verilog_origins.specs.Origins.{names_from, count_of, origin_with, origin_of}
use Rattle.verilog_origins.specs.Claims.{ks_of, ids_of, places_of, table_of, notes_of, head_text, sheet_text, wires_to, threads_to}
use Rattle.verilog_origins.specs.Claims.{Origin, in_head, by-wire, by-thread, OriginsFound, SameSheet}

-- ---- the first token by which a place is passed

module _ (step : ℕ → Text → Text) (place : ℕ) where
  -- Token i + j is the one; or n tokens come to no more than the place.
  data Walked (n i : ℕ) (t : Text) : Type 0 where
    hit : (j : ℕ) → j < n → (first_past step place n i t).token ≡ i + j → (each step j i t).at ≤ place
        → place < (each step (suc j) i t).at → Walked n i t
    missed : first_past step place n i t ≡ at (i + n) (each step n i t) → (each step n i t).at ≤ place → Walked n i t

  walked : (n i : ℕ) (t : Text) → t.at ≤ place → Walked n i t
  unfolding first_past each
  walked zero i t h = missed (ap (λ k. at k t) {x = i} {y = i + 0} (omega arith)) h
  walked (suc n) i t h = by (ltb place (step i t).at) refl (walked n (i + 1) (step i t))
    where
      by : (b : Bool) → ltb place (step i t).at ≡ b → ((step i t).at ≤ place → Walked n (i + 1) (step i t)) → Walked (suc n) i t
      by true e go =
          let l = ltb-true place (step i t).at e in
          hit 0 (omega arith) (rw e (omega arith)) h l
      by false e go = next (go (ltb-false place (step i t).at e))
        where
          next : Walked n (i + 1) (step i t) → Walked (suc n) i t
          next (hit j l d p q) =
              let k : (i + 1) + j ≡ i + suc j = omega arith in
              hit (suc j) (omega arith) (rw e (d ∙ k)) p q
          next (missed d p) =
              let k : (i + 1) + n ≡ i + suc n = omega arith in
              missed (rw e (d ∙ ap (λ m. at m (each step n (i + 1) (step i t))) k)) p

-- ---- the three cases

module _ (text : List ℕ) (place : ℕ) (h : place < (sheet_text text).at) where
  abbrev n : ℕ
  n = capped (count_of text)

  abbrev wires : ℕ → Text → Text
  wires = wire_at (ks_of text) (ids_of text) (table_of text) (notes_of text).roles (count_of text)

  abbrev threads : ℕ → Text → Text
  threads = thread_at (ks_of text) (table_of text) (notes_of text).roles (count_of text)

  below : (head_text text).at ≤ place
      → origin_of text place
      ≡ row_at (places_of text) (token_in (ks_of text) (ids_of text) (table_of text) (notes_of text).roles (count_of text) (head_text text) place)
  unfolding origin_of origin_with place_in place_by table_of notes_of head_text
  below l = rw (le-ltb place _ l)

  abbrev token : ℕ
  token = token_in (ks_of text) (ids_of text) (table_of text) (notes_of text).roles (count_of text) (head_text text) place

  thread-token : first_past wires place n 0 (head_text text) ≡ at (0 + n) (wires_to text n) → (j : ℕ)
      → (first_past threads place n 0 (wires_to text n)).token ≡ 0 + j → token ≡ j
  unfolding token_in token_after
  thread-token e j d = rw (e, le-ltb (0 + n) n (omega arith)) (d ∙ (omega arith))

  wire-token : (j : ℕ) → j < n → (first_past wires place n 0 (head_text text)).token ≡ 0 + j
      → token ≡ target_of (ids_of text) (notes_of text).roles n (row_at (ids_of text) j)
  unfolding token_in token_after
  wire-token j k d =
      let e : (first_past wires place n 0 (head_text text)).token ≡ j = d ∙ (omega arith) in
      rw (e, lt-ltb j n k)

  in-threads : (head_text text).at ≤ place → first_past wires place n 0 (head_text text) ≡ at (0 + n) (wires_to text n)
      → Walked threads place n 0 (wires_to text n) → Origin text place
  unfolding threads_to sheet_text sheet_in wires_to head_text
  in-threads l e (hit j k d p q) = by-thread j k p q (below l ∙ ap (row_at (places_of text)) (thread-token e j d))
  in-threads l e (missed d p) =
      let g : place < (each threads n 0 (wires_to text n)).at = h in
      absurd (omega arith)

  in_body : (head_text text).at ≤ place → Walked wires place n 0 (head_text text) → Origin text place
  unfolding wires_to
  in_body l (hit j k d p q) = by-wire j k p q (below l ∙ ap (row_at (places_of text)) (wire-token j k d))
  in_body l (missed d p) = in-threads l d (walked threads place n 0 (wires_to text n) p)

  above : place < (head_text text).at → origin_of text place ≡ declared text place
  unfolding origin_of origin_with place_in place_by table_of notes_of head_text
  above l = rw (lt-ltb place _ l)

  found : Origin text place
  found = by (ltb place (head_text text).at) refl
    where
      by : (b : Bool) → ltb place (head_text text).at ≡ b → Origin text place
      by true e = let l = ltb-true place (head_text text).at e in in_head l (above l)
      by false e = let l = ltb-false place (head_text text).at e in in_body l (walked wires place n 0 (head_text text) l)

pub origins-found : OriginsFound
unfolding OriginsFound
origins-found text place h = found text place h

-- ---- the sheet that is judged

module _ (ks ids places : List ℕ) (count : ℕ) (lent : List ℕ) (s : Notes) where
  abbrev whole : Compiled
  whole = noted ks ids places count s lent

  abbrev told : Bool
  told = (fault_of ks ids places s.roles (capped count)).found

  judged-so : whole.answer.number ≢ 42 → whole.answer.number ≢ 43
      → whole ≡ sheeted_in ks ids count (numbers_in ks ids count s.roles) lent
  unfolding noted named_in fault_in refused
  judged-so x y = by s.text.put.ok refl told refl x y
    where
      by : (b : Bool) → s.text.put.ok ≡ b → (c : Bool) → told ≡ c → whole.answer.number ≢ 42 → whole.answer.number ≢ 43
          → whole ≡ sheeted_in ks ids count (numbers_in ks ids count s.roles) lent
      by false e c f x y = absurd (x (rw e))
      by true e true f x y = absurd (y (rw (e, f)))
      by true e false f x y = rw (e, f)

module _ (text lent : List ℕ) (room : length lent ≡ 8192) (few : length text ≤ 16384) where
  abbrev first_notes : Notes
  first_notes = notes_in (ks_of text) (count_of text) (numbers_in (ks_of text) (ids_of text) (count_of text) (zeros 16385))

  fits : overlong text ≡ false
  unfolding overlong
  fits = le-ltb 16384 (length text) few

  noted-first : compiled text lent ≡ noted (ks_of text) (ids_of text) (places_of text) (count_of text) first_notes lent
  unfolding ReadsText read_text scanned_in derived_in count_of Own.short Read.short
  noted-first =
      sym (reads-text text lent) ∙ rw (eq-eqb (length lent) 8192 room, le-ltb 16384 (length text) few, fits)

  sheeted-so : sheeted_in (ks_of text) (ids_of text) (count_of text) (numbers_in (ks_of text) (ids_of text) (count_of text) first_notes.roles) lent
      ≡ judged_in (held_in (sheet_text text)) lent
  unfolding sheeted_in sheet_bytes sheet_text notes_of table_of names_from names_by numbers_in
  sheeted-so = refl

pub same-sheet : SameSheet
unfolding SameSheet
same-sheet text lent room few x y =
    let e = noted-first text lent room few in
    e ∙ judged-so _ _ _ _ _ _ (rw e at x) (rw e at y) ∙ sheeted-so text lent room few
