-- Laws of what is made of the tables, by the tests of the code. Assumes nothing.
use mathlib.Core.Path.{◌≡◌, sym, ◌∙◌, ap}
use mathlib.Core.Bool.{true, false}
use mathlib.Core.List.{List}
use Prim.Native.Nat.{ℕ, ◌<◌, ◌≤◌}
use native.Mathlib.Omega.{arith}
use borrow.Author.Tests.{lt-ltb, le-ltb, eq-eqb, ne_eqb}
use lib.Dec.{ltb, eqb}
use lib.ListN.{length, take, length-replicate}
use lib.Seq.{sets, length-sets, length-take-le}
use Rattle.writing.specs.Buffer.{Text, filled, puts}
use Rattle.sheet.specs.declared.SheetRead.{SheetRead}
use Rattle.sheet.specs.Expression.{located}
use Rattle.sheet.specs.Module.{read_sheet}
use Rattle.sheet.specs.Answers.{sheet_answer}
use Rattle.verilog_scan.specs.Scan.{overlong, Scanned}
use Rattle.verilog_source.specs.declared.TextRead.{TextRead}
use Rattle.verilog_source.specs.Compiled.{refused}
use Rattle.verilog_exprs.specs.declared.Put.{Put}
use Rattle.verilog_exprs.specs.Rows.{row_at, wrote}
use Rattle.verilog_names.specs.declared.Fault.{Fault}
use Rattle.verilog_names.specs.Chosen.{capped}
use Rattle.verilog_names.specs.Faults.{fault_of}
use Rattle.verilog_names.specs.Numbers.{numbered}
use Rattle.verilog_names.specs.Head.{head_of}
use Rattle.verilog_items.specs.Notes.{notes}
use Rattle.verilog_items.specs.Items.{read_in}
use Rattle.verilog_read.specs.Read.{gave, each, wire_at, thread_at, sheet_in, copied, accepted_in, answered, judged_in, roomed, held_in}
use Rattle.verilog_read.specs.Read.{padded, zeros, notes_in, sheet_bytes, sheeted_in, numbers_in, fault_in, named_in}
use Rattle.verilog_read.specs.Read.{noted, derived_in, short, scanned_in, read_text}

-- A refusal.
abbrev pub no : ℕ → ℕ → TextRead
no n p = record { number = n; place = p; length = 0 }

pub write-whole : (ks ids table roles widths : List ℕ) (count : ℕ) (bs : List ℕ) {n : ℕ} {a b c : Text} → n ≡ count
    → a ≡ puts (filled bs 0) (head_of roles widths (capped n))
    → b ≡ each (wire_at ks ids table roles count) (capped count) 0 a
    → c ≡ each (thread_at ks table roles count) (capped count) 0 b
    → c ≡ sheet_in ks ids table roles widths count bs
unfolding sheet_in
write-whole ks ids table roles widths count bs d e f g =
    g
    ∙ ap (each (thread_at ks table roles count) (capped count) 0)
    (f ∙ ap (each (wire_at ks ids table roles count) (capped count) 0) (e ∙ ap (λ k. puts (filled bs 0) (head_of roles widths (capped k))) d))

-- What is held is 65,536 bytes long.
module _ {held : List ℕ} (bs : List ℕ) (e : held ≡ sets (zeros 65536) 0 bs) (k : ℕ) (h : k ≤ 65536) where
  pub held-room : k ≤ length held
  held-room = let l : length held ≡ 65536 = ap length e ∙ simp (length-sets, length-replicate) in omega arith

  pub held-take : k ≡ length (take k held)
  held-take = sym (length-take-le k held held-room)

module _ (s lent : List ℕ) {r : SheetRead} (e : r ≡ sheet_answer (read_sheet (located s) s)) where
  pub judge-no : (r.number ≡ 0 → ⊥) → {a : TextRead} → a ≡ no r.number r.place → gave a lent ≡ judged_in s lent
  unfolding judged_in answered refused
  judge-no h f = rw (← e, ne_eqb r.number 0 h, f)

  pub judge-yes : r.number ≡ 0 → {left : List ℕ} → left ≡ copied s lent
      → gave (record { number = 0; place = 0; length = length s }) left ≡ judged_in s lent
  unfolding judged_in answered accepted_in
  judge-yes h f = rw (← e, eq-eqb r.number 0 h, f)

pub sheeted-whole : (ks ids : List ℕ) (count : ℕ) (table lent : List ℕ) {q : Put} {bs rs ws out held left : List ℕ} {end k : ℕ}
    {a : TextRead} → notes (wrote q bs) rs ws ≡ read_in ks table count (zeros 65536) (zeros 16385) (zeros 16385)
    → filled out end ≡ sheet_in ks ids table rs ws count (zeros 65536)
    → held ≡ sets (zeros 65536) 0 (padded out 65536 0) → k ≡ roomed end
    → gave a left ≡ judged_in (take k held) lent
    → gave a left ≡ sheeted_in ks ids count table lent
unfolding sheeted_in sheet_bytes held_in notes_in
sheeted-whole ks ids count table lent {held = held} {end = end} e w o r j =
    j
    ∙ ap (λ m. judged_in (take m held) lent) r
    ∙ ap (λ l. judged_in (take (roomed end) l) lent) o
    ∙ ap (λ t. judged_in (held_in t) lent) w
    ∙ ap (λ s. judged_in (held_in (sheet_bytes ks ids count table s)) lent) e

module _ (ks ids places : List ℕ) (count : ℕ) (roles lent : List ℕ) {n : ℕ} (d : n ≡ count) {f : Fault}
    (e : f ≡ fault_of ks ids places roles (capped n)) where
  pub named-no : f.found ≡ true → {a : TextRead} → a ≡ no 43 f.place
      → gave a lent ≡ named_in ks ids places count roles lent
  unfolding named_in fault_in refused
  named-no h g = rw (← d, ← e, h, g)

  pub named-yes : f.found ≡ false → {table left : List ℕ} {a : TextRead}
      → table ≡ numbered ks ids roles (capped n) (zeros 16385)
      → gave a left ≡ sheeted_in ks ids count table lent
      → gave a left ≡ named_in ks ids places count roles lent
  unfolding named_in fault_in numbers_in
  named-yes h g j =
      rw (ap (λ m. fault_of ks ids places roles (capped m)) (sym d), ← e, h)
      (j ∙ ap (λ t. sheeted_in ks ids count t lent) (g ∙ ap (λ m. numbered ks ids roles (capped m) (zeros 16385)) d))

module _ (ks ids places : List ℕ) (count : ℕ) (lent : List ℕ) {n : ℕ} (d : n ≡ count) {table : List ℕ}
    (g : table ≡ numbered ks ids (zeros 16385) (capped n) (zeros 16385)) {q : Put} {bs rs ws : List ℕ}
    (e : notes (wrote q bs) rs ws ≡ read_in ks table count (zeros 65536) (zeros 16385) (zeros 16385)) where
  read-notes : notes (wrote q bs) rs ws ≡ notes_in ks count (numbers_in ks ids count (zeros 16385))
  unfolding notes_in numbers_in
  read-notes =
      e ∙ ap (λ t. read_in ks t count (zeros 65536) (zeros 16385) (zeros 16385))
      (g ∙ ap (λ m. numbered ks ids (zeros 16385) (capped m) (zeros 16385)) d)

  pub derived-no : q.ok ≡ false → {a : TextRead} {p : ℕ} → p ≡ row_at places q.next → a ≡ no 42 p
      → gave a lent ≡ derived_in ks ids places count lent
  unfolding derived_in noted refused
  derived-no h f g = rw (← read-notes, h, g, f)

  pub derived-yes : q.ok ≡ true → {a : TextRead} {left : List ℕ} → gave a left ≡ named_in ks ids places count rs lent
      → gave a left ≡ derived_in ks ids places count lent
  unfolding derived_in noted
  derived-yes h g = rw (← read-notes, h) g

pub scanned-whole : (text lent : List ℕ) → length text ≤ 16384 → {ks ns ps : List ℕ} {n m : ℕ}
    → Scanned text (zeros 16385) ks (zeros 16385) ns (zeros 16385) ps n → m ≡ short n
    → {a : TextRead} {left : List ℕ} → gave a left ≡ derived_in ks ns ps m lent → gave a left ≡ scanned_in text lent
unfolding scanned_in overlong
scanned-whole text lent h s e g =
    let o : ltb 16384 (length text) ≡ false = le-ltb 16384 (length text) h in
    rw (e, rw o at s.kinds-scanned, rw o at s.numbers-scanned, rw o at s.places-scanned, rw o at s.counted) at g

module _ (text lent : List ℕ) {a : TextRead} where
  pub text-unlent : (length lent ≡ 8192 → ⊥) → a ≡ no 23 0 → gave a lent ≡ read_text text lent
  unfolding read_text refused
  text-unlent h e = rw (ne_eqb (length lent) 8192 h, e)

  pub text-long : length lent ≡ 8192 → 16384 < length text → a ≡ no 41 16384 → gave a lent ≡ read_text text lent
  unfolding read_text refused
  text-long h l e = rw (eq-eqb (length lent) 8192 h, lt-ltb 16384 (length text) l, e)

  pub text-read : length lent ≡ 8192 → length text ≤ 16384 → {left : List ℕ} → gave a left ≡ scanned_in text lent
      → gave a left ≡ read_text text lent
  unfolding read_text
  text-read h l e = rw (eq-eqb (length lent) 8192 h, le-ltb 16384 (length text) l) e
