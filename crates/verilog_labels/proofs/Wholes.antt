-- Laws of what is made of the tables, by the tests of the code. Assumes nothing.
use mathlib.Core.Path.{◌≡◌, sym, ap}
use mathlib.Core.Bool.{true, false}
use mathlib.Core.List.{List}
use Prim.Native.Nat.{ℕ, ◌≤◌}
use borrow.Author.Tests.{le-ltb}
use lib.Dec.{ltb}
use lib.ListN.{length}
use Rattle.verilog_scan.specs.Scan.{overlong, Scanned}
use Rattle.verilog_exprs.specs.declared.Put.{Put}
use Rattle.verilog_exprs.specs.Rows.{wrote}
use Rattle.verilog_names.specs.declared.Fault.{Fault}
use Rattle.verilog_names.specs.Chosen.{capped}
use Rattle.verilog_names.specs.Faults.{fault_of}
use Rattle.verilog_names.specs.Numbers.{ordered, numbered}
use Rattle.verilog_items.specs.Notes.{notes}
use Rattle.verilog_items.specs.Items.{read_in}
use Rattle.verilog_labels.specs.Labels.{Labels, told}
use Rattle.verilog_labels.specs.Steps.{zeros, laid, places_at, lengths_at, rows_in, fault_in, noted_in, derived_in, few, scanned_in}

module _ (text ks ids begun : List ℕ) (count : ℕ) (places lengths roles : List ℕ) {n : ℕ} (d : n ≡ count) {f : Fault}
    (e : f ≡ fault_of ks ids begun roles (capped n))
  where
    abbrev Faulted : Labels
    Faulted = fault_in text ks ids begun count places lengths roles (fault_of ks ids begun roles (capped count))

    pub fault-no : f.found ≡ true → told 43 places lengths ≡ Faulted
    unfolding fault_in
    fault-no h = rw (← d, ← e, h)

    pub fault-yes : f.found ≡ false → {ps ls : List ℕ} → ps ≡ laid (zeros 80) 0 (places_at begun (ordered roles (capped n)))
        → ls ≡ laid (zeros 80) 0 (lengths_at text begun (ordered roles (capped n))) → told 0 ps ls ≡ Faulted
    unfolding fault_in rows_in
    fault-yes h p l = rw (← d, ← e, h, p, l)

module _ (text ks ids begun : List ℕ) (count : ℕ) (places lengths : List ℕ) {n : ℕ} (d : n ≡ count) {table : List ℕ}
    (t : table ≡ numbered ks ids (zeros 16385) (capped n) (zeros 16385)) {q : Put} {bs rs ws : List ℕ}
    (e : notes (wrote q bs) rs ws ≡ read_in ks table count (zeros 65536) (zeros 16385) (zeros 16385))
  where
    pub derived-no : q.ok ≡ false → told 42 places lengths ≡ derived_in text ks ids begun count places lengths
    unfolding derived_in noted_in
    derived-no h = rw (ap (λ m. numbered ks ids (zeros 16385) (capped m) (zeros 16385)) (sym d), ← t, ← e, h)

    pub derived-yes : q.ok ≡ true → {r : Labels}
        → r ≡ fault_in text ks ids begun count places lengths rs (fault_of ks ids begun rs (capped count))
        → r ≡ derived_in text ks ids begun count places lengths
    unfolding derived_in noted_in
    derived-yes h g = rw (ap (λ m. numbered ks ids (zeros 16385) (capped m) (zeros 16385)) (sym d), ← t, ← e, h) g

pub scanned-whole : (text places lengths : List ℕ) → length text ≤ 16384 → {ks ns bs : List ℕ} {n m : ℕ}
    → Scanned text (zeros 16385) ks (zeros 16385) ns (zeros 16385) bs n → m ≡ few n
    → {r : Labels} → r ≡ derived_in text ks ns bs m places lengths → r ≡ scanned_in text places lengths
unfolding scanned_in overlong
scanned-whole text places lengths h s e g =
    let o : ltb 16384 (length text) ≡ false = le-ltb 16384 (length text) h in
    rw (e, rw o at s.kinds-scanned, rw o at s.numbers-scanned, rw o at s.places-scanned, rw o at s.counted) at g
