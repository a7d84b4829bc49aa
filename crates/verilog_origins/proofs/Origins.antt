-- Laws of the search for an item, by the token that a loop has come to. Assumes nothing.
use mathlib.Core.Path.{◌≡◌, ap, ◌∙◌}
use mathlib.Core.List.{List}
use Prim.Native.Nat.{ℕ, suc, ◌+◌, ◌-◌, ◌≤◌, ◌<◌}
use native.Mathlib.Nat.{sub-zero}
use native.Mathlib.Omega.{arith}
use borrow.Author.Tests.{lt-ltb, le-ltb}
use lib.ListN.{get_or}
use Rattle.writing.specs.Buffer.{Text, filled, puts}
use Rattle.verilog_scan.specs.Scan.{Scanned}
use Rattle.verilog_exprs.specs.declared.Put.{Put}
use Rattle.verilog_exprs.specs.Rows.{row_at, wrote}
use Rattle.verilog_names.specs.Chosen.{capped}
use Rattle.verilog_names.specs.Numbers.{numbered}
use Rattle.verilog_names.specs.Head.{head_of}
use Rattle.verilog_names.specs.Order.{target_of}
use Rattle.verilog_items.specs.Notes.{notes}
use Rattle.verilog_items.specs.Items.{read_in}
use Rattle.verilog_read.specs.Read.{wire_at, thread_at, notes_in, numbers_in}
use Rattle.verilog_labels.specs.Labels.{told, labels}
use Rattle.verilog_origins.specs.Origins.{zeros, Reached, at, first_past, declared, token_after, token_in, place_by, place_in, names_by}
use Rattle.verilog_origins.specs.Origins.{names_from, short, count_of, origin_with, origin_of}

-- ---- first_past

module _ (step : ℕ → Text → Text) (place : ℕ) where
  pub past_all : (n m : ℕ) (t : Text) → n ≡ m → first_past step place (n - 0) 0 t ≡ first_past step place m 0 t
  past_all n m t e = rw (sub-zero, e)

  pub past-hit : (n i : ℕ) (t u : Text) (whole : Reached) → i < n → u ≡ step i t → place < u.at
      → first_past step place (n - i) i t ≡ whole → at i u ≡ whole
  unfolding first_past
  past-hit n i t u whole h e l f =
      let k : n - i ≡ suc (n - (i + 1)) = omega arith in
      let g : place < (step i t).at = rw e at l in
      ap (at i) e ∙ rw (k, lt-ltb place (step i t).at g) at f

  pub past-turn : (n i : ℕ) (t u : Text) (whole : Reached) → i < n → u ≡ step i t → u.at ≤ place
      → first_past step place (n - i) i t ≡ whole → first_past step place (n - (i + 1)) (i + 1) u ≡ whole
  unfolding first_past
  past-turn n i t u whole h e l f =
      let k : n - i ≡ suc (n - (i + 1)) = omega arith in
      let g : (step i t).at ≤ place = rw e at l in
      ap (first_past step place (n - (i + 1)) (i + 1)) e ∙ rw (k, le-ltb place (step i t).at g) at f

  pub past-over : (n i : ℕ) (t : Text) (whole : Reached) → n ≤ i → first_past step place (n - i) i t ≡ whole → at i t ≡ whole
  unfolding first_past
  past-over n i t whole h f = let k : n - i ≡ 0 = omega arith in rw k at f

-- ---- tokens and places

module _ (ks ids table roles : List ℕ) (count place : ℕ) (t : Text) {h : Reached}
    (e : h ≡ first_past (wire_at ks ids table roles count) place (capped count) 0 t) {n : ℕ} (d : n ≡ capped count)
  where
    pub token-wire : h.token < n → {x m : ℕ} → x ≡ row_at ids h.token → m ≡ count → {r : ℕ} → r ≡ target_of ids roles (capped m) x
        → r ≡ token_in ks ids table roles count t place
    unfolding token_in token_after
    token-wire l p q g =
        let k : h.token < capped count = rw d at l in
        rw (← e, lt-ltb h.token (capped count) k) (rw (p, q) at g)

    pub token-thread : n ≤ h.token → {g : Reached} → g ≡ first_past (thread_at ks table roles count) place (capped count) 0 h.text
        → g.token ≡ token_in ks ids table roles count t place
    unfolding token_in token_after
    token-thread l p =
        let k : capped count ≤ h.token = rw d at l in
        rw (← e, le-ltb h.token (capped count) k) (ap (λ (x : Reached). x.token) p)

module _ (text ks ids places table : List ℕ) (count place : ℕ) {p : Put} {bs roles widths : List ℕ}
    (g : notes (wrote p bs) roles widths ≡ read_in ks table count (zeros 65536) (zeros 16385) (zeros 16385)) {m head : ℕ} {bytes : List ℕ}
    (q : m ≡ count) (e : filled bytes head ≡ puts (filled (zeros 65536) 0) (head_of roles widths (capped m)))
  where
    head-is : filled bytes head ≡ puts (filled (zeros 65536) 0) (head_of roles widths (capped count))
    head-is = rw q at e

    pub place-head : place < head → {r : ℕ} → r ≡ declared text place → r ≡ place_in text ks ids places table count place
    unfolding place_in place_by notes_in
    place-head l d = rw (← g, ← head-is, lt-ltb place head l) d

    pub place-body : head ≤ place → {t r : ℕ} → t ≡ token_in ks ids table roles count (filled bytes head) place → r ≡ row_at places t
        → r ≡ place_in text ks ids places table count place
    unfolding place_in place_by notes_in
    place-body l w x = rw (← g, ← head-is, le-ltb place head l) (rw w at x)

-- ---- origin

pub names-whole : (ks ids : List ℕ) (count : ℕ) (old : List ℕ) {m n : ℕ} {first new bs rs ws : List ℕ} {p : Put} → m ≡ count
    → first ≡ numbered ks ids (zeros 16385) (capped m) (zeros 16385)
    → notes (wrote p bs) rs ws ≡ read_in ks first count (zeros 65536) (zeros 16385) (zeros 16385)
    → n ≡ count → new ≡ numbered ks ids rs (capped n) old → new ≡ names_from ks ids count old
unfolding names_from names_by notes_in numbers_in
names-whole ks ids count old e f g d h = rw (← (rw e at f), ← g) (rw d at h)

pub origin-whole : (text : List ℕ) (place : ℕ) {ks ns ps table : List ℕ} {n m : ℕ}
    → Scanned text (zeros 16385) ks (zeros 16385) ns (zeros 16385) ps n → m ≡ short n → table ≡ names_from ks ns m (zeros 16385)
    → {r : ℕ} → r ≡ place_in text ks ns ps table m place → r ≡ origin_of text place
unfolding origin_of origin_with count_of
origin-whole text place s e g h =
    rw (← s.kinds-scanned, ← s.numbers-scanned, ← s.places-scanned, ← s.counted, ← e, ← g) h

-- ---- in the head

pub declared-low : (text : List ℕ) (n : ℕ) → n < 4 → 0 ≡ declared text n
unfolding declared
declared-low text n h = rw (lt-ltb n 4 h)

pub declared-high : (text : List ℕ) (n : ℕ) → 4 ≤ n → 84 ≤ n → 0 ≡ declared text n
unfolding declared
declared-high text n h l = rw (le-ltb n 4 h, le-ltb n 84 l)

pub declared-is : (text : List ℕ) (n : ℕ) → 4 ≤ n → n < 84 → {a : ℕ} {ps ls : List ℕ} → told a ps ls ≡ labels text (zeros 80) (zeros 80)
    → {r : ℕ} → r ≡ get_or ps (n - 4) 0 → r ≡ declared text n
unfolding declared
declared-is text n h l e p = rw (le-ltb n 4 h, lt-ltb n 84 l, ← e) p
