-- Laws of the table: numbers in decimal by their digits, and that the columns stand under their titles.
-- Assumes nothing.
use mathlib.Core.Path.{◌≡◌, refl, sym, ap, ◌∙◌}
use mathlib.Core.Logic.{◌≢◌}
use mathlib.Core.Bool.{Bool, true, false, ◌||◌}
use mathlib.Core.List.{List, [], ◌∷◌, ◌++◌}
use Prim.Native.Nat.{ℕ, zero, suc, ◌+◌, ◌-◌, ◌/◌, ◌%◌, ◌^◌, ◌≤◌, ◌<◌}
use native.Mathlib.Nat.{pow-suc}
use native.Mathlib.Numerals.{add-one}
use native.Mathlib.Omega.{arith}
use borrow.Author.Tests.{lt-ltb, le-ltb, ltb-true, ltb-false, eqb-false}
use lib.Dec.{ltb, eqb}
use lib.ListN.{length, get_or, drop, replicate, length-append, length-replicate, drop_of_length-le}
use lib.Seq.{drop-cons}
use Rattle.values.specs.declared.Value.{Value}
use Rattle.values.specs.Values.{pick, ones, all_unknown, fits}
use Rattle.values.specs.Planes.{number_of, marks_of}
use Rattle.values.proofs.Values.{fits-is}
use Rattle.writing.specs.Ascii.{ascii, byte}
use Rattle.writing.specs.Numbers.{digit, digits, decimal}
use Rattle.writing.specs.Buffer.{Text, puts}
use Rattle.writing.proofs.Buffer.{puts-nil, puts-append}
use Rattle.writing.proofs.Numbers.{decimal-less, decimal-more}
use Rattle.naming.specs.Naming.{name_of}
use Rattle.tabulate.specs.declared.Form.{Form}
use Rattle.binary_text.specs.BinaryText.{bits, bits_of, is_known, is_x}
use Rattle.binary_text.proofs.BinaryText.{length-bits, length-bits-of}
use Rattle.tabulate.specs.Tabulate.{figure, figures, numbered, lead, shown, longer, places, column_width}
use Rattle.tabulate.specs.Tabulate.{gap, cell, title, entry, columns}

-- ---- longer

pub longer-second : (a b : ℕ) → a < b → longer a b ≡ b
unfolding longer
longer-second a b h = rw (lt-ltb a b h)

pub longer-first : (a b : ℕ) → b ≤ a → longer a b ≡ a
unfolding longer
longer-first a b h = rw (le-ltb a b h)

longer-≥ : (a b : ℕ) → (a ≤ longer a b) × (b ≤ longer a b)
unfolding longer
longer-≥ a b = by (ltb a b) refl
  where
    by : (x : Bool) → ltb a b ≡ x → (a ≤ pick x b a) × (b ≤ pick x b a)
    by true q = let h = ltb-true a b q in (omega arith, omega arith)
    by false q = let h = ltb-false a b q in (omega arith, omega arith)

longer-suc : (v : ℕ) → longer 1 (suc v) ≡ suc v
longer-suc zero = longer-first 1 1 (omega arith)
longer-suc (suc v) = longer-second 1 (suc (suc v)) (omega arith)

-- ---- how many digits

pub digits_last : (n : ℕ) → n < 10 → length (decimal n) ≡ 1
digits_last n h = rw (decimal-less n h)

pub digits-next : (n : ℕ) → 10 ≤ n → n < 2 ^ 64 → length (decimal n) ≡ length (decimal (n / 10)) + 1
digits-next n h l = rw (decimal-more n h l) (length-append (decimal (n / 10)) (digit (n % 10) ∷ []))

digits-none : (n : ℕ) → length (digits 0 n) ≡ 0
unfolding digits
digits-none n = refl

digits-short : (f n : ℕ) → n < 10 → length (digits (suc f) n) ≡ 1
unfolding digits
digits-short f n h = rw (lt-ltb n 10 h)

digits_long : (f n : ℕ) → 10 ≤ n → length (digits (suc f) n) ≡ length (digits f (n / 10)) + 1
unfolding digits
digits_long f n h = rw (le-ltb n 10 h) (length-append (digits f (n / 10)) (digit (n % 10) ∷ []))

digits-some : (f n : ℕ) → 1 ≤ length (digits (suc f) n)
unfolding digits
digits-some f n = by (ltb n 10)
  where
    by : (x : Bool) → 1 ≤ length (pick x (digit n ∷ []) (digits f (n / 10) ++ (digit (n % 10) ∷ [])))
    by true = omega arith
    by false = rw length-append (omega arith)

digits-mono : (f m n : ℕ) → m ≤ n → length (digits f m) ≤ length (digits f n)
digits-mono zero m n h = omega (arith, digits-none m)
digits-mono (suc f) m n h = by (ltb m 10) refl (ltb n 10) refl (digits-mono f (m / 10) (n / 10) (omega arith))
  where
    by : (x : Bool) → ltb m 10 ≡ x → (y : Bool) → ltb n 10 ≡ y
        → length (digits f (m / 10)) ≤ length (digits f (n / 10))
        → length (digits (suc f) m) ≤ length (digits (suc f) n)
    by true p y q rest = let l = digits-short f m (ltb-true m 10 p) in omega (arith, digits-some f n)
    by false p true q rest =
        let k = ltb-false m 10 p in
        let l = ltb-true n 10 q in
        absurd (omega arith)
    by false p false q rest =
        let k = digits_long f m (ltb-false m 10 p) in
        let l = digits_long f n (ltb-false n 10 q) in
        omega arith

pub decimal-mono : (m n : ℕ) → m ≤ n → length (decimal m) ≤ length (decimal n)
unfolding decimal
decimal-mono m n h = digits-mono 20 m n h

decimal-some : (n : ℕ) → 1 ≤ length (decimal n)
unfolding decimal
decimal-some n = digits-some 19 n

-- ---- figures

module _ (k n : ℕ) where
  pub figures-none : k ≡ 0 → figures k n ≡ []
  unfolding figures
  figures-none e = rw e refl

  pub figures-more : k ≢ 0 → figures k n ≡ figures (k - 1) (n / 16) ++ (figure (n % 16) ∷ [])
  unfolding figures
  figures-more h = by k refl
    where
      by : (j : ℕ) → k ≡ j → figures j n ≡ figures (j - 1) (n / 16) ++ (figure (n % 16) ∷ [])
      by zero e = absurd (h e)
      by (suc j) e = let z : suc j - 1 ≡ j = omega arith in rw z refl

pub length-figures : (k n : ℕ) → length (figures k n) ≡ k
unfolding figures
length-figures zero n = refl
length-figures (suc k) n =
    length-append (figures k (n / 16)) (figure (n % 16) ∷ []) ∙ rw (length-figures k (n / 16)) (omega arith)

pub figure-digit : (n : ℕ) → n < 10 → figure n ≡ 48 + n
unfolding figure
figure-digit n h = rw (lt-ltb n 10 h)

pub figure-letter : (n : ℕ) → 10 ≤ n → figure n ≡ 87 + n
unfolding figure
figure-letter n h = rw (le-ltb n 10 h)

-- ---- columns: one put, and the rest to come

pub columns-next : (column : ℕ → List ℕ) (t u : Text) (vs : List ℕ) (i : ℕ) → i < length vs → u ≡ puts t (column (get_or vs i 0))
    → puts u (columns column (drop (i + 1) vs)) ≡ puts t (columns column (drop i vs))
unfolding columns
columns-next column t u vs i h e =
    rw (add-one, drop-cons vs i 0 h)
    (ap (λ x. puts x (columns column (drop (suc i) vs))) e
    ∙ sym (puts-append t (column (get_or vs i 0)) (columns column (drop (suc i) vs))))

pub columns-done : (column : ℕ → List ℕ) (t : Text) (vs : List ℕ) (i : ℕ) → length vs ≤ i → puts t (columns column (drop i vs)) ≡ t
unfolding columns
columns-done column t vs i h = rw (drop_of_length-le vs h) (puts-nil t)

-- ---- cell: a text that fits fills its places

pub length-cell : (n : ℕ) (t : List ℕ) → length t ≤ n → length (cell false n t) ≡ n + 2
unfolding cell gap ascii
length-cell n t h =
    length-append (byte " " ∷ byte " " ∷ replicate (n - length t) (byte " ")) t
    ∙ rw (length-replicate (n - length t) (byte " ")) (omega arith)

-- ---- column_width: no name and no value that fits is longer

pub name-fits : (base : ℕ) (widths names : List ℕ) (v : ℕ) → length (name_of names v) ≤ column_width base widths names v
unfolding column_width
name-fits base widths names v = (longer-≥ (length (name_of names v)) (places base (get_or widths v 0))).0

below-ones : (w n : ℕ) → w ≤ 32 → n < 2 ^ w → n ≤ ones w
unfolding ones
below-ones w n h l = by (ltb w 32) refl
  where
    by : (x : Bool) → ltb w 32 ≡ x → n ≤ pick x (2 ^ w - 1) (2 ^ 32 - 1)
    by true q = omega arith
    by false q =
        let k = ltb-false w 32 q in
        let e : w ≡ 32 = omega arith in
        let g = rw e at l in
        omega (arith, g)

-- A number that fits.
numbered-fits : (base w n : ℕ) → w ≤ 32 → n < 2 ^ w → length (numbered base w n) ≤ places base w
unfolding numbered places
numbered-fits base w n h l = by (eqb base 16) (eqb base 2)
  where
    by : (x y : Bool) → length (pick x (figures ((w + 3) / 4) n) (pick y (bits w n 0) (decimal n)))
        ≤ pick x (longer 1 ((w + 3) / 4)) (pick y (longer 1 w) (length (decimal (ones w))))
    by true y = omega (arith, length-figures ((w + 3) / 4) n, (longer-≥ 1 ((w + 3) / 4)).1)
    by false true = omega (arith, length-bits w n 0, (longer-≥ 1 w).1)
    by false false = decimal-mono n (ones w) (below-ones w n h l)

places-some : (base w : ℕ) → 1 ≤ places base w
unfolding places
places-some base w = by (eqb base 16) (eqb base 2)
  where
    by : (x y : Bool) → 1 ≤ pick x (longer 1 ((w + 3) / 4)) (pick y (longer 1 w) (length (decimal (ones w))))
    by true y = (longer-≥ 1 ((w + 3) / 4)).0
    by false true = (longer-≥ 1 w).0
    by false false = decimal-some (ones w)

-- Known as a whole, or unknown as a whole.
abbrev pub Whole : ℕ → Value → Type 0
Whole w a = (is_known a || is_x w a) ≡ true

shown-fits : (base w : ℕ) (a : Value) → w ≤ 32 → fits w a ≡ true → Whole w a → length (shown base w a) ≤ places base w
unfolding shown number_of
shown-fits base w a h f e = by (is_known a) (is_x w a) e
  where
    by : (x y : Bool) → (x || y) ≡ true
        → length (pick x (numbered base w a.number) (pick y (byte "x" ∷ []) (lead base ++ bits_of w a))) ≤ places base w
    by true y e = numbered-fits base w a.number h (fits-is {w = w} {a = a} f).number
    by false true e = places-some base w
    by false false e = let z : ◌≡◌ {A = ℕ} 0 1 = cc e in absurd (omega arith)

pub value-fits : (base : ℕ) (widths names : List ℕ) (a : Value) (v : ℕ) → get_or widths v 0 ≤ 32 → fits (get_or widths v 0) a ≡ true
    → Whole (get_or widths v 0) a → length (shown base (get_or widths v 0) a) ≤ column_width base widths names v
unfolding column_width
value-fits base widths names a v h f e =
    let l = shown-fits base (get_or widths v 0) a h f e in
    let k = (longer-≥ (length (name_of names v)) (places base (get_or widths v 0))).1 in
    omega arith

-- ---- columns of equal lengths

length-columns : (f g : ℕ → List ℕ) (vs : List ℕ) → ((u : ℕ) → length (f u) ≡ length (g u)) → length (columns f vs) ≡ length (columns g vs)
unfolding columns
length-columns f g [] same = refl
length-columns f g (v ∷ vs) same =
    length-append (f v) (columns f vs) ∙ rw (same v, length-columns f g vs same) (sym (length-append (g v) (columns g vs)))

-- In a table without commas values that are known or unknown as a whole are as long as the titles: every column stands under its title,
-- in every base.
pub columns-align : (form : Form) (widths names : List ℕ) (new : ℕ → Value) (vs : List ℕ) → form.csv ≡ false
    → ((v : ℕ) → get_or widths v 0 ≤ 32) → ((v : ℕ) → fits (get_or widths v 0) (new v) ≡ true) → ((v : ℕ) → Whole (get_or widths v 0) (new v))
    → length (columns (entry form widths names new) vs) ≡ length (columns (title form widths names) vs)
unfolding title entry
columns-align form widths names new vs plain most fit whole =
    length-columns (λ v. cell form.csv (column_width form.base widths names v) (shown form.base (get_or widths v 0) (new v)))
    (λ v. cell form.csv (column_width form.base widths names v) (name_of names v)) vs
    (λ v. rw plain (length-cell (column_width form.base widths names v) (shown form.base (get_or widths v 0) (new v))
    (value-fits form.base widths names (new v) v (most v) (fit v) (whole v))
    ∙ sym (length-cell (column_width form.base widths names v) (name_of names v) (name-fits form.base widths names v))))
