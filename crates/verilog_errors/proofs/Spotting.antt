-- Laws of spots and of parts of a text, by the place that a loop has come to. Assumes nothing.
use mathlib.Core.Path.{◌≡◌, refl, sym, ap, ◌∙◌}
use mathlib.Core.Bool.{Bool, true, false}
use mathlib.Core.List.{List, [], ◌∷◌, ◌++◌, map}
use Prim.Native.Nat.{ℕ, zero, suc, ◌+◌, ◌-◌, ◌≤◌, ◌<◌}
use native.Mathlib.Numerals.{add-one}
use native.Mathlib.Omega.{arith}
use lib.ListN.{length, get_or, take, drop, drop_of_length-le}
use lib.Seq.{drop-cons, take-nil}
use Rattle.writing.specs.Ascii.{ascii}
use Rattle.writing.specs.Buffer.{Text, puts}
use Rattle.writing.proofs.Buffer.{puts-nil, puts-append, both}
use Rattle.stimulus.specs.Waiting.{line_end}
use Rattle.verilog_errors.specs.declared.Spot.{Spot}
use Rattle.verilog_errors.specs.Spots.{stepped, spot_from, spot_of, part, sign_of, before, line_words}

-- ---- spot_from

module _ (text : List ℕ) (i n : ℕ) (s : Spot) where
  pub spot-over : n ≡ 0 → spot_from n (drop i text) s ≡ s
  unfolding spot_from
  spot-over h = rw h

  pub spot_past : length text ≤ i → spot_from n (drop i text) s ≡ s
  unfolding spot_from
  spot_past h = rw (drop_of_length-le text h) (by n)
    where
      by : (k : ℕ) → spot_from k [] s ≡ s
      by zero = refl
      by (suc k) = refl

  pub spot-step : i < length text → (n ≡ 0 → ⊥) → (t : Spot) → t ≡ stepped s (get_or text i 0)
      → spot_from (n - 1) (drop (i + 1) text) t ≡ spot_from n (drop i text) s
  unfolding spot_from
  spot-step h z t e = by (n - 1) (omega arith)
    where
      by : (m : ℕ) → n ≡ suc m → spot_from m (drop (i + 1) text) t ≡ spot_from n (drop i text) s
      by m k = rw (k, add-one, drop-cons text i 0 h, e)

-- ---- part

module _ (text : List ℕ) (i n : ℕ) where
  pub part_none : n ≡ 0 → part text i n ≡ []
  unfolding part
  part_none h = rw h

  pub part-past : length text ≤ i → part text i n ≡ []
  unfolding part
  part-past h = rw (drop_of_length-le text h) (take-nil n)

  pub part_step : i < length text → (n ≡ 0 → ⊥) → part text i n ≡ get_or text i 0 ∷ part text (i + 1) (n - 1)
  unfolding part
  part_step h z = by (n - 1) (omega arith)
    where
      by : (m : ℕ) → n ≡ suc m → take n (drop i text) ≡ get_or text i 0 ∷ take m (drop (i + 1) text)
      by m k = rw (k, add-one, drop-cons text i 0 h)

-- Put so, one by one: b is what each is shown as.
module _ (f : ℕ → ℕ) (text : List ℕ) (i n : ℕ) (t : Text) where
  pub shown-none : n ≡ 0 → t ≡ puts t (map f (part text i n))
  shown-none h = rw (part_none text i n h) (sym (puts-nil t))

  pub shown-past : length text ≤ i → t ≡ puts t (map f (part text i n))
  shown-past h = rw (part-past text i n h) (sym (puts-nil t))

  pub shown-step : i < length text → (n ≡ 0 → ⊥) → (u : Text) (b : ℕ) → b ≡ f (get_or text i 0) → u ≡ puts t (b ∷ [])
      → puts u (map f (part text (i + 1) (n - 1))) ≡ puts t (map f (part text i n))
  shown-step h z u b e p =
      rw (p, e, part_step text i n h z) (sym (puts-append t (f (get_or text i 0) ∷ []) (map f (part text (i + 1) (n - 1)))))

-- ---- line_words

pub line-whole : (t : Text) (text : List ℕ) (place : ℕ) {s : Spot} {b start end n : ℕ} {u v w x y : Text}
    → s ≡ spot_of text place → b ≡ s.column - 1 → start ≡ place - b → end ≡ line_end text place (length text) → n ≡ end - start
    → u ≡ puts t (ascii "    ") → v ≡ puts u (map (sign_of false) (part text start n)) → w ≡ puts v (ascii "\n    ")
    → x ≡ puts w (map (sign_of true) (part text start b)) → y ≡ puts x (ascii "^\n") → y ≡ puts t (line_words text place)
unfolding line_words before
line-whole t text place e-s e-b e-start e-end e-n p q r a d =
    both _ _ _ _ _
    (both _ _ _ _ _ (both _ _ _ _ _ (both _ _ _ _ _ p (rw (e-n, e-end, e-start, e-b, e-s) at q)) r) (rw (e-start, e-b, e-s) at a)) d
