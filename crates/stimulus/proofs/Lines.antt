-- Laws of a line's values: each is taken within the line, and a turn of the loop takes one more. Assumes nothing.
use mathlib.Core.Path.{◌≡◌, refl}
use mathlib.Core.Bool.{Bool, true, false, ◌&&◌}
use mathlib.Core.List.{List}
use Prim.Native.Nat.{ℕ, suc, ◌+◌, ◌-◌, ◌<◌, ◌≤◌}
use native.Mathlib.Omega.{arith}
use borrow.Author.Tests.{ltb-true, ltb-false, lt-ltb, le-ltb, eq-eqb, ne_eqb, eqb-true}
use lib.Dec.{ltb, eqb}
use lib.ListN.{length, get_or, set, drop, replicate, get_or-eq_default}
use Rattle.values.specs.declared.Value.{Value}
use Rattle.values.specs.Values.{pick, known, all_unknown, fits}
use Rattle.values.specs.Planes.{number_of as number_in, marks_of}
use Rattle.stimulus.specs.declared.Class.TheVariants.{Blank, Word}
use Rattle.stimulus.specs.declared.Number.{Number}
use Rattle.stimulus.specs.declared.Bits.{Bits}
use Rattle.stimulus.specs.declared.Entry.{Entry}
use Rattle.stimulus.specs.declared.Taken.{Taken}
use Rattle.stimulus.specs.Words.{run_end, ended}
use Rattle.stimulus.specs.Numbers.{number_of, is_x, is_hex, is_bits, is_sized, bits_of}
use Rattle.stimulus.specs.Lines.{entry, admitted, fitted, cut, sized, quoted, quoted_of, entry_of, took, word_at, cell_at, taken}
use Rattle.stimulus.specs.Lines.{slots, surplus, line_with, values_from, values_of, first_place, line_of}
use Rattle.stimulus.proofs.Runs.{run_inside}

-- ---- slots

pub slots-few : (inputs : ℕ) → slots inputs ≤ 16
unfolding slots
slots-few inputs = by (ltb inputs 16) refl
  where
    by : (t : Bool) → ltb inputs 16 ≡ t → slots inputs ≤ 16
    by true e = let h = ltb-true inputs 16 e in rw e (omega arith)
    by false e = rw e (omega arith)

-- ---- admitted, fitted, sized, quoted, entry_of, by row

module _ (w : ℕ) (a : Value) where
  pub admitted-wide : fits w a ≡ false → entry 3 0 0 ≡ admitted w a
  unfolding admitted
  admitted-wide f = rw f

  pub admitted-is : fits w a ≡ true → entry 0 (marks_of a) (number_in a) ≡ admitted w a
  unfolding admitted
  admitted-is f = rw f

module _ (w : ℕ) (a : Number) where
  pub fitted-bad : a.good ≡ false → entry 2 0 0 ≡ fitted w a
  unfolding fitted
  fitted-bad e = rw e

  module _ (e : a.good ≡ true) where
    pub fitted-long : 4294967296 ≤ a.n → entry 3 0 0 ≡ fitted w a
    unfolding fitted
    fitted-long h = rw (e, le-ltb a.n 4294967296 h)

    pub fitted-is : a.n < 4294967296 → admitted w (known a.n) ≡ fitted w a
    unfolding fitted
    fitted-is h = rw (e, lt-ltb a.n 4294967296 h)

module _ (w v k : ℕ) (a : Bits) where
  pub sized-bad : a.good ≡ false → entry 2 0 0 ≡ sized w v k a
  unfolding sized
  sized-bad e = rw e

  module _ (e : a.good ≡ true) where
    pub sized-long : v < k → entry 3 0 0 ≡ sized w v k a
    unfolding sized
    sized-long h = rw (e, lt-ltb v k h)

    pub sized-is : k ≤ v → admitted w (cut v a) ≡ sized w v k a
    unfolding sized
    sized-is h = rw (e, le-ltb v k h)

module _ (w : ℕ) (v : Number) (k : ℕ) (a : Bits) where
  pub quoted-bad : v.good ≡ false → entry 2 0 0 ≡ quoted w v k a
  unfolding quoted
  quoted-bad e = rw e

  module _ (e : v.good ≡ true) where
    pub quoted-wide : 33 ≤ v.n → entry 3 0 0 ≡ quoted w v k a
    unfolding quoted
    quoted-wide h = rw (e, le-ltb v.n 33 h)

    pub quoted-is : v.n < 33 → sized w v.n k a ≡ quoted w v k a
    unfolding quoted
    quoted-is h = rw (e, lt-ltb v.n 33 h)

module _ (w : ℕ) (word : List ℕ) where
  pub entry-x : is_x word ≡ true → entry 0 (marks_of (all_unknown w)) 0 ≡ entry_of w word
  unfolding entry_of
  entry-x e = rw e

  module _ (e : is_x word ≡ false) where
    pub entry-hex : is_hex word ≡ true → fitted w (number_of true (drop 2 word)) ≡ entry_of w word
    unfolding entry_of
    entry-hex f = rw (e, f)

    module _ (f : is_hex word ≡ false) where
      pub entry-bits : is_bits word ≡ true → sized w w (length word - 1) (bits_of (drop 1 word)) ≡ entry_of w word
      unfolding entry_of
      entry-bits g = rw (e, f, g)

      pub entry-sized : is_bits word ≡ false → is_sized word ≡ true → quoted_of w word ≡ entry_of w word
      unfolding entry_of
      entry-sized g h = rw (e, f, g, h)

      pub entry-decimal : is_bits word ≡ false → is_sized word ≡ false → fitted w (number_of false (drop 0 word)) ≡ entry_of w word
      unfolding entry_of
      entry-decimal g h = rw (e, f, g, h)

-- ---- cell_at

-- A byte that is not 0 stands in the list.
inside : (l : List ℕ) (p : ℕ) → get_or l p 0 ≡ 44 → p < length l
inside l p e = by (ltb p (length l)) refl
  where
    by : (t : Bool) → ltb p (length l) ≡ t → p < length l
    by true q = ltb-true p (length l) q
    by false q = let z = get_or-eq_default l 0 (ltb-false p (length l) q) in absurd (omega arith)

module _ (line : List ℕ) (k at p : ℕ) (r : p ≡ run_end Blank line at) where
  pub cell-first : k < 2 → p ≡ cell_at line k at
  unfolding cell_at
  cell-first h = rw (← r, lt-ltb k 2 h)

  module _ (h : 2 ≤ k) where
    pub cell-blank : (get_or line p 0 ≡ 44 → ⊥) → p ≡ cell_at line k at
    unfolding cell_at
    cell-blank e = rw (← r, le-ltb k 2 h, ne_eqb (get_or line p 0) 44 e)

    pub cell-comma : get_or line p 0 ≡ 44 → run_end Blank line (p + 1) ≡ cell_at line k at
    unfolding cell_at
    cell-comma e = rw (← r, le-ltb k 2 h, eq-eqb (get_or line p 0) 44 e)

pub cell-inside : (line : List ℕ) (k at : ℕ) → at ≤ length line → cell_at line k at ≤ length line
unfolding cell_at
cell-inside line k at h = by (ltb k 2) (eqb (get_or line (run_end Blank line at) 0) 44) refl refl
  where
    by : (s t : Bool) → ltb k 2 ≡ s → eqb (get_or line (run_end Blank line at) 0) 44 ≡ t → cell_at line k at ≤ length line
    by true t d e = rw d (run_inside Blank line at h)
    by false false d e = rw (d, e) (run_inside Blank line at h)
    by false true d e =
        let i = inside line (run_end Blank line at) (eqb-true _ _ e) in
        rw (d, e) (run_inside Blank line (run_end Blank line at + 1) (omega arith))

-- ---- taken

module _ (line : List ℕ) (p w : ℕ) where
  pub taken_none : ended line p ≡ true → took p p (entry 4 0 0) ≡ taken line p w
  unfolding taken
  taken_none e = rw e

  module _ (e : ended line p ≡ false) where
    pub taken-empty : get_or line p 0 ≡ 44 → took p p (entry 6 0 0) ≡ taken line p w
    unfolding taken
    taken-empty f = rw (e, eq-eqb (get_or line p 0) 44 f)

    pub taken_word :
        (to : ℕ) (x : Entry) → (get_or line p 0 ≡ 44 → ⊥) → to ≡ run_end Word line p → x ≡ entry_of w (word_at line p to) → took p to x ≡ taken line p w
    unfolding taken
    taken_word to x f g h = rw (e, ne_eqb (get_or line p 0) 44 f, ← g, h)

pub taken-inside : (line : List ℕ) (p w : ℕ) → p ≤ length line → (taken line p w).to ≤ length line
unfolding taken
taken-inside line p w h = by (ended line p) (eqb (get_or line p 0) 44) refl refl
  where
    by : (s t : Bool) → ended line p ≡ s → eqb (get_or line p 0) 44 ≡ t → (taken line p w).to ≤ length line
    by true t d e = rw d h
    by false true d e = rw (d, e) h
    by false false d e = rw (d, e) (run_inside Word line p h)

-- ---- values_from

module _ (line widths : List ℕ) (n k at : ℕ) (ns xs : List ℕ) where
  -- One value more is taken, or one that cannot be.
  module _ (t : Taken) (e : t ≡ taken line (cell_at line k at) (get_or widths k 0)) (l : k < n) where
    pub values-turn :
        (slot : ℕ) → slot ≡ k → t.error ≡ 0 →
        values_from line widths (n - k) k at ns xs
        ≡ values_from line widths (n - (k + 1)) (k + 1) t.to (set ns slot t.number) (set xs slot t.unknown)
    unfolding values_from
    values-turn slot p z =
        let m : n - k ≡ suc (n - (k + 1)) = omega arith in rw (m, ← e, p, eq-eqb t.error 0 z)

    pub values-stop :
        (t.error ≡ 0 → ⊥) → values_from line widths (n - k) k at ns xs ≡ line_with t.error t.column k ns xs
    unfolding values_from
    values-stop z = let m : n - k ≡ suc (n - (k + 1)) = omega arith in rw (m, ← e, ne_eqb t.error 0 z)

  pub values-done :
      (p x : ℕ) → p ≡ run_end Blank line at → x ≡ surplus line p → n ≤ k →
      values_from line widths (n - k) k at ns xs ≡ line_with x (p + 1) k ns xs
  unfolding values_from
  values-done p x r e l = let m : n - k ≡ 0 = omega arith in rw (m, ← r, e)

-- ---- line_of

module _ (line widths : List ℕ) (inputs p : ℕ) (r : p ≡ run_end Blank line 0) where
  pub line-none :
      ended line p ≡ true → line_with 1 (p + 1) 1 (replicate 16 0) (replicate 16 0) ≡ line_of line widths inputs
  unfolding line_of
  line-none e = rw (← r, e)

  pub line-some : ended line p ≡ false → values_of line widths inputs (first_place line inputs p) ≡ line_of line widths inputs
  unfolding line_of
  line-some e = rw (← r, e)

-- ---- first_place

module _ (line : List ℕ) (inputs p : ℕ) where
  pub first-many : 2 ≤ inputs → p ≡ first_place line inputs p
  unfolding first_place
  first-many h = rw (le-ltb inputs 2 h)

  pub first-other : inputs < 2 → (get_or line p 0 ≡ 45 → ⊥) → p ≡ first_place line inputs p
  unfolding first_place
  first-other h e = rw (lt-ltb inputs 2 h, ne_eqb (get_or line p 0) 45 e)

  pub first-long : inputs < 2 → get_or line p 0 ≡ 45 → (run_end Word line p ≡ p + 1 → ⊥) → p ≡ first_place line inputs p
  unfolding first_place
  first-long h e f = rw (lt-ltb inputs 2 h, eq-eqb (get_or line p 0) 45 e, ne_eqb (run_end Word line p) (p + 1) f)

  pub first-dash : inputs < 2 → get_or line p 0 ≡ 45 → run_end Word line p ≡ p + 1 → p + 1 ≡ first_place line inputs p
  unfolding first_place
  first-dash h e f = rw (lt-ltb inputs 2 h, eq-eqb (get_or line p 0) 45 e, eq-eqb (run_end Word line p) (p + 1) f)

pub first-inside : (line : List ℕ) (inputs p : ℕ) → p < length line → first_place line inputs p ≤ length line
unfolding first_place
first-inside line inputs p h =
    pick-le (ltb inputs 2) (pick (eqb (get_or line p 0) 45 && eqb (run_end Word line p) (p + 1)) (p + 1) p) p (length line) (pick-le (eqb (get_or line p 0) 45 && eqb (run_end Word line p) (p + 1)) (p + 1) p (length line) (omega arith) (omega arith)) (omega arith)
  where
    pick-le : (t : Bool) (a b n : ℕ) → a ≤ n → b ≤ n → pick t a b ≤ n
    pick-le true a b n x y = x
    pick-le false a b n x y = y
