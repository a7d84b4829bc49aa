-- Laws of characters and runs of them: each row of a definition, and how a loop goes along a run. Assumes nothing.
use mathlib.Core.Path.{◌≡◌, refl}
use mathlib.Core.Bool.{Bool, true, false, not}
use mathlib.Core.List.{List, [], ◌∷◌}
use Prim.Native.Nat.{ℕ, suc, ◌+◌, ◌<◌, ◌≤◌}
use native.Mathlib.Nat.{add-zero}
use native.Mathlib.Numerals.{add-one}
use native.Mathlib.Omega.{arith}
use borrow.Author.Tests.{lt-ltb, le-ltb, eq-eqb, ne_eqb}
use lib.Dec.{eqb}
use lib.ListN.{length, get_or, drop, length-drop, drop_of_length-le}
use lib.Seq.{drop-cons}
use Rattle.verilog_tokens.specs.declared.Class.{Class}
use Rattle.verilog_tokens.specs.declared.Class.TheVariants.{Space, Word, Comment, Decimal, Binary, Octal, Hexadecimal, Underscore}
use Rattle.verilog_tokens.specs.Characters.{is_newline, is_space, is_letter, is_below, is_x, is_z, is_underscore, is_digit, is_named, is_text}
use Rattle.verilog_tokens.specs.Characters.{in_class, span, run_end}

-- ---- run_end

module _ (c : Class) where
  pub span-few : (l : List ℕ) → span c l ≤ length l
  unfolding span
  span-few [] = omega arith
  span-few (b ∷ bs) = by (in_class c b) refl (span-few bs)
    where
      by : (t : Bool) → in_class c b ≡ t → span c bs ≤ length bs → span c (b ∷ bs) ≤ suc (length bs)
      by true e h = rw e (omega arith)
      by false e h = rw e (omega arith)

  module _ (text : List ℕ) (i : ℕ) where
    pub run-after : i ≤ run_end c text i
    unfolding run_end
    run-after = omega arith

    pub run_inside : i ≤ length text → run_end c text i ≤ length text
    unfolding run_end
    run_inside h = omega (arith, span-few (drop i text), length-drop i text)

    pub run-stays : i < length text → in_class c (get_or text i 0) ≡ false → run_end c text i ≡ i
    unfolding run_end span
    run-stays l e = rw (drop-cons text i 0 l, e) (add-zero i)

    pub run-goes : i < length text → in_class c (get_or text i 0) ≡ true → run_end c text i ≡ run_end c text (i + 1)
    unfolding run_end span
    run-goes l e = rw (drop-cons text i 0 l, e, add-one i) (omega arith)

    pub run-done : length text ≤ i → run_end c text i ≡ i
    unfolding run_end span
    run-done l = rw (drop_of_length-le text l) (add-zero i)
