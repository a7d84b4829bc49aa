-- Laws of the tokens that could have stood there. Assumes nothing.
use mathlib.Core.Path.{◌≡◌, refl, sym, ap, ◌∙◌}
use mathlib.Core.Bool.{Bool, true, false}
use mathlib.Core.List.{List, []}
use Prim.Native.Nat.{ℕ, suc, ◌+◌, ◌-◌, ◌≤◌, ◌<◌}
use native.Mathlib.Omega.{arith}
use Rattle.values.specs.Values.{pick}
use Rattle.writing.specs.Buffer.{Text, puts}
use Rattle.writing.proofs.Buffer.{puts-nil, puts-append}
use Rattle.verilog_scan.specs.Scan.{Scanned}
use Rattle.verilog_errors.specs.Choices.{zeros, short, stop_in, row, choices_from, could_row, choices_in, choice_words}

module _ (test : ℕ → Bool) (n : ℕ) (first : Bool) (t : Text) where
  pub rows-over : 45 ≤ n → t ≡ puts t (choices_from test (45 - n) n first)
  unfolding choices_from
  rows-over h = let k : 45 - n ≡ 0 = omega arith in rw k (sym (puts-nil t))

  pub rows-turn : n < 45 → (b g : Bool) → b ≡ test n → g ≡ pick b false first → (u : Text) → u ≡ puts t (row b first n)
      → puts u (choices_from test (45 - (n + 1)) (n + 1) g) ≡ puts t (choices_from test (45 - n) n first)
  unfolding choices_from
  rows-turn h b g e d u p =
      let k : 45 - n ≡ suc (45 - (n + 1)) = omega arith in
      rw (k, d, p, e) (sym (puts-append t (row (test n) first n) (choices_from test (45 - (n + 1)) (n + 1) (pick (test n) false first))))

pub choices-whole : (t u : Text) (text : List ℕ) {ks ns ps : List ℕ} {n m i : ℕ}
    → Scanned text (zeros 16385) ks (zeros 16385) ns (zeros 16385) ps n → m ≡ short n → i ≡ stop_in ks ns m
    → u ≡ puts t (choices_from (could_row ks ns m i) 45 0 true) → u ≡ puts t (choice_words text)
unfolding choice_words choices_in
choices-whole t u text s e d p = rw (d, e, s.kinds-scanned, s.numbers-scanned, s.counted) at p
