-- One turn of the loop that puts a line for each thread. Assumes nothing.
use mathlib.Core.Path.{◌≡◌, refl, ap, ◌∙◌}
use mathlib.Core.List.{List}
use Prim.Native.Nat.{ℕ, ◌+◌}
use native.Mathlib.Numerals.{add-one}
use Rattle.writing.specs.Buffer.{Text, puts}
use Rattle.writing.proofs.Buffer.{both}
use Rattle.rules.specs.Judging.{size_of, waits_in}
use Rattle.overview.specs.Shown.{thread_line, thread_lines}

module _ (s code sizes : List ℕ) where
  pub threads-none : (t : Text) → t ≡ puts t (thread_lines s code sizes 0)
  unfolding thread_lines puts
  threads-none t = refl

  pub threads-turn : (i : ℕ) (t u v : Text) {n w : ℕ} → u ≡ puts t (thread_lines s code sizes i) → n ≡ size_of sizes i
      → w ≡ waits_in s code i n → v ≡ puts u (thread_line i n w) → v ≡ puts t (thread_lines s code sizes (i + 1))
  unfolding thread_lines
  threads-turn i t u v a e f b =
      rw (add-one i)
      (both t u v (thread_lines s code sizes i) _ a
      (b ∙ (λ j. puts u (thread_line i (e j) ((f ∙ ap (waits_in s code i) e) j)))))
