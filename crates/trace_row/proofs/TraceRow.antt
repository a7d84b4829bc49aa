-- A row of a trace as its part of the trace: past the trace, where the trace ends within it, and whole. Assumes nothing.
use mathlib.Core.Path.{◌≡◌, sym, ap, ◌∙◌}
use mathlib.Core.List.{List}
use Prim.Native.Nat.{ℕ, ◌+◌, ◌-◌, ◌*◌, ◌/◌, ◌≤◌, ◌<◌}
use native.Mathlib.Omega.{arith}
use lib.ListN.{length, take, drop, length-drop, drop_of_length-le}
use lib.Seq.{take_all, take-nil}
use Rattle.trace_row.specs.TraceRow.{row_of}

module _ (t : List ℕ) (r : ℕ) where
  pub row-past : length t / 88 < r → take (length t - length t) (drop (length t) t) ≡ row_of t r
  unfolding row_of
  row-past h =
      let l : length t ≤ r * 88 = omega arith in
      rw (drop_of_length-le t {i = length t} (omega arith), drop_of_length-le t l, take-nil, take-nil)

  pub row-short : length t - r * 88 < 88 → take (length t - r * 88) (drop (r * 88) t) ≡ row_of t r
  unfolding row_of
  row-short h =
      take_all (length t - r * 88) (drop (r * 88) t) (rw length-drop (omega arith))
      ∙ sym (take_all 88 (drop (r * 88) t) (rw length-drop (omega arith)))

  pub row-whole : take (r * 88 + 88 - r * 88) (drop (r * 88) t) ≡ row_of t r
  unfolding row_of
  row-whole = let e : r * 88 + 88 - r * 88 ≡ 88 = omega arith in ap (λ n. take n (drop (r * 88) t)) e
