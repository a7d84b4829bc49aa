-- The rows of the tables that the code goes by, one law a row. Assumes nothing.
use mathlib.Core.Path.{◌≡◌}
use mathlib.Core.Bool.{true, false}
use Prim.Native.Nat.{ℕ, ◌+◌, ◌*◌, ◌-◌, ◌%◌, ◌<◌, ◌≤◌}
use mathlib.Core.List.{List}
use lib.Dec.{leb}
use lib.ListN.{set}
use borrow.Author.Tests.{lt-ltb, le-ltb, eq-eqb, ne_eqb}
use Rattle.hextext.specs.declared.Scan.{Scan}
use Rattle.hextext.specs.Characters.{digit_of, is_blank}
use Rattle.hextext.specs.Scanning.{next_line, along, first, second, failed, step}
use Rattle.hextext.specs.Decoding.{completes, byte_of, stored, full}
use Rattle.hextext.proofs.Characters.{digit-is, digit_not}

-- ---- digit_of

pub digit-decimal : (b : ℕ) → 48 ≤ b → b < 58 → b - 48 ≡ digit_of b
unfolding digit_of
digit-decimal b g h = rw (le-ltb b 48 g, lt-ltb b 58 h)

-- ---- step

module _ (s : Scan) (b : ℕ) where
  pub step-comment-end : s.comment ≡ true → b ≡ 10 → step s b ≡ next_line s
  unfolding step
  step-comment-end p e = rw (p, eq-eqb b 10 e)

  pub step-comment : s.comment ≡ true → (b ≡ 10 → ⊥) → step s b ≡ along true s
  unfolding step
  step-comment p e = rw (p, ne_eqb b 10 e)

  module _ (p : s.comment ≡ false) where
    pub step-second : s.half ≡ true → digit_of b < 16 → step s b ≡ second s
    unfolding step
    step-second q e = rw (p, q, digit-is b e)

    pub step-single : s.half ≡ true → 16 ≤ digit_of b → step s b ≡ failed 2 s
    unfolding step
    step-single q e = rw (p, q, digit_not b e)

    module _ (q : s.half ≡ false) where
      pub step-first : digit_of b < 16 → step s b ≡ first (digit_of b) s
      unfolding step
      step-first e = rw (p, q, digit-is b e)

      pub step-digit : (d : ℕ) → d ≡ digit_of b → d < 16 → step s b ≡ first d s
      step-digit d e h = rw e (step-first (rw e at h))

      pub step_line : 16 ≤ digit_of b → b ≡ 10 → step s b ≡ next_line s
      unfolding step
      step_line e f = rw (p, q, digit_not b e, eq-eqb b 10 f)

      pub step-mark : 16 ≤ digit_of b → (b ≡ 10 → ⊥) → b ≡ 35 → step s b ≡ along true s
      unfolding step
      step-mark e f g = rw (p, q, digit_not b e, ne_eqb b 10 f, eq-eqb b 35 g)

      pub step-blank : 16 ≤ digit_of b → (b ≡ 10 → ⊥) → (b ≡ 35 → ⊥) → is_blank b ≡ true → step s b ≡ along false s
      unfolding step
      step-blank e f g h = rw (p, q, digit_not b e, ne_eqb b 10 f, ne_eqb b 35 g, h)

      pub step-wrong : 16 ≤ digit_of b → (b ≡ 10 → ⊥) → (b ≡ 35 → ⊥) → is_blank b ≡ false → step s b ≡ failed 1 s
      unfolding step
      step-wrong e f g h = rw (p, q, digit_not b e, ne_eqb b 10 f, ne_eqb b 35 g, h)

-- ---- stored

module _ (l : List ℕ) (s : Scan) (b : ℕ) where
  pub stored-made :
      (d : ℕ) → d ≡ digit_of b → completes s b ≡ true → s.count < 8193 →
      set l s.count (s.high % 16 * 16 + d % 16) ≡ stored l s b
  unfolding stored byte_of
  stored-made d e p h = rw (p, lt-ltb s.count 8193 h, e)

  pub stored_past : completes s b ≡ true → 8193 ≤ s.count → l ≡ stored l s b
  unfolding stored
  stored_past p h = rw (p, le-ltb s.count 8193 h)

  pub stored-none : completes s b ≡ false → l ≡ stored l s b
  unfolding stored
  stored-none p = rw p

-- ---- full

pub full-count : (s : Scan) → s.error ≡ 0 → leb 8193 s.count ≡ full s
unfolding full
full-count s e = rw (eq-eqb s.error 0 e)
