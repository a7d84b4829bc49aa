-- Lengths that are none where they are 0. Assumes nothing.
use mathlib.Core.Path.{◌≡◌, refl, sym}
use Prim.Native.Nat.{ℕ, zero, suc}
use native.Mathlib.Omega.{arith}
use Rattle.std.specs.Prelude.{Option, Some, None}
use Rattle.std.proofs.lemmas.Option.{none-some, same_Some}
use Rattle.verilog_tokens.specs.Pieces.{some_length}

pub length_some : (n m : ℕ) → (n ≡ 0 → ⊥) → n ≡ m → Some n ≡ some_length m
length_some zero m h e = absurd (h refl)
length_some (suc n) m h e = rw (← e)

pub length_none : (m : ℕ) → 0 ≡ m → None ≡ some_length m
length_none m e = rw (← e)

pub is_length : (n m : ℕ) → Some n ≡ some_length m → (n ≡ m) × (n ≡ 0 → ⊥)
is_length n zero e = absurd (none-some n (sym e))
is_length n (suc m) e = let k = same_Some n (suc m) e in (k, λ z. omega arith)

pub no_length : (m : ℕ) → None ≡ some_length m → m ≡ 0
no_length zero e = refl
no_length (suc m) e = absurd (none-some (suc m) e)
