-- Variables have different plain names.
-- Assumes nothing.
use mathlib.Core.Path.{◌≡◌, refl, sym, ap, ◌∙◌}
use mathlib.Core.Bool.{Bool, true, false}
use mathlib.Core.List.{List}
use Prim.Native.Nat.{ℕ, ◌+◌, ◌-◌, ◌≤◌, ◌<◌}
use native.Mathlib.Omega.{arith}
use lib.Dec.{ltb}
use borrow.Author.Tests.{ltb-true, ltb-false}
use Rattle.writing.specs.Ascii.{byte}
use Rattle.writing.specs.Numbers.{decimal}
use Rattle.writing.proofs.Numbers.{number, number-decimal}
use Rattle.naming.specs.Naming.{plain_mark, plain_number, plain_name}
use Rattle.naming.proofs.Naming.{plain_mark-input, plain_mark-register, plain_mark-wire, plain_number-input, plain_number-register, plain_number-wire, plain_number-≤}

module _ (i r : ℕ) where
  data Phase (v : ℕ) : Type 0 where
    input : v < i → Phase v
    register : i ≤ v → v < i + r → Phase v
    wire : i ≤ v → i + r ≤ v → Phase v

  phase : (v : ℕ) → Phase v
  phase v = by (ltb v i) (ltb v (i + r)) refl refl
    where
      by : (x y : Bool) → ltb v i ≡ x → ltb v (i + r) ≡ y → Phase v
      by true y p q = input (ltb-true v i p)
      by false true p q = register (ltb-false v i p) (ltb-true v (i + r) q)
      by false false p q = wire (ltb-false v i p) (ltb-false v (i + r) q)

  same-decimal : (a b : ℕ) → a < 256 → b < 256 → decimal a ≡ decimal b → a ≡ b
  same-decimal a b h k e = sym (number-decimal a (omega arith)) ∙ ap (λ (l : List ℕ). number 0 l) e ∙ number-decimal b (omega arith)

  apart : (u v : ℕ) → Phase u → Phase v → plain_mark i r u ≡ plain_mark i r v → plain_number i r u ≡ plain_number i r v → u ≡ v
  apart u v (input a) (input b) p q = sym (plain_number-input i r u a) ∙ q ∙ plain_number-input i r v b
  apart u v (input a) (register b c) p q =
      let z : byte "i" ≡ byte "r" = sym (plain_mark-input i r u a) ∙ p ∙ plain_mark-register i r v b c in absurd (omega arith)
  apart u v (input a) (wire b c) p q =
      let z : byte "i" ≡ byte "w" = sym (plain_mark-input i r u a) ∙ p ∙ plain_mark-wire i r v b c in absurd (omega arith)
  apart u v (register a b) (input c) p q =
      let z : byte "r" ≡ byte "i" = sym (plain_mark-register i r u a b) ∙ p ∙ plain_mark-input i r v c in absurd (omega arith)
  apart u v (register a b) (register c d) p q =
      let z : u - i ≡ v - i = sym (plain_number-register i r u a b) ∙ q ∙ plain_number-register i r v c d in omega arith
  apart u v (register a b) (wire c d) p q =
      let z : byte "r" ≡ byte "w" = sym (plain_mark-register i r u a b) ∙ p ∙ plain_mark-wire i r v c d in absurd (omega arith)
  apart u v (wire a b) (input c) p q =
      let z : byte "w" ≡ byte "i" = sym (plain_mark-wire i r u a b) ∙ p ∙ plain_mark-input i r v c in absurd (omega arith)
  apart u v (wire a b) (register c d) p q =
      let z : byte "w" ≡ byte "r" = sym (plain_mark-wire i r u a b) ∙ p ∙ plain_mark-register i r v c d in absurd (omega arith)
  apart u v (wire a b) (wire c d) p q =
      let z : u - (i + r) ≡ v - (i + r) = sym (plain_number-wire i r u a b) ∙ q ∙ plain_number-wire i r v c d in omega arith

  pub plain-distinct : (u v : ℕ) → u < 256 → v < 256 → plain_name i r u ≡ plain_name i r v → u ≡ v
  unfolding plain_name
  plain-distinct u v h k e =
      let p : plain_mark i r u ≡ plain_mark i r v = cc in
      let q : decimal (plain_number i r u) ≡ decimal (plain_number i r v) = cc in
      let a = plain_number-≤ i r u in
      let b = plain_number-≤ i r v in
      apart u v (phase u) (phase v) p (same-decimal (plain_number i r u) (plain_number i r v) (omega arith) (omega arith) q)
