-- Laws of the heads: what is noted one after the other, one turn of each loop, and how many there are. Assumes nothing.
use mathlib.Core.Path.{◌≡◌, refl, sym, ap, ◌∙◌}
use mathlib.Core.List.{List, [], ◌∷◌, ◌++◌}
use Prim.Native.Nat.{ℕ, zero, suc, ◌+◌, ◌*◌, ◌≤◌, ◌<◌}
use native.Mathlib.Nat.{add-zero, le_refl}
use native.Mathlib.Numerals.{add-one}
use native.Mathlib.Omega.{arith}
use borrow.Author.Tests.{lt-ltb, le-ltb}
use lib.ListN.{length, set, length-append}
use Rattle.pseudocode.specs.declared.Instruction.{Instruction}
use Rattle.pseudocode.specs.declared.Instruction.TheVariants.{Wait, Act}
use Rattle.pseudocode.specs.Fetching.{fetch_at}
use Rattle.rules.specs.Judging.{size_of, wait_of, waits_in, waits_of}
use Rattle.rules.proofs.Counting.{size_of-most, waits-most}
use Rattle.overview.specs.Heads.{Noted, noted, note, notes, head_of, heads_in, heads_of}

-- ---- notes

pub note-in : (t : Noted) (h : ℕ) → t.count < 32 → notes t (h ∷ []) ≡ noted (set t.heads t.count h) (t.count + 1)
unfolding notes note
note-in t h l = simp (lt-ltb _ _ l)

pub note-full : (t : Noted) (h : ℕ) → 32 ≤ t.count → notes t (h ∷ []) ≡ noted t.heads (t.count + 1)
unfolding notes note
note-full t h l = simp (le-ltb _ _ l)

pub notes-nil : (t : Noted) → notes t [] ≡ t
unfolding notes
notes-nil t = refl

pub notes-append : (t : Noted) (a b : List ℕ) → notes t (a ++ b) ≡ notes (notes t a) b
unfolding notes
notes-append t [] b = refl
notes-append t (x ∷ a) b = notes-append (note t x) a b

pub notes-count : (t : Noted) (a : List ℕ) → (notes t a).count ≡ t.count + length a
unfolding notes note
notes-count t [] = sym (add-zero t.count)
notes-count t (x ∷ a) = omega (arith, notes-count (note t x) a)

-- Some noted, then more.
pub noted-both : (t u v : Noted) (a b : List ℕ) → u ≡ notes t a → v ≡ notes u b → v ≡ notes t (a ++ b)
noted-both t u v a b p q = q ∙ ap (λ x. notes x b) p ∙ sym (notes-append t a b)

-- ---- how many: as many as waits

head-length : (x : Instruction) (i p : ℕ) → length (head_of x i p) ≡ wait_of x
unfolding head_of wait_of
head-length (Wait t) i p = refl
head-length (Act a) i p = refl

module _ (s code : List ℕ) where
  pub in-length : (i n : ℕ) → length (heads_in s code i n) ≡ waits_in s code i n
  unfolding heads_in waits_in
  in-length i zero = refl
  in-length i (suc n) =
      length-append (heads_in s code i n) (head_of (fetch_at s code i n) i n)
      ∙ λ j. in-length i n j + head-length (fetch_at s code i n) i n j

  pub of_length : (sizes : List ℕ) (n : ℕ) → length (heads_of s code sizes n) ≡ waits_of s code sizes n
  unfolding heads_of waits_of
  of_length sizes zero = refl
  of_length sizes (suc n) =
      length-append (heads_of s code sizes n) (heads_in s code n (size_of sizes n))
      ∙ λ j. of_length sizes n j + in-length n (size_of sizes n) j

  of-short : (sizes : List ℕ) (n : ℕ) → waits_of s code sizes n ≤ 256 * n
  unfolding waits_of
  of-short sizes zero = le_refl 0
  of-short sizes (suc n) = omega (arith, of-short sizes n, waits-most s code n (size_of sizes n), size_of-most sizes n)

  -- ---- one turn of each loop

  pub in-none : (i : ℕ) (t : Noted) → t ≡ notes t (heads_in s code i 0)
  unfolding heads_in notes
  in-none i t = refl

  pub in-turn : (i p : ℕ) (t u v : Noted) {x : Instruction} → u ≡ notes t (heads_in s code i p) → x ≡ fetch_at s code i p
      → v ≡ notes u (head_of x i p) → v ≡ notes t (heads_in s code i (p + 1))
  unfolding heads_in
  in-turn i p t u v a e b =
      rw (add-one p) (noted-both t u v (heads_in s code i p) _ a (b ∙ ap (λ y. notes u (head_of y i p)) e))

  pub in-most : (i p : ℕ) (t u : Noted) → u ≡ notes t (heads_in s code i p) → u.count ≤ t.count + p
  in-most i p t u a =
      let n = ap (λ (w : Noted). w.count) a ∙ notes-count t (heads_in s code i p) in
      omega (arith, n, in-length i p, waits-most s code i p)

  pub of_none : (sizes : List ℕ) (t : Noted) → t ≡ notes t (heads_of s code sizes 0)
  unfolding heads_of notes
  of_none sizes t = refl

  pub of-turn : (sizes : List ℕ) (i : ℕ) (t u v : Noted) {n : ℕ} → u ≡ notes t (heads_of s code sizes i) → n ≡ size_of sizes i
      → v ≡ notes u (heads_in s code i n) → v ≡ notes t (heads_of s code sizes (i + 1))
  unfolding heads_of
  of-turn sizes i t u v a e b =
      rw (add-one i) (noted-both t u v (heads_of s code sizes i) _ a (b ∙ ap (λ k. notes u (heads_in s code i k)) e))

  pub of-most : (sizes : List ℕ) (i : ℕ) (t u : Noted) → u ≡ notes t (heads_of s code sizes i) → u.count ≤ t.count + 256 * i
  of-most sizes i t u a =
      let n = ap (λ (w : Noted). w.count) a ∙ notes-count t (heads_of s code sizes i) in
      omega (arith, n, of_length sizes i, of-short sizes i)
