-- What a loop over the places of a list of marks has shown once it has passed the first `i` of them.
-- Assumes nothing.
use mathlib.Core.Path.{◌≡◌, refl, sym, ◌∙◌}
use mathlib.Core.Bool.{Bool, true, false}
use mathlib.Core.List.{List}
use Prim.Native.Nat.{ℕ, ◌+◌, ◌≤◌, ◌<◌}
use native.Mathlib.Nat.{le_refl}
use native.Mathlib.Omega.{arith}
use borrow.Author.Count.{below_none, below_more}
use lib.ListN.{length, get_or, set}
use lib.Seq.{ext_get_or, get_or-set_same, get_or-set_other}
use Rattle.masks.specs.Masks.{odd, digits, bits}
use Rattle.masks.proofs.Masks.{any_none}

-- ---- Agree: the same marks below i

abbrev pub Agree : ℕ → List Bool → List Bool → Type 0
Agree i xs ys = (k : ℕ) → k < i → get_or xs k false ≡ get_or ys k false

pub agree-zero : (xs ys : List Bool) → Agree 0 xs ys
agree-zero xs ys = below_none (λ (k : ℕ). get_or xs k false ≡ get_or ys k false)

pub agree-more :
    (xs ys : List Bool) (i : ℕ) → Agree i xs ys → get_or xs i false ≡ get_or ys i false →
    Agree (i + 1) xs ys
agree-more xs ys i h e = below_more (λ (k : ℕ). get_or xs k false ≡ get_or ys k false) i h e

pub agree-set :
    (xs ys : List Bool) (i : ℕ) (b : Bool) → i < length xs → b ≡ get_or ys i false →
    Agree i xs ys → Agree (i + 1) (set xs i b) ys
agree-set xs ys i b l e h =
    agree-more (set xs i b) ys i
    (λ k m. get_or-set_other xs i k b false (λ p. omega arith) ∙ h k m)
    (get_or-set_same xs i b false l ∙ e)

pub agree-all : (n : ℕ) (xs ys : List Bool) → length xs ≡ n → length ys ≡ n → Agree n xs ys → xs ≡ ys
agree-all n xs ys e f h = ext_get_or false xs ys (e ∙ sym f) (λ k l. h k (rw e at l))

-- ---- Copied: the marks of ys below i, and none from i on

pub record Copied (i : ℕ) (xs ys : List Bool) : Type 0 where
  pub same : Agree i xs ys
  pub none : (k : ℕ) → i ≤ k → get_or xs k false ≡ false

pub copied-zero : (ys : List Bool) → Copied 0 (bits 0) ys
unfolding bits digits odd
copied-zero ys = record { same = agree-zero (bits 0) ys; none = λ k l. any_none (bits 0) refl k }

module _ (xs ys : List Bool) (i : ℕ) (c : Copied i xs ys) where
  pub copied-up : i < length xs → get_or ys i false ≡ true → Copied (i + 1) (set xs i true) ys
  copied-up l e = record {
    same = agree-set xs ys i true l (sym e) c.same;
    none = λ k m. get_or-set_other xs i k true false (λ p. omega arith) ∙ c.none k (omega arith);
  }

  pub copied-down : get_or ys i false ≡ false → Copied (i + 1) xs ys
  copied-down e = record {
    same = agree-more xs ys i c.same (c.none i (le_refl i) ∙ sym e);
    none = λ k m. c.none k (omega arith);
  }
