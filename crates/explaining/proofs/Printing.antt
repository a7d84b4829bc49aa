-- Laws of the text over any bytes: lines, by names.
use mathlib.Core.Path.{◌≡◌, ap, ◌∙◌}
use Prim.Native.Nat.{ℕ, ◌+◌, ◌≤◌}
use native.Mathlib.Omega.{arith}
use mathlib.Core.List.{List}
use mathlib.Core.Bool.{Bool, true, false}
use lib.ListN.{get_or}
use borrow.Author.Tests.{ne_eqb}
use Rattle.writing.specs.Ascii.{ascii}
use Rattle.writing.specs.Numbers.{decimal}
use Rattle.writing.specs.Buffer.{Text, puts}
use Rattle.writing.proofs.Buffer.{both}
use Rattle.verilog.specs.Verilog.{◌&◌, indent}
use Rattle.verilog.specs.Printing.{Left, leaves, shown_at, terms_at}
use Rattle.verilog.proofs.Printing.{leaves-puts}
use Rattle.explaining.specs.Explaining.{heading_text}
use Rattle.explaining.specs.Walking.{said, deeper, assign_line, condition_line, wait_line}

-- ---- said, deeper

pub said-on : (b : Bool) (t : Text) (x : List ℕ) → b ≡ true → said b t x ≡ puts t x
unfolding said
said-on b t x e = rw e

pub said-off : (b : Bool) (t : Text) (x : List ℕ) → b ≡ false → said b t x ≡ t
unfolding said
said-off b t x e = rw e

pub deeper-most : (b : Bool) (n : ℕ) → deeper b n ≤ n + 1
unfolding deeper
deeper-most true n = omega arith
deeper-most false n = omega arith

pub heading-wait : (k : ℕ) → (k ≡ 0 → ⊥) → heading_text k ≡ (ascii "  from wait " & decimal k & ascii ":\n")
unfolding heading_text
heading-wait k h = simp (ne_eqb k 0 h)

module _ (name : ℕ → List ℕ) (s ds : List ℕ) where
  -- ---- lines, from what the code's calls give

  module _ (n p : ℕ) (t : Text) where
    pub assign-path : (sign : List ℕ) {v w : ℕ} {a b c e : Text} {l : Left} → v ≡ get_or s p 0 → w ≡ v → a ≡ puts t (indent n)
        → b ≡ puts a (name w) → c ≡ puts b sign → l ≡ leaves c (shown_at name s ds 16 (p + 1)) → e ≡ puts l.text (ascii ";\n")
        → e ≡ puts t (assign_line name s ds sign n p)
    unfolding assign_line
    assign-path sign {c = c} {l = l} ev ew ea eb ec el ee =
        both _ _ _ _ _ ea (both _ _ _ _ _ (eb ∙ ap (puts _) (ap name (ew ∙ ev)))
        (both _ _ _ _ _ ec (both _ _ _ _ _ (leaves-puts c l _ el) ee)))

    pub condition-path : {a c e : Text} {l : Left} → a ≡ puts t (indent n) → c ≡ puts a (ascii "if (")
        → l ≡ leaves c (shown_at name s ds 16 p) → e ≡ puts l.text (ascii ") begin\n")
        → e ≡ puts t (condition_line name s ds n p)
    unfolding condition_line
    condition-path {c = c} {l = l} ea ec el ee =
        both _ _ _ _ _ ea (both _ _ _ _ _ ec (both _ _ _ _ _ (leaves-puts c l _ el) ee))

module _ (name : ℕ → List ℕ) (s : List ℕ) (n p : ℕ) (t : Text) where
  pub wait-path : (k : ℕ) {v : ℕ} {a b c d e f : Text} → v ≡ get_or s p 0 → a ≡ puts t (indent n) → b ≡ puts a (ascii "@(")
      → c ≡ puts b (terms_at name s v 0 (p + 1)) → d ≡ puts c (ascii "); // wait ") → e ≡ puts d (decimal k)
      → f ≡ puts e (ascii "\n") → f ≡ puts t (wait_line name s k n p)
  unfolding wait_line
  wait-path k {b = b} ev ea eb ec ed ee ef =
      both _ _ _ _ _ ea (both _ _ _ _ _ eb
      (both _ _ _ _ _ (ec ∙ ap (λ (x : ℕ). puts b (terms_at name s x 0 (p + 1))) ev)
      (both _ _ _ _ _ ed (both _ _ _ _ _ ee ef))))
