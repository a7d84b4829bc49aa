-- Laws of add_at by the tests of the code. Assumes nothing.
use mathlib.Core.Path.{◌≡◌, refl, ◌∙◌}
use mathlib.Core.List.{List}
use Prim.Native.Nat.{ℕ, zero, suc, ◌+◌, ◌-◌, ◌≤◌, ◌<◌}
use native.Mathlib.Numerals.{sub-one}
use borrow.Author.Tests.{lt-ltb, le-ltb, ne_eqb}
use lib.ListN.{get_or}
use Rattle.values.specs.Operators.{unary_width, binary_width}
use Rattle.sheet.specs.Reading.{word_of}
use Rattle.plan.specs.Plan.{width_at}
use Rattle.plan_exprs.specs.declared.Added.{Added}
use Rattle.plan_exprs.specs.Flatten.{adding, made, none, emit, add_unary, add_binary, add_conditional, add_node, add_at}

module _ (s : List ℕ) (p n : ℕ) (ws : List ℕ) where
  pub add_none : (d : ℕ) → d ≡ 0 → add_at d s p n ws ≡ made (none p n) ws
  unfolding add_at
  add_none d e = rw e refl

  pub add-far : (d : ℕ) → 8192 ≤ p → add_at d s p n ws ≡ made (none p n) ws
  unfolding add_at
  add-far zero h = refl
  add-far (suc d) h = simp (le-ltb _ _ h)

  add-map : (d m : ℕ) → (d ≡ 0 → ⊥) → p < 8192 → get_or s p 0 ≡ m → add_at d s p n ws ≡ add_node s (add_at (d - 1) s) m p n ws
  unfolding add_at
  add-map zero m k h e = absurd (k refl)
  add-map (suc d) m k h e = simp (lt-ltb _ _ h, e, sub-one)

  module _ (d o : ℕ) (k : d ≡ 0 → ⊥) (h : p < 8192) (f : get_or s (p + 1) 0 ≡ o) where
    pub add-variable : get_or s p 0 ≡ 0x02 → add_at d s p n ws ≡ adding o n (width_at ws o) (p + 2) ws
    unfolding add_node
    add-variable e = add-map d _ k h e ∙ rw f

    pub add-constant : (v : ℕ) → get_or s p 0 ≡ 0x0C → word_of s (p + 2) ≡ v → add_at d s p n ws ≡ emit n 1 0 v 0 o (p + 6) ws
    unfolding add_node
    add-constant v e g = add-map d _ k h e ∙ rw (f, g)

    pub add-unknown : (m : ℕ) → get_or s p 0 ≡ m → (m ≡ 0x02 → ⊥) → (m ≡ 0x0C → ⊥) → (m ≡ 0x11 → ⊥) → (m ≡ 0x31 → ⊥) → (m ≡ 0x71 → ⊥)
        → add_at d s p n ws ≡ emit n 2 0 0 o o (p + 2) ws
    unfolding add_node
    add-unknown m e a b c x y = add-map d m k h e ∙ simp (f, ne_eqb _ _ a, ne_eqb _ _ b, ne_eqb _ _ c, ne_eqb _ _ x, ne_eqb _ _ y)

    module _ (a : Added) (us : List ℕ) (y : made a us ≡ add_at (d - 1) s (p + 2) n ws) where
      pub add-unary : get_or s p 0 ≡ 0x11
          → add_at d s p n ws ≡ emit a.free (10 + o) a.root 0 a.width (unary_width o a.width) a.next us
      unfolding add_node add_unary
      add-unary e = add-map d _ k h e ∙ rw (f, ← y)

      module _ (b : Added) (vs : List ℕ) (z : made b vs ≡ add_at (d - 1) s a.next a.free us) where
        pub add-binary : get_or s p 0 ≡ 0x31
            → add_at d s p n ws ≡ emit b.free (10 + o) a.root b.root a.width (binary_width o a.width) b.next vs
        unfolding add_node add_binary
        add-binary e = add-map d _ k h e ∙ rw (f, ← y, ← z)

        pub add-conditional : (c : Added) (xs : List ℕ) → made c xs ≡ add_at (d - 1) s b.next b.free vs → get_or s p 0 ≡ 0x71
            → add_at d s p n ws ≡ emit c.free 20 a.root b.root c.root b.width c.next xs
        unfolding add_node add_conditional
        add-conditional c xs x e = add-map d _ k h e ∙ rw (← y, ← z, ← x)
